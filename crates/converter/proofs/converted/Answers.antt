use Rattle.rules.proofs.Downscales.{done_below}
use Rattle.converter.proofs.converted.Goals as goal

pub put_schedule-requires-clause-downscales_below : goal.put_schedule-requires-clause-downscales_below
put_schedule-requires-clause-downscales_below c =
    let table = c.in_ok-table.table in
    done_below table.header table.records.now table.count table.formed _ _ _ c.rules_answer.ensures.value
    c.in_ok-rules_answer.was c.in_ok-rules_answer.ensures.scales
