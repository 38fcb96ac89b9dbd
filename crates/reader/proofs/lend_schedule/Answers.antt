use Rattle.reader.proofs.Answers.{schedule_formed}
use Rattle.reader.proofs.lend_schedule.Goals as goal

pub invariant_of-result : goal.invariant_of-result
invariant_of-result c =
    let t = c.in_ok-header.field-0 in
    record { formed = schedule_formed c.args.text.now c.read_schedule.result c.read_schedule.new.records t.header t.count c.in_ok-header.was c.read_schedule.ensures.records_after c.read_schedule.ensures.filled }
