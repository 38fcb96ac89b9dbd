use Rattle.std.proofs.lemmas.Result.{err_from_is_err_and}
use Rattle.reader.proofs.Answers.{erasing_formed}
use Rattle.services.proofs.Steps.{replied_as}
use Rattle.risingwriter.proofs.Steps.{step_needs, out_refused, out_text}
use Rattle.risingwriter.proofs.put_rising.Goals as goal

pub invariant_of-table : goal.invariant_of-table
invariant_of-table c = record { formed = erasing_formed _ _ _ _ _ c.in_ok-header.was c.read_erase.ensures.records_after c.read_erase.ensures.filled }

pub returns-in_err-rules_answer : goal.returns-in_err-rules_answer
returns-in_err-rules_answer c =
    let p = err_from_is_err_and c.from_residual-in_err-rules_answer.result c.from_residual-in_err-rules_answer.ensures.1 in
    rw (p.1, p.2)
    (out_refused _ _ _ c.read_erase.ensures.records_after _ _ c.in_ok-header.was c.read_erase.ensures.filled c.listing_of.result c.listing_of.ensures _
    c.rules_answer.ensures.value _ _ c.in_err-rules_answer.was)

pub turn_levels-requires : goal.turn_levels-requires
turn_levels-requires c = search step_needs

pub returns : goal.returns
returns c =
    replied_as
    (out_text _ _ _ c.read_erase.ensures.records_after _ _ c.in_ok-header.was c.read_erase.ensures.filled c.listing_of.result c.listing_of.ensures _
    c.rules_answer.ensures.value c.turn_levels.new.records _ c.in_ok-rules_answer.was c.turn_levels.ensures)
    c.put_text.ensures
