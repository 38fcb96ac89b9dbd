use borrow.Author.Rules.{rules}
use Rattle.reader.proofs.Answers.{schedule_formed, erasing_formed}
use Rattle.reader.proofs.lend_erase.Goals as goal

-- of any reading of a schedule
pub invariant_of-result : goal.invariant_of-result
invariant_of-result c =
    let was = c.in_ok-header.was in
    record { formed = search (rules, schedule_formed, erasing_formed) }
