-- `rules::rules_answer` meets its contract: the loop's invariant is `Checking`. Assumes nothing.
use Rattle.rules.proofs.Checking.{Checking}
use Rattle.rules.proofs.rules_answer.Given as goal

abbrev pub invariant-loop-i : goal.invariant-loop-i
invariant-loop-i l = Checking l.listing.header l.listing.records.now l.listing.count l.scales l.levels l.i
