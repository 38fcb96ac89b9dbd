-- `erasing::compare_erasure` meets its contract: the loop's invariant is `Comparing`. Assumes nothing.
use Rattle.erasing.proofs.Comparing.{Comparing}
use Rattle.erasing.proofs.compare_erasure.Given as goal

abbrev pub invariant-loop-i : goal.invariant-loop-i
invariant-loop-i l = Comparing l.circuit.records.now l.circuit.count l.schedule.records.now l.schedule.count l.origins l.at l.i
