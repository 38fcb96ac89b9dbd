-- `erasing::erase_table` meets its contract: the loop's invariant is `Filling`. Assumes nothing.
use Rattle.erasing.proofs.Filling.{Filling}
use Rattle.erasing.proofs.erase_table.Given as goal

abbrev pub invariant-loop-i : goal.invariant-loop-i
invariant-loop-i l = Filling l.schedule l.count l.erasure l.origins l.at l.i
