use Rattle.prices.proofs.Laws.{Summing}
use Rattle.prices.proofs.summed_down.Given as goal

abbrev pub invariant-loop-done : goal.invariant-loop-done
invariant-loop-done l = Summing l.level l.count l.total l.done
