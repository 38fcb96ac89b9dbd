use Rattle.liveness.proofs.Peaks.{Finding}
use Rattle.liveness.proofs.largest.Given as goal

abbrev pub invariant-loop-i : goal.invariant-loop-i
invariant-loop-i l = Finding l.numbers l.count l.most l.i
