use Rattle.liveness.specs.Kept.{pairs_to}
use Rattle.liveness.proofs.put_pairs.Given as goal

abbrev pub invariant-loop-i : goal.invariant-loop-i
invariant-loop-i g l = g.S.Sink.took l.fn.sink (pairs_to l.entries l.counts l.i) l.sink
