use Rattle.liveness.proofs.Counting.{Counting}
use Rattle.liveness.proofs.fill_counts.Given as goal

abbrev pub invariant-loop-i : goal.invariant-loop-i
invariant-loop-i l = Counting l.schedule l.count l.entries l.counts l.ends l.live l.i
