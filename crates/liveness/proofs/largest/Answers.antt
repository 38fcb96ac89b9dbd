use Rattle.liveness.proofs.Peaks.{finding_more}
use Rattle.liveness.proofs.largest.Goals as goal

pub loop-i-preserved : goal.loop-i-preserved
loop-i-preserved c = finding_more _ _ _ _ c.loop-i.invariant _ c.loop-i-test.true c.max-most.ensures
