use Rattle.risingwriter.proofs.Levels.{Turning}
use Rattle.risingwriter.proofs.turn_levels.Given as goal

abbrev pub invariant-loop-i : goal.invariant-loop-i
invariant-loop-i l = Turning l.header l.fn.records l.records l.count l.i
