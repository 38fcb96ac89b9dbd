use Prim.Native.Nat.{◌-◌}
use Rattle.levels.proofs.Seeking.{Searching, Trying}
use Rattle.levels.proofs.least_level.Given as goal

abbrev pub invariant-loop-i : goal.invariant-loop-i
invariant-loop-i l = Trying l.circuit l.initial.level l.level l.header l.reserves l.i

abbrev pub invariant-levels : goal.invariant-levels
invariant-levels l = Searching l.circuit l.reserves l.level

abbrev pub decreases-levels : goal.decreases-levels
decreases-levels l = 60 - l.level
