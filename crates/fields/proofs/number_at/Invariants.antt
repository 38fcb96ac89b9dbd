use Prim.Native.Nat.{◌-◌}
use Rattle.fields.specs.Places.{DigitsRead}
use Rattle.fields.proofs.number_at.Given as goal

abbrev pub invariant-loop-at : goal.invariant-loop-at
invariant-loop-at l = DigitsRead l.s l.at l.start l.position l.value

-- how many bytes the field may still have
abbrev pub decreases-loop-at : goal.decreases-loop-at
decreases-loop-at l = 11 - l.position
