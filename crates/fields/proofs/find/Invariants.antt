use Rattle.fields.specs.Places.{NoneBefore}
use Rattle.fields.proofs.find.Given as goal

abbrev pub invariant-loop-i : goal.invariant-loop-i
invariant-loop-i l = NoneBefore l.x l.s l.i
