-- The loop of `plan_table`: `Planning` holds of its locals.
use Rattle.plantable.proofs.Planning.{Planning}
use Rattle.plantable.proofs.plan_table.Given as goal

abbrev pub invariant-loop-i : goal.invariant-loop-i
invariant-loop-i l =
    Planning l.circuit l.schedule l.reserves l.levels l.numbers l.count l.i
