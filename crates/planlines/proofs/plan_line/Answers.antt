use Rattle.planlines.proofs.WordLaws.{operand_laws}
use Rattle.planlines.proofs.plan_line.Goals as goal

pub plan_one-requires-clause-reaches : goal.plan_one-requires-clause-reaches
plan_one-requires-clause-reaches c = search operand_laws

pub plan_two-requires-clause-reaches : goal.plan_two-requires-clause-reaches
plan_two-requires-clause-reaches c = search operand_laws

pub plan_two-requires-clause-reaches_2 : goal.plan_two-requires-clause-reaches_2
plan_two-requires-clause-reaches_2 c = search operand_laws

pub returns-in-None : goal.returns-in-None
returns-in-None c = search operand_laws

pub returns-in-One : goal.returns-in-One
returns-in-One c = search operand_laws

pub returns-in-Two : goal.returns-in-Two
returns-in-Two c = search operand_laws
