use Rattle.rules.proofs.rules_answer.Goals as goal
use Rattle.rules.proofs.Checking.{loop_laws}

pub loop-i-init : goal.loop-i-init
loop-i-init c = search loop_laws

pub bounds-scales-a : goal.bounds-scales-a
bounds-scales-a c = search loop_laws

pub bounds-levels-a : goal.bounds-levels-a
bounds-levels-a c = search loop_laws

pub bounds-scales-b : goal.bounds-scales-b
bounds-scales-b c = search loop_laws

pub bounds-levels-b : goal.bounds-levels-b
bounds-levels-b c = search loop_laws

pub ruled-requires-clause-t_2 : goal.ruled-requires-clause-t_2
ruled-requires-clause-t_2 c = search loop_laws

pub returns-in-Err-clause-value : goal.returns-in-Err-clause-value
returns-in-Err-clause-value c = search loop_laws
