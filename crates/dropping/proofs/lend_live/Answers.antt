use Rattle.dropping.proofs.Laws.{table_laws}
use Rattle.dropping.proofs.lend_live.Goals as goal

pub returns-then-out-schedule : goal.returns-then-out-schedule
returns-then-out-schedule c = search table_laws

pub overflow_cast-written : goal.overflow_cast-written
overflow_cast-written c = search table_laws

pub returns : goal.returns
returns c = search table_laws
