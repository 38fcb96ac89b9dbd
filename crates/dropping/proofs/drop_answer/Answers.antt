use Rattle.dropping.proofs.Laws.{table_laws}
use Rattle.dropping.proofs.drop_answer.Goals as goal

pub overflow_cast-entries : goal.overflow_cast-entries
overflow_cast-entries c = search table_laws
