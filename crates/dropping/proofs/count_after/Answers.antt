use Rattle.dropping.proofs.Laws.{table_laws}
use Rattle.dropping.proofs.count_after.Goals as goal

pub returns : goal.returns
returns c = search table_laws
