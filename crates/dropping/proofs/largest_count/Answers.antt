use Rattle.dropping.proofs.Laws.{table_laws}
use Rattle.dropping.proofs.largest_count.Goals as goal

pub returns : goal.returns
returns c = search table_laws
