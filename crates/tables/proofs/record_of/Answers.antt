-- A rotation's amount is held as its number. Assumes nothing.
use Rattle.tables.proofs.Words.{record_laws}
use Rattle.tables.proofs.record_of.Goals as goal

pub returns-in-Rot-clause-value : goal.returns-in-Rot-clause-value
returns-in-Rot-clause-value c = search record_laws
