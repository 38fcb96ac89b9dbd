use Rattle.liveness.proofs.Naming.{naming_laws}
use Rattle.liveness.proofs.fill_entries.Goals as goal

pub name_values-requires-clause-all_below : goal.name_values-requires-clause-all_below
name_values-requires-clause-all_below c = search naming_laws

pub loop-i-preserved : goal.loop-i-preserved
loop-i-preserved c = search naming_laws
