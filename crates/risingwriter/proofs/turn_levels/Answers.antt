use Rattle.risingwriter.proofs.Levels.{turning_laws}
use Rattle.risingwriter.proofs.turn_levels.Goals as goal

pub turned_record-requires-clause-t_2 : goal.turned_record-requires-clause-t_2
turned_record-requires-clause-t_2 c = search turning_laws

pub loop-i-preserved : goal.loop-i-preserved
loop-i-preserved c = search turning_laws
