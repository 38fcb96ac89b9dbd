use Rattle.prices.proofs.Laws.{sum_laws}
use Rattle.prices.proofs.summed_down.Goals as goal

pub loop-done-preserved : goal.loop-done-preserved
loop-done-preserved c = search sum_laws
