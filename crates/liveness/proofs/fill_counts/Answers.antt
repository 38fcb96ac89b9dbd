use Rattle.liveness.proofs.Counting.{counting_laws}
use Rattle.liveness.proofs.fill_counts.Goals as goal

pub loop-i-init : goal.loop-i-init
loop-i-init c = search counting_laws

pub begin-live-requires-clause-bound : goal.begin-live-requires-clause-bound
begin-live-requires-clause-bound c = search counting_laws

pub begin-live-requires-clause-live_bound : goal.begin-live-requires-clause-live_bound
begin-live-requires-clause-live_bound c = search counting_laws

pub begin-live-requires-clause-bound_2 : goal.begin-live-requires-clause-bound_2
begin-live-requires-clause-bound_2 c = search counting_laws

pub overflow_sub-live : goal.overflow_sub-live
overflow_sub-live c = search counting_laws

pub loop-i-preserved : goal.loop-i-preserved
loop-i-preserved c = search counting_laws
