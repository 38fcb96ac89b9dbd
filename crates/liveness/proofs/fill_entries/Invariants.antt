use Rattle.liveness.proofs.Naming.{Naming}
use Rattle.liveness.proofs.fill_entries.Given as goal

abbrev pub invariant-loop-i : goal.invariant-loop-i
invariant-loop-i l = Naming l.schedule l.count l.entries l.i
