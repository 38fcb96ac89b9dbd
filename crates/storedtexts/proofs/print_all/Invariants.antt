use Rattle.std.proofs.Common.{length, ◌-◌}
use Rattle.storedtexts.proofs.print_all.Given as goal

abbrev pub decreases-loop-at : goal.decreases-loop-at
decreases-loop-at g l = length l.texts - l.at
