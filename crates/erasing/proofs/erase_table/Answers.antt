use Rattle.erasing.proofs.erase_table.Goals as goal
use Rattle.erasing.proofs.erase_table.Goals.{in-Struck, in-Kept}
use Rattle.erasing.proofs.Filling.{after_kept}
use Rattle.erasing.proofs.Filling.{after_struck}

pub loop-i-preserved : goal.loop-i-preserved
loop-i-preserved c =
    elim c.match-erase_line.branch [ in-Struck w ↦ search after_struck | in-Kept w ↦ search (after_kept _ _ _ _ _ _ c.loop-i.invariant) ]
