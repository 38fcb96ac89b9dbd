-- `gowashiru::gowashiru_least_level` meets its contract: what the least level's service replies is what is promised. Assumes nothing.
use Rattle.gowashiru.proofs.Laws.{promises}
use Rattle.gowashiru.proofs.gowashiru_least_level.Statement.{statement}
use Rattle.gowashiru.proofs.gowashiru_least_level.Tie as tie

pub gowashiru_least_level_spec : {M : Type 1} → statement M
gowashiru_least_level_spec = tie.close (tie.spec (λ c κs. search promises) (λ c. search promises))
