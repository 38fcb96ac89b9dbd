-- `gowashiru::gowashiru_may_drop` meets its contract: what asking whether a value may be dropped replies is what is promised. Assumes nothing.
use Rattle.gowashiru.proofs.Laws.{promises}
use Rattle.gowashiru.proofs.gowashiru_may_drop.Statement.{statement}
use Rattle.gowashiru.proofs.gowashiru_may_drop.Tie as tie

pub gowashiru_may_drop_spec : {M : Type 1} → statement M
gowashiru_may_drop_spec = tie.close (tie.spec (λ c κs. search promises) (λ c. search promises))
