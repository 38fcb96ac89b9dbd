-- `gowashiru::gowashiru_live_after` meets its contract: what counting after a line replies is what is promised. Assumes nothing.
use Rattle.gowashiru.proofs.Laws.{promises}
use Rattle.gowashiru.proofs.gowashiru_live_after.Statement.{statement}
use Rattle.gowashiru.proofs.gowashiru_live_after.Tie as tie

pub gowashiru_live_after_spec : {M : Type 1} → statement M
gowashiru_live_after_spec = tie.close (tie.spec (λ c κs. search promises) (λ c. search promises))
