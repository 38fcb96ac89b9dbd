-- `gowashiru::gowashiru_live` meets its contract: what listing entries and counts replies is what is promised. Assumes nothing.
use Rattle.gowashiru.proofs.Laws.{promises}
use Rattle.gowashiru.proofs.gowashiru_live.Statement.{statement}
use Rattle.gowashiru.proofs.gowashiru_live.Tie as tie

pub gowashiru_live_spec : {M : Type 1} → statement M
gowashiru_live_spec = tie.close (tie.spec (λ c κs. search promises) (λ c. search promises) (λ c. search promises))
