-- `gowashiru::gowashiru_erase` meets its contract: what erasing replies is what is promised. Assumes nothing.
use Rattle.gowashiru.proofs.Laws.{promises}
use Rattle.gowashiru.proofs.gowashiru_erase.Statement.{statement}
use Rattle.gowashiru.proofs.gowashiru_erase.Tie as tie

pub gowashiru_erase_spec : {M : Type 1} → statement M
gowashiru_erase_spec = tie.close (tie.spec (λ c κs. search promises) (λ c. search promises) (λ c. search promises))
