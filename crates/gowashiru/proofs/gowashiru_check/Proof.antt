-- `gowashiru::gowashiru_check` meets its contract: what the check replies is what is promised. Assumes nothing.
use Rattle.gowashiru.proofs.Laws.{promises}
use Rattle.gowashiru.proofs.gowashiru_check.Statement.{statement}
use Rattle.gowashiru.proofs.gowashiru_check.Tie as tie

pub gowashiru_check_spec : {M : Type 1} → statement M
gowashiru_check_spec = tie.close (tie.spec (λ c κs. search promises) (λ c. search promises))
