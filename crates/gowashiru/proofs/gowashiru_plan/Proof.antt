-- `gowashiru::gowashiru_plan` meets its contract: what planning replies is what is promised. Assumes nothing.
use Rattle.gowashiru.proofs.Laws.{promises}
use Rattle.gowashiru.proofs.gowashiru_plan.Statement.{statement}
use Rattle.gowashiru.proofs.gowashiru_plan.Tie as tie

pub gowashiru_plan_spec : {M : Type 1} → statement M
gowashiru_plan_spec = tie.close (tie.spec (λ c κs. search promises) (λ c. search promises) (λ c. search promises))
