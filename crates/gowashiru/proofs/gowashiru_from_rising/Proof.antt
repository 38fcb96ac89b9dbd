-- `gowashiru::gowashiru_from_rising` meets its contract: what converting a listing replies is what is promised. Assumes nothing.
use Rattle.gowashiru.proofs.Laws.{promises}
use Rattle.gowashiru.proofs.gowashiru_from_rising.Statement.{statement}
use Rattle.gowashiru.proofs.gowashiru_from_rising.Tie as tie

pub gowashiru_from_rising_spec : {M : Type 1} → statement M
gowashiru_from_rising_spec = tie.close (tie.spec (λ c κs. search promises) (λ c. search promises) (λ c. search promises))
