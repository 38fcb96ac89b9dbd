-- `gowashiru::gowashiru_to_rising` meets its contract: what writing a listing replies is what is promised. Assumes nothing.
use Rattle.gowashiru.proofs.Laws.{promises}
use Rattle.gowashiru.proofs.gowashiru_to_rising.Statement.{statement}
use Rattle.gowashiru.proofs.gowashiru_to_rising.Tie as tie

pub gowashiru_to_rising_spec : {M : Type 1} → statement M
gowashiru_to_rising_spec = tie.close (tie.spec (λ c κs. search promises) (λ c. search promises) (λ c. search promises))
