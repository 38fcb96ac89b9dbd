-- `gowashiru::gowashiru_live_peak` meets its contract: what the largest count replies is what is promised. Assumes nothing.
use Rattle.gowashiru.proofs.Laws.{promises}
use Rattle.gowashiru.proofs.gowashiru_live_peak.Statement.{statement}
use Rattle.gowashiru.proofs.gowashiru_live_peak.Tie as tie

pub gowashiru_live_peak_spec : {M : Type 1} → statement M
gowashiru_live_peak_spec = tie.close (tie.spec (λ c κs. search promises) (λ c. search promises))
