-- Where a best reserve is at least the least reserve the circuit goes on, and only there. Assumes nothing.
use Prim.Native.Nat.{ℕ, ◌+◌, ◌<◌, ◌≤◌}
use native.Mathlib.Omega.{arith}
use mathlib.Core.Path.{◌≡◌, refl}
use lib.IntN.{pos}
use lib.Signed.{◌≤ℤ◌, lt_z}
use Rattle.ints.specs.Parts.{positive, negative}
use Rattle.ints.proofs.Linear.{signed, lt_true, ≤-read}
use Rattle.model.specs.declared.Header.{Header}
use Rattle.model.specs.Scales.{headroom}
use Rattle.model.specs.Machine.{Step, goes, stops}
use Rattle.model.specs.declared.Choice.{Choice}
use Rattle.model.specs.declared.Best.{Best}
use Rattle.model.specs.declared.Best.TheVariants as Bests
use Rattle.model.specs.Plan.{unless_too_few}
use Rattle.model.proofs.Tests.{by_test}

module _ (h : Header) (p : Choice) where
  pub unless_too_few_goes : pos (headroom h) ≤ℤ p.reserve → unless_too_few h p ≡ goes (Bests.Ciphertext p)
  unless_too_few_goes a = by_test (λ t. t ≡ goes (Bests.Ciphertext p)) (lt_z p.reserve (pos (headroom h))) (stops 6) (goes (Bests.Ciphertext p))
      (λ e. absurd (never (lt_true p.reserve (pos (headroom h)) e) (≤-read (pos (headroom h)) p.reserve a))) (λ e. refl)
    where
      never : positive p.reserve + 0 < headroom h + negative p.reserve → headroom h + negative p.reserve ≤ positive p.reserve + 0 → ⊥
      never x y = omega arith

  pub unless_too_few_elim : (P : Step Best ℕ → Type 0) → P (stops 6) → (pos (headroom h) ≤ℤ p.reserve → P (goes (Bests.Ciphertext p))) → P (unless_too_few h p)
  unless_too_few_elim P s g = by_test P (lt_z p.reserve (pos (headroom h))) (stops 6) (goes (Bests.Ciphertext p)) (λ e. s) (λ e. g (omega (signed, e)))
