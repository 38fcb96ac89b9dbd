-- m(r) is what document 01 says: the smallest level with F·m ≥ r + W. Assumes nothing.
use Prim.Native.Nat.{ℕ, zero, suc, ◌+◌, ◌-◌, ◌*◌, ◌/◌, ◌<◌, ◌≤◌}
use native.Mathlib.Nat.{div-add-mod', mod-lt, div-lt_iff_lt-mul, le_of_suc-le-suc}
use native.Mathlib.Decide.{dec_lt}
use native.Mathlib.Omega.{arith}
use lib.IntN.{ℤ, pos, ◌+ℤ◌}
use lib.Signed.{◌≤ℤ◌}
use Rattle.ints.specs.Parts.{positive, negative}
use Rattle.ints.proofs.Linear.{signed, one_part, ≤-read}
use Rattle.model.specs.declared.Header.{Header}
use Rattle.model.specs.Plan.{lowest_level}

module _ (F : ℕ) (F⁺ : zero < F) where
  over_fits : (n : ℕ) → n ≤ F * ((n + (F - 1)) / F)
  over_fits n = omega (arith, div-add-mod' (n + (F - 1)) F, mod-lt (n + (F - 1)) F⁺)

  over_least : (n k : ℕ) → n ≤ F * k → (n + (F - 1)) / F ≤ k
  over_least n k h = le_of_suc-le-suc ((div-lt_iff_lt-mul {k = F} {x = n + (F - 1)} {y = suc k} F⁺).1 (omega arith))

module _ (h : Header) (F⁺ : zero < h.factor) where
  -- of every whole number r
  pub level_fits : (r : ℤ) → (r +ℤ pos h.waterline) ≤ℤ pos (h.factor * lowest_level h r)
  level_fits r = omega (signed, over_fits h.factor F⁺ (positive (r +ℤ pos h.waterline)))

  pub level_least : (r : ℤ) (k : ℕ) → (r +ℤ pos h.waterline) ≤ℤ pos (h.factor * k) → lowest_level h r ≤ k
  level_least r k e = over_least h.factor F⁺ (positive (r +ℤ pos h.waterline)) k (small (≤-read (r +ℤ pos h.waterline) (pos (h.factor * k)) e))
    where
      z : ℤ
      z = r +ℤ pos h.waterline

      small : positive z + 0 ≤ h.factor * k + negative z → positive z ≤ h.factor * k
      small u = one_part z (positive z ≤ h.factor * k) (λ p. omega arith) (λ p. omega arith)

  -- the same of a reserve that is not below zero
  pub fits : (n : ℕ) → n + h.waterline ≤ h.factor * lowest_level h (pos n)
  fits n = over_fits h.factor F⁺ (n + h.waterline)

  pub least : (n k : ℕ) → n + h.waterline ≤ h.factor * k → lowest_level h (pos n) ≤ k
  least n k e = over_least h.factor F⁺ (n + h.waterline) k e

  pub short : (n k : ℕ) → k < lowest_level h (pos n) → h.factor * k < n + h.waterline
  short n k e = go (dec_lt (h.factor * k) (n + h.waterline))
    where
      over : lowest_level h (pos n) ≤ k → ⊥
      over x = omega arith

      go : Dec (h.factor * k < n + h.waterline) → h.factor * k < n + h.waterline
      go (yes p) = p
      go (no q) = absurd (over (least n k (omega arith)))
