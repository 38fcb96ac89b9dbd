-- "m(r) is the smallest whole level with F·m ≥ r + W."
use Prim.Native.Nat.{ℕ, ◌≤◌}
use lib.Dec.{T}
use lib.IntN.{ℤ, pos, ◌+ℤ◌}
use lib.Signed.{◌≤ℤ◌}
use Rattle.model.specs.declared.Header.{Header}
use Rattle.model.specs.Scales.{header_in_range, modulus}
use Rattle.model.specs.Plan.{lowest_level}

-- m is the smallest level with F·m ≥ r + W
pub record IsLowest (h : Header) (r : ℤ) (m : ℕ) : Type 0 where
  pub enough : (r +ℤ pos h.waterline) ≤ℤ pos (modulus h m)
  pub smallest : (k : ℕ) → (r +ℤ pos h.waterline) ≤ℤ pos (modulus h k) → m ≤ k

abbrev pub Statement : Type 0
Statement = (h : Header) → T (header_in_range h) → (r : ℤ) → IsLowest h r (lowest_level h r)
