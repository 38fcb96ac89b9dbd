-- Document 01's cases of a product are the optimum of one formula: at level l the reserves, each capped at F·l − W, add up less F·l. The
-- choice has the greatest value over all levels, at the lowest level that gives it, with the operands capped there.
use Prim.Native.Nat.{ℕ, ◌<◌}
use mathlib.Core.Path.{◌≡◌}
use lib.Dec.{T}
use lib.IntN.{ℤ, pos, ◌+ℤ◌, ◌-ℤ◌}
use lib.Signed.{◌≤ℤ◌, ◌<ℤ◌}
use Rattle.model.specs.declared.Header.{Header}
use Rattle.model.specs.Scales.{header_in_range, modulus}
use Rattle.model.specs.declared.Choice.{Choice}
use Rattle.model.specs.Plan.{smaller, at_waterline, product_choice}

-- The reserve of a product that is done at level l, where each operand comes to at most the reserve of scale W.
abbrev pub product_at : Header → ℤ → ℤ → ℕ → ℤ
product_at h r r' l = smaller r (at_waterline h l) +ℤ smaller r' (at_waterline h l) -ℤ pos (modulus h l)

pub record IsOptimum (h : Header) (r r' : ℤ) (p : Choice) : Type 0 where
  pub attained : p.reserve ≡ product_at h r r' p.level
  pub greatest : (l : ℕ) → product_at h r r' l ≤ℤ p.reserve
  pub lowest : (l : ℕ) → l < p.level → product_at h r r' l <ℤ p.reserve
  pub first_is : p.first ≡ smaller r (at_waterline h p.level)
  pub second_is : p.second ≡ smaller r' (at_waterline h p.level)

-- for reserves that are not below zero, as all are that the plan works with
abbrev pub Statement : Type 0
Statement = (h : Header) → T (header_in_range h) → (r r' : ℤ) → pos 0 ≤ℤ r → pos 0 ≤ℤ r' → IsOptimum h r r' (product_choice h r r')
