-- The ranges of the numbers that the walk over a circuit works with.
use Rattle.std.specs.Prelude.{◌≤◌, ℤ, pos, ◌≤ℤ◌}
use Rattle.model.specs.declared.Header.{Header}

-- "all whole numbers from 1 to 60"
pub record HeaderRanges (h : Header) : Type 0 where
  pub factor_least : 1 ≤ h.factor
  pub factor_most : h.factor ≤ 60
  pub waterline_least : 1 ≤ h.waterline
  pub waterline_most : h.waterline ≤ 60
  pub top_least : 1 ≤ h.top
  pub top_most : h.top ≤ 60

-- the reserve of a ciphertext that a circuit goes on with: not below zero, and no more than the greatest F·L
pub record Small (r : ℤ) : Type 0 where
  pub low : pos 0 ≤ℤ r
  pub high : r ≤ℤ pos 3600
