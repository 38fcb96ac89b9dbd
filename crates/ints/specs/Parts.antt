-- A signed number that is not negative, as a natural number; 0 in place of a negative one.
use Rattle.std.specs.Prelude.{ℕ, ℤ, pos, negsuc}
pub use Rattle.ints.specs.Negative.{negative}

abbrev pub positive : ℤ → ℕ
positive (pos n) = n
positive (negsuc n) = 0
