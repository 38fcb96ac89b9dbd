-- The headroom as the code has it.
use Rattle.std.specs.Prelude.{◌≤◌, ◌≡◌, ℤ, pos}
use Rattle.model.specs.declared.Header.{Header}
use Rattle.model.specs.Scales.{headroom}

-- as a signed number; it is small
pub record SmallHeadroom (h : Header) (r : ℤ) : Type 0 where
  pub is : r ≡ pos (headroom h)
  pub small : headroom h ≤ 60
