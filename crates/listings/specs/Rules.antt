-- Document 02, Job 2: when a listing "keeps its own dialect's rules": those of document 01, with levels that "count up from 0", and that of
-- `ds`. There are scales and levels for the lines such that each rule holds.
use Rattle.std.specs.Prelude.{ℕ, ◌+◌, ◌*◌, ◌<◌, ◌≤◌, ◌≡◌, List, T, length, get_or}
use Rattle.model.specs.declared.Header.{Header}
use Rattle.model.specs.declared.Line.TheVariants.{In, Const, Neg, Rot, Add, Mul, Out, Enc, Rs, Ms, Us, Free}
use Rattle.model.specs.Scales.{modulus, headroom}
use Rattle.model.specs.Rules.{has_scale}
use Rattle.listings.specs.Listings.{Listed, line, downscale, as_schedules}

-- "W ≤ scale ≤ F·level", with "scale + H ≤ F·level", of the L − level levels that are left
pub record RisingBounds (h : Header) (scale level : ℕ) : Type 0 where
  pub low : h.waterline ≤ scale
  pub high : scale + headroom h + modulus h level ≤ modulus h h.top

-- line i, where each line has a scale and a level
abbrev pub RisingRule : Header → (ℕ → ℕ) → (ℕ → ℕ) → ℕ → Listed → Type 0
-- "`in` has scale W, level L": no level is used up
RisingRule h scale level i (line In) = (scale i ≡ h.waterline) × (level i ≡ 0)
RisingRule h scale level i (line (Const k)) = Unit {0}
-- "`neg`, `rot` and `out` change neither."
RisingRule h scale level i (line (Neg a)) = (scale i ≡ scale a) × (level i ≡ level a)
RisingRule h scale level i (line (Rot a t)) = (scale i ≡ scale a) × (level i ≡ level a)
-- "`add` and `mul`: equal levels, kept. `add`: equal scales, kept."
RisingRule h scale level i (line (Add a b)) =
    (level a ≡ level b) × (level i ≡ level a) × (scale a ≡ scale b) × (scale i ≡ scale a)
-- "`mul`: the scales are summed."
RisingRule h scale level i (line (Mul a b)) =
    (level a ≡ level b) × (level i ≡ level a) × (scale i ≡ scale a + scale b)
RisingRule h scale level i (line (Out a)) = (scale i ≡ scale a) × (level i ≡ level a)
-- "`enc A S E` (constant A encoded at scale S …, level E …)"
RisingRule h scale level i (line (Enc a s e)) = (scale i ≡ s) × (level i ≡ e)
-- "`rs` takes C from the level and F·C from the scale": C more are used up
RisingRule h scale level i (line (Rs a c)) = (scale i + h.factor * c ≡ scale a) × (level i ≡ level a + c)
-- "`ms` takes C from the level."
RisingRule h scale level i (line (Ms a c)) = (scale i ≡ scale a) × (level i ≡ level a + c)
-- "`us` adds to the scale."
RisingRule h scale level i (line (Us a b)) = (scale i ≡ scale a + b) × (level i ≡ level a)
RisingRule h scale level i (line Free) = Unit {0}
-- "brings a ciphertext to W one level further on"; "`ds` being legal where its two lines are": `us` by W + F − s, which is at least 1, to
-- the scale W + F, and then `rs` by 1
RisingRule h scale level i (downscale a) =
    (scale a < h.waterline + h.factor) × RisingBounds h (h.waterline + h.factor) (level a)
    × (scale i ≡ h.waterline) × (level i ≡ level a + 1)

pub record KeepsRisingRules (h : Header) (lines : List Listed) : Type 0 where
  pub scale : ℕ → ℕ
  pub level : ℕ → ℕ
  pub rules : (i : ℕ) → i < length lines → RisingRule h scale level i (get_or lines i (line Free))
  -- "Every ciphertext or encoded constant has W ≤ scale ≤ F·level." Which lines are, their schedule's line tells.
  pub bounds : (i : ℕ) → i < length lines → T (has_scale (as_schedules h (get_or lines i (line Free))))
      → RisingBounds h (scale i) (level i)
