-- The scales that are left behind where every line keeps the rules.
use Rattle.std.specs.Prelude.{ℕ, ◌+◌, ◌≤◌, ◌<◌, List, ◌≡◌, T, length, get_or, replicate}
use Rattle.model.specs.declared.Header.{Header}
use Rattle.model.specs.declared.Line.{Line}
use Rattle.model.specs.declared.Line.TheVariants.{Free}
use Rattle.listings.specs.Held.{is_downscale, named, found_scales}

-- before the first line
abbrev pub no_scales : List ℕ
no_scales = replicate 1792 0

-- a bare constant, which has no scale, leaves 0
pub record ScalesLeft (h : Header) (lines : List Line) (scales : List ℕ) : Type 0 where
  pub small : (i : ℕ) → get_or scales i 0 ≤ 3600
  pub found : (i : ℕ) → i < length lines → get_or scales i 0 ≡ found_scales h lines i

-- the operand of each `ds` has a scale below W + F
pub record DownscalesBelow (h : Header) (lines : List Line) (scales : List ℕ) : Type 0 where
  pub below :
      (i : ℕ) → i < length lines → T (is_downscale (get_or lines i Free)) →
      get_or scales (named (get_or lines i Free)) 0 < h.waterline + h.factor
