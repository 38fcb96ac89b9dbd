-- Document 01, "The rules of a line": which schedules keep the rules. There are scales and levels for the lines such that each
-- rule holds; no refusal and no order of tests is mentioned. What is taken away stands as a sum: no number falls below zero.
use Rattle.std.specs.Prelude.{ℕ, ◌+◌, ◌*◌, ◌<◌, ◌≤◌, ◌≡◌, Bool, ◌||◌, List, T, length, get_or}
use Rattle.model.specs.declared.Header.{Header}
use Rattle.model.specs.declared.Line.{Line}
use Rattle.model.specs.declared.Line.TheVariants.{In, Const, Neg, Rot, Add, Mul, Out, Enc, Rs, Ms, Us, Free}
use Rattle.model.specs.Scales.{modulus, headroom}
use Rattle.model.specs.Files.{kind_of, is_ciphertext, is_encoded}

-- line i, where each line has a scale and a level
abbrev pub Rule : Header → (ℕ → ℕ) → (ℕ → ℕ) → ℕ → Line → Type 0
-- "`in` has scale W, level L."
Rule h scale level i In = (scale i ≡ h.waterline) × (level i ≡ h.top)
Rule h scale level i (Const k) = Unit {0}
-- "`neg`, `rot` and `out` change neither."
Rule h scale level i (Neg a) = (scale i ≡ scale a) × (level i ≡ level a)
Rule h scale level i (Rot a t) = (scale i ≡ scale a) × (level i ≡ level a)
-- "`add` and `mul`: equal levels, kept. `add`: equal scales, kept."
Rule h scale level i (Add a b) =
    (level a ≡ level b) × (level i ≡ level a) × (scale a ≡ scale b) × (scale i ≡ scale a)
-- "`mul`: the scales are summed."
Rule h scale level i (Mul a b) =
    (level a ≡ level b) × (level i ≡ level a) × (scale i ≡ scale a + scale b)
Rule h scale level i (Out a) = (scale i ≡ scale a) × (level i ≡ level a)
-- "`enc A S E` (constant A encoded at scale S …, level E …)"
Rule h scale level i (Enc a s e) = (scale i ≡ s) × (level i ≡ e)
-- "`rs` takes C from the level and F·C from the scale."
Rule h scale level i (Rs a c) = (scale i + h.factor * c ≡ scale a) × (level i + c ≡ level a)
-- "`ms` takes C from the level."
Rule h scale level i (Ms a c) = (scale i ≡ scale a) × (level i + c ≡ level a)
-- "`us` adds to the scale."
Rule h scale level i (Us a b) = (scale i ≡ scale a + b) × (level i ≡ level a)
Rule h scale level i Free = Unit {0}

-- "W ≤ scale ≤ F·level"; document 02, Job 3: "Each scale must satisfy scale + H ≤ F·level"
pub record Bounds (h : Header) (scale level : ℕ) : Type 0 where
  pub low : h.waterline ≤ scale
  pub high : scale + headroom h ≤ modulus h level

-- "ciphertext or encoded constant"
abbrev pub has_scale : Line → Bool
has_scale x = is_ciphertext (kind_of x) || is_encoded (kind_of x)

pub record KeepsRules (h : Header) (lines : List Line) : Type 0 where
  pub scale : ℕ → ℕ
  pub level : ℕ → ℕ
  pub rules : (i : ℕ) → i < length lines → Rule h scale level i (get_or lines i Free)
  -- "Every ciphertext or encoded constant has W ≤ scale ≤ F·level."
  pub bounds : (i : ℕ) → i < length lines → T (has_scale (get_or lines i Free)) → Bounds h (scale i) (level i)
