-- Document 02, Job 2: "A broken rule is refused as in the check, at the listing's line." What number and place mean, as in document 01.
use Rattle.std.specs.Prelude.{ℕ, suc, ◌+◌, ◌*◌, ◌<◌, ◌≡◌, Bool, List, [], ◌∷◌, eqb, ltb, length, get_or, take, ℤ, pos, ◌+ℤ◌, ◌-ℤ◌, ◌*ℤ◌}
use Rattle.std.specs.Int.Signed.{le_z}
use Rattle.rows.specs.Rows.{place_of, Tests, bad, judged}
use Rattle.model.specs.declared.Header.{Header}
use Rattle.model.specs.declared.Line.TheVariants.{In, Const, Neg, Rot, Add, Mul, Out, Enc, Rs, Ms, Us, Free}
use Rattle.model.specs.Scales.{headroom}
use Rattle.listings.specs.Listings.{Listed, line, downscale}
use Rattle.listings.specs.Rules.{KeepsRisingRules}

-- "9 scale above F·level", with H, where L less this level is left, below zero if more levels are used up than there are: "A `rs` or `ms`
-- past zero counts as a negative result."
abbrev pub fits_left : Header → ℤ → ℕ → ℕ × Bool
fits_left h s l = (9, le_z (s +ℤ pos (headroom h)) (pos h.factor *ℤ (pos h.top -ℤ pos l)))

-- "10 scale below W.", then 9
abbrev pub rising_scale_tests : Header → ℤ → ℕ → Tests
rising_scale_tests h s l = (10, le_z (pos h.waterline) s) ∷ fits_left h s l ∷ []

-- "per line 7, 8, 10", 14 "per line just before 9", 9: a line's tests in this order, where the lines before it have these scales and levels
module _ (h : Header) (scale level : ℕ → ℕ) where
  abbrev pub rising_tests : Listed → Tests
  rising_tests (line In) = rising_scale_tests h (pos h.waterline) 0
  rising_tests (line (Const k)) = []
  rising_tests (line (Neg a)) = rising_scale_tests h (pos (scale a)) (level a)
  rising_tests (line (Rot a t)) = rising_scale_tests h (pos (scale a)) (level a)
  -- "7 levels differ. 8 scales differ in `add`."
  rising_tests (line (Add a b)) = (7, eqb (level a) (level b)) ∷ (8, eqb (scale a) (scale b)) ∷ rising_scale_tests h (pos (scale a)) (level a)
  rising_tests (line (Mul a b)) = (7, eqb (level a) (level b)) ∷ rising_scale_tests h (pos (scale a + scale b)) (level a)
  rising_tests (line (Out a)) = rising_scale_tests h (pos (scale a)) (level a)
  rising_tests (line (Enc a s e)) = rising_scale_tests h (pos s) e
  rising_tests (line (Rs a c)) = rising_scale_tests h (pos (scale a) -ℤ pos (h.factor * c)) (level a + c)
  rising_tests (line (Ms a c)) = rising_scale_tests h (pos (scale a)) (level a + c)
  rising_tests (line (Us a b)) = rising_scale_tests h (pos (scale a + b)) (level a)
  rising_tests (line Free) = []
  -- "14, `ds` on a scale not below W + F", and 9 of its `us`; nothing of the two lines is below W, and where the `us` fits its `rs` does
  rising_tests (downscale a) = (14, ltb (scale a) (h.waterline + h.factor)) ∷ fits_left h (pos (h.waterline + h.factor)) (level a) ∷ []

-- The lines before it keep the rules, with it they do not, and of its tests the first that fails has this number.
pub record FirstBrokenRising (h : Header) (lines : List Listed) (number place : ℕ) : Type 0 where
  pub line_number : ℕ
  pub place_is : place ≡ place_of line_number
  pub below : line_number < length lines
  pub before : KeepsRisingRules h (take line_number lines)
  pub with_it : KeepsRisingRules h (take (suc line_number) lines) → ⊥
  pub number_is : (k : KeepsRisingRules h (take line_number lines))
      → judged (rising_tests h k.scale k.level (get_or lines line_number (line Free))) (get_or lines line_number (line Free)) ≡ bad number
