-- Document 01, "Refused": what number and place of a broken rule mean. The place is that of the first line with which no scales and levels
-- keep the rules, the number that of the first test that it fails, over the scales and levels of the lines before it.
use Rattle.std.specs.Prelude.{ℕ, suc, ◌+◌, ◌*◌, ◌<◌, ◌≡◌, List, [], ◌∷◌, eqb, length, get_or, take, ℤ, pos, ◌+ℤ◌, ◌-ℤ◌, ◌*ℤ◌}
use Rattle.std.specs.Int.Signed.{le_z}
use Rattle.model.specs.declared.Header.{Header}
use Rattle.model.specs.declared.Line.{Line}
use Rattle.model.specs.declared.Line.TheVariants.{In, Const, Neg, Rot, Add, Mul, Out, Enc, Rs, Ms, Us, Free}
use Rattle.model.specs.Scales.{headroom}
use Rattle.rows.specs.Rows.{place_of, Tests, bad, judged}
use Rattle.model.specs.Rules.{KeepsRules}

-- "10 scale below W. 9 scale above F·level.", of the scale and the level that the line's rule gives, with their signs: "A `rs` or `ms` past
-- zero counts as a negative result."; document 02, Job 3: "(9, 6 and 2 take H in.)"
abbrev pub scale_tests : Header → ℤ → ℤ → Tests
scale_tests h s l = (10, le_z (pos h.waterline) s) ∷ (9, le_z (s +ℤ pos (headroom h)) (pos h.factor *ℤ l)) ∷ []

-- "per line 7, 8, 10, 9": a line's tests in this order, where the lines before it have these scales and levels
module _ (h : Header) (scale level : ℕ → ℕ) where
  abbrev pub rule_tests : Line → Tests
  -- "`in` has scale W, level L."
  rule_tests In = scale_tests h (pos h.waterline) (pos h.top)
  rule_tests (Const k) = []
  -- "`neg`, `rot` and `out` change neither."
  rule_tests (Neg a) = scale_tests h (pos (scale a)) (pos (level a))
  rule_tests (Rot a t) = scale_tests h (pos (scale a)) (pos (level a))
  -- "7 levels differ. 8 scales differ in `add`."; "`add`: equal scales, kept. `mul`: the scales are summed."
  rule_tests (Add a b) = (7, eqb (level a) (level b)) ∷ (8, eqb (scale a) (scale b)) ∷ scale_tests h (pos (scale a)) (pos (level a))
  rule_tests (Mul a b) = (7, eqb (level a) (level b)) ∷ scale_tests h (pos (scale a + scale b)) (pos (level a))
  rule_tests (Out a) = scale_tests h (pos (scale a)) (pos (level a))
  -- "constant A encoded at scale S …, level E …"
  rule_tests (Enc a s e) = scale_tests h (pos s) (pos e)
  -- "`rs` takes C from the level and F·C from the scale. `ms` takes C from the level. `us` adds to the scale."
  rule_tests (Rs a c) = scale_tests h (pos (scale a) -ℤ pos (h.factor * c)) (pos (level a) -ℤ pos c)
  rule_tests (Ms a c) = scale_tests h (pos (scale a)) (pos (level a) -ℤ pos c)
  rule_tests (Us a b) = scale_tests h (pos (scale a + b)) (pos (level a))
  rule_tests Free = []

-- The lines before it keep the rules, with it they do not, and of its tests the first that fails has this number. The scales and levels of
-- the lines before are unique but for bare constants, of which no test speaks.
pub record FirstBroken (h : Header) (schedule : List Line) (number place : ℕ) : Type 0 where
  pub line : ℕ
  pub place_is : place ≡ place_of line
  pub below : line < length schedule
  pub before : KeepsRules h (take line schedule)
  pub with_it : KeepsRules h (take (suc line) schedule) → ⊥
  pub number_is : (k : KeepsRules h (take line schedule))
      → judged (rule_tests h k.scale k.level (get_or schedule line Free)) (get_or schedule line Free) ≡ bad number
