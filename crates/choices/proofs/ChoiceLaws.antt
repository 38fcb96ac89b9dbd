-- A law for each need of the functions that place a line: what they compute fits, and is what the definition says. Assumes nothing.
use Prim.Native.Nat.{ℕ, zero, suc, ◌+◌, ◌-◌, ◌*◌, ◌/◌, ◌≤◌, ◌<◌, min}
use mathlib.Core.Bool.{true, false}
use mathlib.Core.Path.{◌≡◌, refl, ap, ◌∙◌}
use native.Mathlib.Nat.{mul-div-le, mul-le-mul, mul-le-mul_left}
use native.Mathlib.Omega.{arith}
use borrow.Author.Rules.{rules}
use borrow.Author.Tests.{eq-eqb, ne_eqb}
use lib.IntN.{ℤ, pos, nat_abs, ◌+ℤ◌, ◌-ℤ◌}
use lib.Signed.{mag, le_z, lt_z}
use mir.Syntax.{w32}
use mir.Val.{Fits, SFits, to_z}
use mir.Facts.{to_z-of_z}
use Rattle.ints.specs.Parts.{positive}
use Rattle.ints.proofs.Linear.{parts-, one_part}
use Rattle.model.specs.declared.Header.{Header}
use Rattle.model.specs.declared.Choice.{Choice}
use Rattle.model.specs.Scales.{modulus}
use Rattle.model.specs.Plan.{lowest_level, smaller, at_waterline, input_choice, unchanged_choice, times_constant_choice, constant_times_choice, unequal_choice, same_level_choice, level_below_choice, greater_else_lower, product_choice}
use Rattle.model.proofs.Levels.{fits}
use Rattle.model.proofs.Tests.{HeaderFacts}
use Rattle.choices.specs.Ranges.{HeaderRanges, Small}
use Rattle.choices.proofs.Readings.{held, by_small, fits_by_parts, small_fits, result_held, small_held, held_small, cast_is, size_most, size_held, cast_positive, cast_fits, test_le, test_lt}

-- ---- the header
pub ranges : (h : Header) → HeaderFacts h → HeaderRanges h
ranges h H =
    record {
      factor_least = H.factor.least;
      factor_most = H.factor.most;
      waterline_least = H.waterline.least;
      waterline_most = H.waterline.most;
      top_least = H.top.least;
      top_most = H.top.most;
    }

-- ---- the modulus
pub modulus_fits : (h : Header) (l : ℕ) → h.factor * l ≤ 3719 → Fits w32 (h.factor * l)
modulus_fits h l k = record { fits = omega arith }

pub below_modulus : (h : Header) (l : ℕ) → h.factor * l ≤ 3719 → h.factor * (l - 1) ≤ 3719
below_modulus h l k = omega (arith, mul-le-mul_left h.factor less)
  where
    less : l - 1 ≤ l
    less = omega arith

pub top_modulus : (h : Header) → HeaderRanges h → h.factor * h.top ≤ 3719
top_modulus h g = omega (arith, mul-le-mul g.factor_most g.top_most)

-- ---- the waterline, once or twice
pub waterline_small : (h : Header) → HeaderRanges h → h.waterline ≤ 3719
waterline_small h g = omega (arith, g.waterline_most)

pub waterlines_small : (h : Header) → HeaderRanges h → (k : ℕ) → k ≤ 2 → k * h.waterline ≤ 3719
waterlines_small h g k q = omega (arith, mul-le-mul q g.waterline_most)

-- ---- m(r)
module _ (h : Header) (g : HeaderRanges h) (r : ℤ) (s : Small r) where
  pub sum_fits : Fits w32 (nat_abs (held r) + h.waterline)
  sum_fits = record { fits = omega (arith, size_held r s, size_most r s) }

  pub round_fits : Fits w32 (nat_abs (held r) + h.waterline + (h.factor - 1))
  round_fits = record { fits = omega (arith, size_held r s, size_most r s) }

  pub lowest_is : (nat_abs (held r) + h.waterline + (h.factor - 1)) / h.factor ≡ lowest_level h r
  lowest_is = rw (size_held r s) (by_small (λ z. (positive z + h.waterline + (h.factor - 1)) / h.factor ≡ lowest_level h z) r s (λ n k. refl))

  module _ (m : ℕ) (e : m ≡ lowest_level h (held r)) where
    pub lowest_modulus : h.factor * m ≤ 3719
    lowest_modulus = rw (e, small_held r s)
        (by_small (λ z. h.factor * lowest_level h z ≤ 3719) r s (λ n k. omega (arith, mul-div-le (n + h.waterline + (h.factor - 1)) h.factor)))

    pub lowest_some : 1 ≤ m
    lowest_some = rw (e, small_held r s) (by_small (λ z. 1 ≤ lowest_level h z) r s (λ n k. some n (lowest_level h (pos n)) (fits h g.factor_least n)))
      where
        some : (n l : ℕ) → n + h.waterline ≤ h.factor * l → 1 ≤ l
        some n zero k = absurd (never k)
          where
            never : n + h.waterline ≤ h.factor * 0 → ⊥
            never k = omega (arith, g.waterline_least)
        some n (suc l) k = omega arith

-- ---- differences
minus_fits : (a n : ℕ) → a ≤ 7200 → n ≤ 3719 → SFits w32 (pos a -ℤ pos n)
minus_fits a n p q =
    fits_by_parts (pos a -ℤ pos n) (one_part (pos a -ℤ pos n) _ (λ z. omega (arith, parts- (pos a) (pos n))) (λ z. omega (arith, parts- (pos a) (pos n))))
    (one_part (pos a -ℤ pos n) _ (λ z. omega (arith, parts- (pos a) (pos n))) (λ z. omega (arith, parts- (pos a) (pos n))))

-- a call's result z, which is a, less n
module _ (z : ℤ) (a n : ℕ) (ok : mag z < 2147483648) (e : z ≡ pos a) (k : a ≤ 3719) (q : n ≤ 3719) where
  result_read : held z -ℤ to_z w32 n ≡ pos a -ℤ pos n
  result_read = rw (result_held z ok, e, cast_is n q)

  pub result_less_fits : SFits w32 (held z -ℤ to_z w32 n)
  result_less_fits = rw result_read (minus_fits a n (omega arith) q)

  pub result_less : held (held z -ℤ to_z w32 n) ≡ pos a -ℤ pos n
  result_less = to_z-of_z result_less_fits ∙ result_read

-- a reserve r less n
module _ (r : ℤ) (s : Small r) (n : ℕ) (q : n ≤ 3719) where
  reserve_read : held r -ℤ to_z w32 n ≡ r -ℤ pos n
  reserve_read = rw (small_held r s, cast_is n q)

  pub reserve_less_fits : SFits w32 (held r -ℤ to_z w32 n)
  reserve_less_fits = rw reserve_read (by_small (λ z. SFits w32 (z -ℤ pos n)) r s (λ m k. minus_fits m n (omega arith) q))

  pub reserve_less : held (held r -ℤ to_z w32 n) ≡ r -ℤ pos n
  reserve_less = to_z-of_z reserve_less_fits ∙ reserve_read

-- ---- choices
pub input_chosen : (h : Header) (z : ℤ) → mag z < 2147483648 → z ≡ at_waterline h h.top
    → record { level = h.top; reserve = held z; first = held z; second = held z } ≡ input_choice h
input_chosen h z ok e = rw (result_held z ok, e)

-- y is what is left of r, z the reserve of an operand at scale W
module _ (h : Header) (r : ℤ) (s : Small r) (y z : ℤ) (ok : mag y < 2147483648) (ok' : mag z < 2147483648) (p : y ≡ held r -ℤ pos h.waterline) where
  left_is : held y ≡ r -ℤ pos h.waterline
  left_is = result_held y ok ∙ p ∙ ap (λ (x : ℤ). x -ℤ pos h.waterline) (small_held r s)

  module _ (m : ℕ) (e : m ≡ lowest_level h (held r)) (q : z ≡ at_waterline h m) where
    pub times_constant : record { level = m; reserve = held y; first = held r; second = held z } ≡ times_constant_choice h r
    times_constant = rw (left_is, result_held z ok', q, e, small_held r s)

    pub constant_times : record { level = m; reserve = held y; first = held z; second = held r } ≡ constant_times_choice h r
    constant_times = rw (left_is, result_held z ok', q, e, small_held r s)

  -- the m's are unequal
  module _ (r' : ℤ) (s' : Small r') (m : ℕ) (q : z ≡ at_waterline h m) where
    pub first_kept : le_z (held r) (held r') ≡ true → record { level = m; reserve = held y; first = held r; second = held z } ≡ unequal_choice h r r' m
    first_kept t = rw (test_le r r' (small_fits r s) (small_fits r' s') t, left_is, result_held z ok', q, small_held r s)

    pub second_kept : le_z (held r') (held r) ≡ false → record { level = m; reserve = held y; first = held z; second = held r } ≡ unequal_choice h r' r m
    second_kept t = rw (test_le r' r (small_fits r' s') (small_fits r s) t, left_is, result_held z ok', q, small_held r s)

pub at_chosen : (h : Header) (r : ℤ) → Small r → (m : ℕ) → m ≡ lowest_level h (held r)
    → record { level = m; reserve = held r; first = held r; second = held r } ≡ unchanged_choice h r
at_chosen h r s m e = rw (e, small_held r s)

-- the m's are equal: at that level
module _ (r r' : ℤ) (s : Small r) (s' : Small r') where
  both_read : held r +ℤ held r' ≡ r +ℤ r'
  both_read = rw (small_held r s, small_held r' s')

  pub both_fits : SFits w32 (held r +ℤ held r')
  both_fits = rw both_read (by_small (λ x. SFits w32 (x +ℤ r')) r s (λ n k. by_small (λ y. SFits w32 (pos n +ℤ y)) r' s' (λ n' k'. record { sfits = omega arith })))

  module _ (h : Header) (l : ℕ) (k : h.factor * l ≤ 3719) (z : ℤ) (ok : mag z < 2147483648) (e : z ≡ pos (modulus h l)) where
    left_read : held (held r +ℤ held r') -ℤ held z ≡ r +ℤ r' -ℤ pos (modulus h l)
    left_read = rw (to_z-of_z both_fits, both_read, result_held z ok, e)

    pub left_fits : SFits w32 (held (held r +ℤ held r') -ℤ held z)
    left_fits = rw left_read
        (by_small (λ x. SFits w32 (x +ℤ r' -ℤ pos (modulus h l))) r s (λ n p. by_small (λ y. SFits w32 (pos n +ℤ y -ℤ pos (modulus h l))) r' s'
        (λ n' p'. minus_fits (n + n') (h.factor * l) (omega arith) (omega arith))))

    pub same_chosen : record { level = l; reserve = held (held (held r +ℤ held r') -ℤ held z); first = held r; second = held r' } ≡ same_level_choice h r r' l
    same_chosen = rw (to_z-of_z left_fits, left_read, small_held r s, small_held r' s')

-- the m's are equal: at the level below, where y is the modulus
pub below_chosen : (h : Header) → HeaderRanges h → (l : ℕ) → h.factor * l ≤ 3719 → (y z : ℤ) → mag y < 2147483648 → y ≡ pos (modulus h (l - 1)) → mag z < 2147483648
    → z ≡ at_waterline h (l - 1)
    → record { level = l - 1; reserve = held (held y -ℤ to_z w32 (2 * h.waterline)); first = held z; second = held z } ≡ level_below_choice h l
below_chosen h g l k y z ok' e' ok e =
    rw (result_less y (h.factor * (l - 1)) (2 * h.waterline) ok' e' (below_modulus h l k) (waterlines_small h g 2 (omega arith)), result_held z ok, e)

-- the greater of the two
module _ (p q : Choice) (f : mag p.reserve < 2147483648) (f' : mag q.reserve < 2147483648) where
  pub same_greater : lt_z (held p.reserve) (held q.reserve) ≡ true → q ≡ greater_else_lower p q
  same_greater t = rw (test_lt p.reserve q.reserve (record { sfits = f }) (record { sfits = f' }) t)

  pub below_greater : lt_z (held p.reserve) (held q.reserve) ≡ false → p ≡ greater_else_lower p q
  below_greater t = rw (test_lt p.reserve q.reserve (record { sfits = f }) (record { sfits = f' }) t)

-- the smaller of two
module _ (r r' : ℤ) (f : SFits w32 r) (f' : SFits w32 r') where
  pub smaller_first : le_z (held r) (held r') ≡ true → held r ≡ smaller r r'
  smaller_first t = rw (test_le r r' f f' t, to_z-of_z f)

  pub smaller_second : le_z (held r) (held r') ≡ false → held r' ≡ smaller r r'
  smaller_second t = rw (test_le r r' f f' t, to_z-of_z f')

-- a product, by the two m's
module _ (h : Header) (r r' : ℤ) (s : Small r) (s' : Small r') (m m' : ℕ) (e : m ≡ lowest_level h (held r)) (e' : m' ≡ lowest_level h (held r')) (p : Choice) where
  low : m ≡ lowest_level h r
  low = rw (small_held r s) at e

  low' : m' ≡ lowest_level h r'
  low' = rw (small_held r' s') at e'

  pub equal_levels : m ≡ m' → (below same : Choice) → below ≡ level_below_choice h m → same ≡ same_level_choice h (held r) (held r') m → p ≡ greater_else_lower below same
      → p ≡ product_choice h r r'
  equal_levels q below same b c f = rw (← low, ← low', eq-eqb m m' q, ← small_held r s, ← small_held r' s') (rw (b, c) at f)

  pub first_lower : (m ≡ m' → ⊥) → m < m' → p ≡ unequal_choice h (held r) (held r') m → p ≡ product_choice h r r'
  first_lower n k f =
      let least : min m m' ≡ m = omega arith in
      rw (← low, ← low', ne_eqb m m' n, least, ← small_held r s, ← small_held r' s') f

  pub second_lower : (m ≡ m' → ⊥) → m' ≤ m → p ≡ unequal_choice h (held r) (held r') m' → p ≡ product_choice h r r'
  second_lower n k f =
      let least : min m m' ≡ m' = omega arith in
      rw (← low, ← low', ne_eqb m m' n, least, ← small_held r s, ← small_held r' s') f

pub ruleset choices = (
  rules,
  modulus_fits,
  below_modulus,
  top_modulus,
  waterline_small,
  waterlines_small,
  held_small,
  cast_is,
  cast_positive,
  cast_fits,
  sum_fits,
  round_fits,
  lowest_is,
  lowest_modulus,
  lowest_some,
  result_less_fits,
  result_less,
  reserve_less_fits,
  reserve_less,
  input_chosen,
  at_chosen,
  times_constant,
  constant_times,
  first_kept,
  second_kept,
  both_fits,
  left_fits,
  same_chosen,
  below_chosen,
  same_greater,
  below_greater,
  smaller_first,
  smaller_second,
  equal_levels,
  first_lower,
  second_lower,
)
