-- Levels counted the other way: a listing keeps the dialect's rules just where its lines keep a schedule's, with L less the level. Assumes
-- nothing.
use Prim.Native.Nat.{ℕ, zero, suc, ◌+◌, ◌*◌, ◌-◌, ◌<◌, ◌≤◌}
use native.Mathlib.Nat.{mul-add, mul-le-mul_left, not-suc-le-zero}
use native.Mathlib.Omega.{arith}
use mathlib.Core.Path.{◌≡◌, sym, ap, ◌∙◌, subst}
use mathlib.Core.Logic.{◌⊎◌, inl, inr}
use mathlib.Core.Bool.{Bool, ◌||◌, ◌&&◌}
use mathlib.Core.List.{List}
use lib.Dec.{T}
use lib.ListN.{length, get_or, take, length-map, get_or-map}
use lib.Seq.{get_or-take, length-take-le}
use Rattle.model.specs.declared.Header.{Header}
use Rattle.model.specs.declared.Kind.{Kind}
use Rattle.model.specs.declared.Kind.TheVariants.{Ciphertext, Constant, Encoded, Nothing}
use Rattle.model.specs.declared.Line.{Line}
use Rattle.model.specs.declared.Line.TheVariants.{In, Const, Neg, Rot, Add, Mul, Out, Enc, Rs, Ms, Us, Free}
use Rattle.model.specs.declared.Grammar.TheVariants.{Schedule}
use Rattle.model.specs.Files.{kind_at, is_ciphertext, is_encoded, is_usable, well_formed}
use Rattle.model.specs.Rules.{Rule, Bounds, has_scale}
use Rattle.model.proofs.Tests.{within_facts, and_second, or_first, below_or_not, header_facts}
use Rattle.model.proofs.Checked.{pair_numbers}
use Rattle.model.proofs.Formed.{LineFacts, usable_below, formed_index, well_lines, well_header}
use Rattle.rows.specs.Fields.{within}
use Rattle.listings.specs.Listings.{Listed, line, downscale, turned, as_schedules, as_lines}
use Rattle.listings.specs.Rules.{RisingBounds, RisingRule, KeepsRisingRules}

-- ---- the rules with levels that count down
abbrev pub FallingRule : Header → (ℕ → ℕ) → (ℕ → ℕ) → ℕ → Listed → Type 0
FallingRule h scale level i (line x) = Rule h scale level i (turned h x)
FallingRule h scale level i (downscale a) =
    (scale a < h.waterline + h.factor) × Bounds h (h.waterline + h.factor) (level a) × (scale i ≡ h.waterline) × (level i + 1 ≡ level a)

pub record KeepsFalling (h : Header) (lines : List Listed) (scale level : ℕ → ℕ) : Type 0 where
  pub rules : (i : ℕ) → i < length lines → FallingRule h scale level i (get_or lines i (line Free))
  pub bounds : (i : ℕ) → i < length lines → T (has_scale (as_schedules h (get_or lines i (line Free)))) → Bounds h (scale i) (level i)

-- ---- bounds
module _ (h : Header) where
  -- the modulus of the levels that are left and of those used up
  left_product : (l : ℕ) → l ≤ h.top → h.factor * (h.top - l) + h.factor * l ≡ h.factor * h.top
  left_product l u = sym (mul-add h.factor (h.top - l) l) ∙ ap (λ (n : ℕ). h.factor * n) (omega arith)

  module _ (F⁺ : zero < h.factor) where
    -- no more levels are used up than there are
    pub rising_top : (s l : ℕ) → RisingBounds h s l → l ≤ h.top
    rising_top s l b = go (below_or_not h.top l)
      where
        go : (h.top < l) ⊎ (l ≤ h.top) → l ≤ h.top
        go (inl p) = absurd (omega (arith, b.high, mul-le-mul_left h.factor p, mul-add h.factor h.top 1))
        go (inr p) = p

    pub fall_bounds : (s l : ℕ) → RisingBounds h s l → Bounds h s (h.top - l)
    fall_bounds s l b = record { low = b.low; high = omega (arith, b.high, left_product l (rising_top s l b)) }

  pub rise_bounds : (s l : ℕ) → l ≤ h.top → Bounds h s l → RisingBounds h s (h.top - l)
  rise_bounds s l u b = record { low = b.low; high = omega (arith, b.high, left_product l u) }

-- ---- one line
-- a ciphertext or an encoded constant
abbrev pub numbered : Kind → Bool
numbered k = is_ciphertext k || is_encoded k

pub numbered_usable : (k : Kind) → T (numbered k) → T (is_usable k)
numbered_usable Ciphertext t = tt
numbered_usable Constant t = absurd t
numbered_usable Encoded t = tt
numbered_usable Nothing t = absurd t

-- the level that is written is below L
pub encoded : (h : Header) (s e : ℕ) → T (within 1 3600 s && within 1 h.top (h.top - e)) → e < h.top
encoded h s e t = omega (arith, (within_facts 1 h.top (h.top - e) (and_second (within 1 3600 s) (within 1 h.top (h.top - e)) t)).least)

module _ (h : Header) (scale level : ℕ → ℕ) (i : ℕ) where
  -- the schedule's rule, with what is left of the levels
  pub fall_rule : zero < h.factor → (x : Listed) → (T (has_scale (as_schedules h x)) → level i ≤ h.top) → RisingRule h scale level i x
      → FallingRule h scale (λ j. h.top - level j) i x
  fall_rule F⁺ (line In) u r = omega arith
  fall_rule F⁺ (line (Const k)) u r = tt
  fall_rule F⁺ (line (Neg a)) u r = omega arith
  fall_rule F⁺ (line (Rot a t)) u r = omega arith
  fall_rule F⁺ (line (Add a b)) u r = omega arith
  fall_rule F⁺ (line (Mul a b)) u r = omega arith
  fall_rule F⁺ (line (Out a)) u r = omega arith
  fall_rule F⁺ (line (Enc a s e)) u r = omega arith
  fall_rule F⁺ (line (Rs a c)) u r = omega (arith, u tt)
  fall_rule F⁺ (line (Ms a c)) u r = omega (arith, u tt)
  fall_rule F⁺ (line (Us a b)) u r = omega arith
  fall_rule F⁺ (line Free) u r = tt
  fall_rule F⁺ (downscale a) u r = (r.0, fall_bounds h F⁺ (h.waterline + h.factor) (level a) r.1, r.2, omega (arith, u tt, r.3))

  module _ (before : List Line) (operand-top : (a : ℕ) → T (numbered (kind_at before a)) → level a ≤ h.top) where
    one : (a : ℕ) → T (is_ciphertext (kind_at before a)) → level a ≤ h.top
    one a t = operand-top a (or_first (is_ciphertext (kind_at before a)) (is_encoded (kind_at before a)) t)

    -- a level counted down is at most L
    pub top_rule : (x : Listed) → LineFacts Schedule h before (as_schedules h x) → FallingRule h scale level i x → T (has_scale (as_schedules h x)) → level i ≤ h.top
    top_rule (line In) l r t = omega arith
    top_rule (line (Const k)) l r t = absurd t
    top_rule (line (Neg a)) l r t = omega (arith, one a l.kinds)
    top_rule (line (Rot a n)) l r t = omega (arith, one a l.kinds)
    top_rule (line (Add a b)) l r t = omega (arith, operand-top a (pair_numbers h scale level (kind_at before a) (kind_at before b) l.kinds).0)
    top_rule (line (Mul a b)) l r t = omega (arith, operand-top a (pair_numbers h scale level (kind_at before a) (kind_at before b) l.kinds).0)
    top_rule (line (Out a)) l r t = absurd t
    top_rule (line (Enc a s e)) l r t = omega arith
    top_rule (line (Rs a c)) l r t = omega (arith, one a l.kinds)
    top_rule (line (Ms a c)) l r t = omega (arith, one a l.kinds)
    top_rule (line (Us a b)) l r t = omega (arith, one a l.kinds)
    top_rule (line Free) l r t = absurd t
    top_rule (downscale a) l r t = omega (arith, one a l.kinds, r.3)

    -- the dialect's rule, with L less the levels
    pub rise_rule : (x : Listed) → LineFacts Schedule h before (as_schedules h x) → FallingRule h scale level i x → RisingRule h scale (λ j. h.top - level j) i x
    rise_rule (line In) l r = omega arith
    rise_rule (line (Const k)) l r = tt
    rise_rule (line (Neg a)) l r = omega arith
    rise_rule (line (Rot a t)) l r = omega arith
    rise_rule (line (Add a b)) l r = omega arith
    rise_rule (line (Mul a b)) l r = omega arith
    rise_rule (line (Out a)) l r = omega arith
    rise_rule (line (Enc a s e)) l r = omega (arith, encoded h s e l.range)
    rise_rule (line (Rs a c)) l r = omega (arith, one a l.kinds)
    rise_rule (line (Ms a c)) l r = omega (arith, one a l.kinds)
    rise_rule (line (Us a b)) l r = omega arith
    rise_rule (line Free) l r = tt
    rise_rule (downscale a) l r =
        (r.0, rise_bounds h (h.waterline + h.factor) (level a) (one a l.kinds) r.1, r.2, omega (arith, one a l.kinds, r.3))

-- ---- all lines
module _ (h : Header) (xs : List Listed) where
  -- line i is held as the schedule's line
  pub as_line : (i : ℕ) → get_or (as_lines h xs) i Free ≡ as_schedules h (get_or xs i (line Free))
  as_line i = get_or-map (as_schedules h) xs i (line Free)

  pub as_length : length (as_lines h xs) ≡ length xs
  as_length = length-map xs (as_schedules h)

  pub listed_facts : T (well_formed Schedule h (as_lines h xs)) → (i : ℕ) → i < length xs
      → LineFacts Schedule h (take i (as_lines h xs)) (as_schedules h (get_or xs i (line Free)))
  listed_facts formed i b =
      subst (LineFacts Schedule h (take i (as_lines h xs))) (as_line i)
      (formed_index Schedule h (as_lines h xs) (well_lines Schedule h (as_lines h xs) formed) i (omega (arith, as_length)))

  -- an operand that has a scale is an earlier line
  pub record Earlier (i a : ℕ) : Type 0 where
    pub below : a < i
    pub within : a < length xs
    pub has : T (has_scale (as_schedules h (get_or xs a (line Free))))

  pub earlier : (i a : ℕ) → i ≤ length xs → T (numbered (kind_at (take i (as_lines h xs)) a)) → Earlier i a
  earlier i a b t =
      let p = usable_below (take i (as_lines h xs)) a (numbered_usable (kind_at (take i (as_lines h xs)) a) t) in
      let q = length-take-le i (as_lines h xs) (omega (arith, as_length)) in
      record {
        below = omega arith;
        within = omega arith;
        has = subst (λ (x : Line). T (has_scale x)) (get_or-take i (as_lines h xs) a Free (omega arith) ∙ as_line a) t;
      }

  module _ (formed : T (well_formed Schedule h (as_lines h xs))) where
    F⁺ : zero < h.factor
    F⁺ = omega (arith, (header_facts h (well_header Schedule h (as_lines h xs) formed)).factor.least)

    pub rising_levels : (k : KeepsRisingRules h xs) (i : ℕ) → i < length xs → T (has_scale (as_schedules h (get_or xs i (line Free)))) → k.level i ≤ h.top
    rising_levels k i b t = rising_top h F⁺ (k.scale i) (k.level i) (k.bounds i b t)

    pub falls : (k : KeepsRisingRules h xs) → KeepsFalling h xs k.scale (λ i. h.top - k.level i)
    falls k =
        record {
          rules = λ i b. fall_rule h k.scale k.level i F⁺ (get_or xs i (line Free)) (rising_levels k i b) (k.rules i b);
          bounds = λ i b t. fall_bounds h F⁺ (k.scale i) (k.level i) (k.bounds i b t);
        }

    module _ (scale level : ℕ → ℕ) (k : KeepsFalling h xs scale level) where
      abbrev AtMost : ℕ → Type 0
      AtMost i = i < length xs → T (has_scale (as_schedules h (get_or xs i (line Free)))) → level i ≤ h.top

      top_below : (n i : ℕ) → i < n → AtMost i
      top_below zero i p b t = absurd (not-suc-le-zero p)
      top_below (suc n) i p b t =
          top_rule h scale level i (take i (as_lines h xs)) (λ a u. let e = earlier i a (omega arith) u in top_below n a (omega (arith, e.below)) e.within e.has)
          (get_or xs i (line Free)) (listed_facts formed i b) (k.rules i b) t

      pub falling_levels : (i : ℕ) → AtMost i
      falling_levels i = top_below (suc i) i (omega arith)

      pub rules_rise : (i : ℕ) → i < length xs → RisingRule h scale (λ j. h.top - level j) i (get_or xs i (line Free))
      rules_rise i b =
          rise_rule h scale level i (take i (as_lines h xs)) (λ a u. let e = earlier i a (omega arith) u in falling_levels a e.within e.has)
          (get_or xs i (line Free)) (listed_facts formed i b) (k.rules i b)

      pub bounds_rise : (i : ℕ) → i < length xs → T (has_scale (as_schedules h (get_or xs i (line Free)))) → RisingBounds h (scale i) (h.top - level i)
      bounds_rise i b t = rise_bounds h (scale i) (level i) (falling_levels i b t) (k.bounds i b t)

      abbrev pub rises : KeepsRisingRules h xs
      rises = record { scale = scale; level = λ i. h.top - level i; rules = rules_rise; bounds = bounds_rise }
