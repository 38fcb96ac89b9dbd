-- Document 01's cases of a product are the greatest reserve that a product can have at any level, at the lowest level that gives it; and
-- the operands come to their reserves there, each at most that of scale W. Assumes nothing.
use Prim.Native.Nat.{ℕ, zero, ◌+◌, ◌-◌, ◌*◌, ◌<◌, ◌≤◌, min}
use native.Mathlib.Nat.{mul-le-mul_left}
use native.Mathlib.Omega.{arith}
use mathlib.Core.Path.{◌≡◌, refl, sym, ap, ap₂, ◌∙◌, subst}
use mathlib.Core.Bool.{true, false}
use mathlib.Core.Logic.{◌⊎◌, inl, inr}
use lib.Dec.{T, eqb, eqb→eq, eqb_refl}
use lib.IntN.{ℤ, pos, ◌+ℤ◌, ◌-ℤ◌, +ℤ_comm}
use lib.Signed.{◌≤ℤ◌, ◌<ℤ◌, le_z, lt_z}
use Rattle.ints.specs.Parts.{positive, negative}
use Rattle.ints.proofs.Linear.{signed, parts+, parts-, le_true, le_false, ≡-goal}
use Rattle.model.specs.declared.Header.{Header}
use Rattle.model.specs.declared.Choice.{Choice}
use Rattle.model.proofs.Statements.Products.{product_at}
use Rattle.model.specs.Plan.{lowest_level, smaller, at_waterline, unequal_choice, same_level_choice, level_below_choice, greater_else_lower, product_choice}
use Rattle.model.proofs.Tests.{by_test, below_or_not}
use Rattle.model.proofs.Levels.{fits, short}

-- ---- the smaller of two
pub smaller_left : (r r' : ℤ) → r ≤ℤ r' → smaller r r' ≡ r
smaller_left r r' h = by_test (λ z. z ≡ r) (le_z r r') r r' (λ e. refl) (λ e. omega (signed, le_false r r' e))

pub smaller_right : (r r' : ℤ) → r' ≤ℤ r → smaller r r' ≡ r'
smaller_right r r' h = by_test (λ z. z ≡ r') (le_z r r') r r' (λ e. omega (signed, le_true r r' e)) (λ e. refl)

pub below_smaller : (k r r' : ℤ) → k ≤ℤ r → k ≤ℤ r' → k ≤ℤ smaller r r'
below_smaller k r r' p q = by_test (λ z. k ≤ℤ z) (le_z r r') r r' (λ e. p) (λ e. q)

pub smaller_below_left : (r r' : ℤ) → smaller r r' ≤ℤ r
smaller_below_left r r' = by_test (λ z. z ≤ℤ r) (le_z r r') r r' (λ e. omega signed) (λ e. omega (signed, le_false r r' e))

pub smaller_below_right : (r r' : ℤ) → smaller r r' ≤ℤ r'
smaller_below_right r r' = by_test (λ z. z ≤ℤ r') (le_z r r') r r' (λ e. omega (signed, le_true r r' e)) (λ e. omega signed)

pub smaller_mono : (r r' q q' : ℤ) → r ≤ℤ q → r' ≤ℤ q' → smaller r r' ≤ℤ smaller q q'
smaller_mono r r' q q' p p' =
    by_test (λ z. z ≤ℤ smaller q q') (le_z r r') r r'
    (λ e. below_smaller r q q' p (omega (signed, le_true r r' e)))
    (λ e. below_smaller r' q q' (omega (signed, le_false r r' e)) p')

module _ (h : Header) (F⁺ : zero < h.factor) where
  -- what the choice of a product is to be
  pub record Optimal (r r' : ℤ) (p : Choice) : Type 0 where
    pub attained : p.reserve ≡ product_at h r r' p.level
    pub greatest : (l : ℕ) → product_at h r r' l ≤ℤ p.reserve
    pub lowest : (l : ℕ) → l < p.level → product_at h r r' l <ℤ p.reserve
    pub first_is : p.first ≡ smaller r (at_waterline h p.level)
    pub second_is : p.second ≡ smaller r' (at_waterline h p.level)

  -- at and above its m a reserve is kept, below it the waterline decides
  kept_at : (n l : ℕ) → lowest_level h (pos n) ≤ l → smaller (pos n) (at_waterline h l) ≡ pos n
  kept_at n l e = smaller_left (pos n) (at_waterline h l)
      (omega (signed, fits h F⁺ n, mul-le-mul_left h.factor e, parts- (pos (h.factor * l)) (pos h.waterline)))

  cut_at : (n l : ℕ) → l < lowest_level h (pos n) → smaller (pos n) (at_waterline h l) ≡ at_waterline h l
  cut_at n l e = smaller_right (pos n) (at_waterline h l) (omega (signed, short h F⁺ n l e, parts- (pos (h.factor * l)) (pos h.waterline)))

  -- the parts of the reserve at scale W, and of a product's
  at_parts : (l : ℕ) → positive (at_waterline h l) + h.waterline ≡ negative (at_waterline h l) + h.factor * l
  at_parts l = omega (arith, parts- (pos (h.factor * l)) (pos h.waterline))

  product_parts : (x y : ℤ) (l : ℕ)
      → positive (x +ℤ y -ℤ pos (h.factor * l)) + (negative x + negative y + h.factor * l) ≡ negative (x +ℤ y -ℤ pos (h.factor * l)) + (positive x + positive y)
  product_parts x y l = omega (arith, parts+ x y, parts- (x +ℤ y) (pos (h.factor * l)))

  swapped : (r r' : ℤ) (l : ℕ) → product_at h r r' l ≡ product_at h r' r l
  swapped r r' l = ap (λ (z : ℤ). z -ℤ pos (h.factor * l)) (+ℤ_comm (smaller r (at_waterline h l)) (smaller r' (at_waterline h l)))

  -- ---- what a product comes to at a level
  both_kept : (a b l : ℕ) → lowest_level h (pos a) ≤ l → lowest_level h (pos b) ≤ l → product_at h (pos a) (pos b) l ≡ pos a +ℤ pos b -ℤ pos (h.factor * l)
  both_kept a b l p q = ap₂ (λ (x y : ℤ). x +ℤ y -ℤ pos (h.factor * l)) (kept_at a l p) (kept_at b l q)

  one_kept : (a b l : ℕ) → lowest_level h (pos a) ≤ l → l < lowest_level h (pos b) → product_at h (pos a) (pos b) l ≡ pos a -ℤ pos h.waterline
  one_kept a b l p q =
      ap₂ (λ (x y : ℤ). x +ℤ y -ℤ pos (h.factor * l)) (kept_at a l p) (cut_at b l q)
      ∙ ≡-goal (pos a +ℤ at_waterline h l -ℤ pos (h.factor * l)) (pos a -ℤ pos h.waterline)
      (omega (arith, product_parts (pos a) (at_waterline h l) l, at_parts l, parts- (pos a) (pos h.waterline)))

  both_cut : (a b l : ℕ) → l < lowest_level h (pos a) → l < lowest_level h (pos b) → product_at h (pos a) (pos b) l ≡ pos (h.factor * l) -ℤ pos (2 * h.waterline)
  both_cut a b l p q =
      ap₂ (λ (x y : ℤ). x +ℤ y -ℤ pos (h.factor * l)) (cut_at a l p) (cut_at b l q)
      ∙ ≡-goal (at_waterline h l +ℤ at_waterline h l -ℤ pos (h.factor * l)) (pos (h.factor * l) -ℤ pos (2 * h.waterline))
      (omega (arith, product_parts (at_waterline h l) (at_waterline h l) l, at_parts l, parts- (pos (h.factor * l)) (pos (2 * h.waterline))))

  -- ---- the first operand has the smaller m
  module _ (a b : ℕ) (u : lowest_level h (pos a) < lowest_level h (pos b)) where
    cut_below : (l : ℕ) → l < lowest_level h (pos a) → product_at h (pos a) (pos b) l <ℤ (pos a -ℤ pos h.waterline)
    cut_below l p =
        subst (λ (z : ℤ). z <ℤ (pos a -ℤ pos h.waterline)) (sym (both_cut a b l p (omega arith)))
        (omega (signed, short h F⁺ a l p, parts- (pos a) (pos h.waterline), parts- (pos (h.factor * l)) (pos (2 * h.waterline))))

    at_most : (l : ℕ) → (l < lowest_level h (pos a)) ⊎ (lowest_level h (pos a) ≤ l) → (l < lowest_level h (pos b)) ⊎ (lowest_level h (pos b) ≤ l)
        → product_at h (pos a) (pos b) l ≤ℤ (pos a -ℤ pos h.waterline)
    at_most l (inl p) q = omega (signed, cut_below l p)
    at_most l (inr p) (inl q) = omega (signed, one_kept a b l p q)
    at_most l (inr p) (inr q) =
        subst (λ (z : ℤ). z ≤ℤ (pos a -ℤ pos h.waterline)) (sym (both_kept a b l p q))
        (omega (signed, fits h F⁺ b, mul-le-mul_left h.factor q, product_parts (pos a) (pos b) l, parts- (pos a) (pos h.waterline)))

    unequal : (m : ℕ) → m ≡ lowest_level h (pos a)
        → Optimal (pos a) (pos b) (record { level = m; reserve = pos a -ℤ pos h.waterline; first = pos a; second = at_waterline h m })
    unequal m e =
        record {
          attained = sym (one_kept a b m (omega arith) (omega arith));
          greatest = λ l. at_most l (below_or_not l (lowest_level h (pos a))) (below_or_not l (lowest_level h (pos b)));
          lowest = λ l p. cut_below l (omega arith);
          first_is = sym (kept_at a m (omega arith));
          second_is = sym (cut_at b m (omega arith));
        }

    -- its reserve is the smaller one
    less : a ≤ b
    less = omega (arith, fits h F⁺ a, short h F⁺ b (lowest_level h (pos a)) u)

  turned : (r r' : ℤ) (m : ℕ) (x f s : ℤ) → Optimal r r' (record { level = m; reserve = x; first = f; second = s })
      → Optimal r' r (record { level = m; reserve = x; first = s; second = f })
  turned r r' m x f s o =
      record {
        attained = o.attained ∙ swapped r r' m;
        greatest = λ l. subst (λ (z : ℤ). z ≤ℤ x) (swapped r r' l) (o.greatest l);
        lowest = λ l p. subst (λ (z : ℤ). z <ℤ x) (swapped r r' l) (o.lowest l p);
        first_is = o.second_is;
        second_is = o.first_is;
      }

  -- ---- the m's are equal
  module _ (W⁺ : zero < h.waterline) (a b : ℕ) (e : lowest_level h (pos a) ≡ lowest_level h (pos b)) where
    m : ℕ
    m = lowest_level h (pos a)

    some : 1 ≤ lowest_level h (pos a)
    some = go (below_or_not 0 (lowest_level h (pos a)))
      where
        go : (0 < lowest_level h (pos a)) ⊎ (lowest_level h (pos a) ≤ 0) → 1 ≤ lowest_level h (pos a)
        go (inl p) = p
        go (inr p) = omega (arith, fits h F⁺ a, mul-le-mul_left h.factor p)

    -- below m it rises, from m on it falls
    rises : (l : ℕ) → l < lowest_level h (pos a) → product_at h (pos a) (pos b) l ≤ℤ (level_below_choice h (lowest_level h (pos a))).reserve
    rises l p =
        subst (λ (z : ℤ). z ≤ℤ (level_below_choice h (lowest_level h (pos a))).reserve) (sym (both_cut a b l p (omega arith)))
        (omega (
          signed,
          mul-le-mul_left h.factor (up l p),
          parts- (pos (h.factor * l)) (pos (2 * h.waterline)),
          parts- (pos (h.factor * (lowest_level h (pos a) - 1))) (pos (2 * h.waterline)),
        ))
      where
        up : (l : ℕ) → l < lowest_level h (pos a) → l ≤ lowest_level h (pos a) - 1
        up l p = omega arith

    rises_strictly : (l : ℕ) → l < lowest_level h (pos a) - 1 → product_at h (pos a) (pos b) l <ℤ (level_below_choice h (lowest_level h (pos a))).reserve
    rises_strictly l p =
        subst (λ (z : ℤ). z <ℤ (level_below_choice h (lowest_level h (pos a))).reserve) (sym (both_cut a b l (omega arith) (omega arith)))
        (omega (
          signed,
          mul-le-mul_left h.factor p,
          parts- (pos (h.factor * l)) (pos (2 * h.waterline)),
          parts- (pos (h.factor * (lowest_level h (pos a) - 1))) (pos (2 * h.waterline)),
        ))

    falls : (l : ℕ) → lowest_level h (pos a) ≤ l → product_at h (pos a) (pos b) l ≤ℤ (same_level_choice h (pos a) (pos b) (lowest_level h (pos a))).reserve
    falls l p =
        subst (λ (z : ℤ). z ≤ℤ (same_level_choice h (pos a) (pos b) (lowest_level h (pos a))).reserve) (sym (both_kept a b l p (omega arith)))
        (omega (signed, mul-le-mul_left h.factor p, product_parts (pos a) (pos b) l, product_parts (pos a) (pos b) (lowest_level h (pos a))))

    same : (level_below_choice h (lowest_level h (pos a))).reserve <ℤ (same_level_choice h (pos a) (pos b) (lowest_level h (pos a))).reserve
        → Optimal (pos a) (pos b) (same_level_choice h (pos a) (pos b) (lowest_level h (pos a)))
    same o =
        record {
          attained = sym (both_kept a b (lowest_level h (pos a)) (omega arith) (omega arith));
          greatest = λ l. go l (below_or_not l (lowest_level h (pos a)));
          lowest = λ l p. omega (signed, rises l p, o);
          first_is = sym (kept_at a (lowest_level h (pos a)) (omega arith));
          second_is = sym (kept_at b (lowest_level h (pos a)) (omega arith));
        }
      where
        go : (l : ℕ) → (l < lowest_level h (pos a)) ⊎ (lowest_level h (pos a) ≤ l)
            → product_at h (pos a) (pos b) l ≤ℤ (same_level_choice h (pos a) (pos b) (lowest_level h (pos a))).reserve
        go l (inl p) = omega (signed, rises l p, o)
        go l (inr p) = falls l p

    lower : (same_level_choice h (pos a) (pos b) (lowest_level h (pos a))).reserve ≤ℤ (level_below_choice h (lowest_level h (pos a))).reserve
        → Optimal (pos a) (pos b) (level_below_choice h (lowest_level h (pos a)))
    lower o =
        record {
          attained = sym (both_cut a b (lowest_level h (pos a) - 1) (omega (arith, some)) (omega (arith, some)));
          greatest = λ l. go l (below_or_not l (lowest_level h (pos a)));
          lowest = rises_strictly;
          first_is = sym (cut_at a (lowest_level h (pos a) - 1) (omega (arith, some)));
          second_is = sym (cut_at b (lowest_level h (pos a) - 1) (omega (arith, some)));
        }
      where
        go : (l : ℕ) → (l < lowest_level h (pos a)) ⊎ (lowest_level h (pos a) ≤ l) → product_at h (pos a) (pos b) l ≤ℤ (level_below_choice h (lowest_level h (pos a))).reserve
        go l (inl p) = rises l p
        go l (inr p) = omega (signed, falls l p, o)

    equal : Optimal (pos a) (pos b) (greater_else_lower (level_below_choice h (lowest_level h (pos a))) (same_level_choice h (pos a) (pos b) (lowest_level h (pos a))))
    equal = by_test (Optimal (pos a) (pos b)) (lt_z (level_below_choice h (lowest_level h (pos a))).reserve (same_level_choice h (pos a) (pos b) (lowest_level h (pos a))).reserve) _ _
        (λ t. same (omega (signed, t))) (λ t. lower (omega (signed, t)))

  pub optimal : zero < h.waterline → (a b : ℕ) → Optimal (pos a) (pos b) (product_choice h (pos a) (pos b))
  optimal W⁺ a b = by_test (Optimal (pos a) (pos b)) (eqb (lowest_level h (pos a)) (lowest_level h (pos b))) _ _
      (λ t. equal W⁺ a b (eqb→eq (lowest_level h (pos a)) (lowest_level h (pos b)) (subst T (sym t) tt)))
      (λ t. apart (below_or_not (lowest_level h (pos a)) (lowest_level h (pos b))) (λ e. differ t e))
    where
      differ : eqb (lowest_level h (pos a)) (lowest_level h (pos b)) ≡ false → lowest_level h (pos a) ≡ lowest_level h (pos b) → ⊥
      differ t e = subst T t (subst (λ (k : ℕ). T (eqb (lowest_level h (pos a)) k)) e (eqb_refl (lowest_level h (pos a))))

      apart : (lowest_level h (pos a) < lowest_level h (pos b)) ⊎ (lowest_level h (pos b) ≤ lowest_level h (pos a)) → (lowest_level h (pos a) ≡ lowest_level h (pos b) → ⊥)
          → Optimal (pos a) (pos b) (unequal_choice h (pos a) (pos b) (min (lowest_level h (pos a)) (lowest_level h (pos b))))
      apart (inl p) d = by_test (Optimal (pos a) (pos b)) (le_z (pos a) (pos b)) _ _
          (λ t. unequal a b p (min (lowest_level h (pos a)) (lowest_level h (pos b))) (omega arith))
          (λ t. absurd (over (less a b p) (le_false (pos a) (pos b) t)))
        where
          over : a ≤ b → b + 0 < a + 0 → ⊥
          over x y = omega arith
      apart (inr p) d = by_test (Optimal (pos a) (pos b)) (le_z (pos a) (pos b)) _ _
          (λ t. absurd (over (strict (le_true (pos a) (pos b) t))))
          (λ t. turned (pos b) (pos a) _ _ _ _ (unequal b a q (min (lowest_level h (pos a)) (lowest_level h (pos b))) (omega arith)))
        where
          q : lowest_level h (pos b) < lowest_level h (pos a)
          q = omega arith

          strict : a + 0 ≤ b + 0 → h.factor * lowest_level h (pos b) < b + h.waterline
          strict x = omega (arith, short h F⁺ a (lowest_level h (pos b)) q)

          over : h.factor * lowest_level h (pos b) < b + h.waterline → ⊥
          over x = omega (arith, fits h F⁺ b)

  -- the level of a product is at most each operand's m
  pub product_level : (r r' : ℤ) → ((product_choice h r r').level ≤ lowest_level h r) × ((product_choice h r r').level ≤ lowest_level h r')
  product_level r r' = by_test P (eqb (lowest_level h r) (lowest_level h r')) _ _
      (λ t. by_test P (lt_z (level_below_choice h (lowest_level h r)).reserve (same_level_choice h r r' (lowest_level h r)).reserve) _ _ (λ u. same t) (λ u. below t))
      (λ t. by_test P (le_z r r') _ _ (λ u. omega arith) (λ u. omega arith))
    where
      P : Choice → Type 0
      P p = (p.level ≤ lowest_level h r) × (p.level ≤ lowest_level h r')

      equal_levels : eqb (lowest_level h r) (lowest_level h r') ≡ true → lowest_level h r ≡ lowest_level h r'
      equal_levels t = eqb→eq (lowest_level h r) (lowest_level h r') (subst T (sym t) tt)

      same : eqb (lowest_level h r) (lowest_level h r') ≡ true → P (same_level_choice h r r' (lowest_level h r))
      same t = omega (arith, equal_levels t)

      below : eqb (lowest_level h r) (lowest_level h r') ≡ true → P (level_below_choice h (lowest_level h r))
      below t = omega (arith, equal_levels t)
