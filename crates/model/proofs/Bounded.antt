-- The check's tests of a scale and a level, of a sum and of a product, each taken apart once: where it goes on, scale and level are whole numbers
-- within W ≤ scale ≤ F·level; and where they are, it goes on. Assumes nothing.
use Prim.Native.Nat.{ℕ, zero, suc, ◌+◌, ◌*◌, ◌<◌}
use native.Mathlib.Omega.{arith}
use mathlib.Core.Path.{◌≡◌, refl, ◌∙◌}
use mathlib.Core.Bool.{not, cond}
use lib.Dec.{T, leb, eqb, leb→le, le→leb, eqb→eq}
use lib.IntN.{ℤ, pos, negsuc, ◌+ℤ◌, ◌*ℤ◌}
use lib.Signed.{le_z}
use Rattle.ints.specs.Parts.{positive, negative}
use Rattle.ints.proofs.Linear.{le_parts, positive_neg, whole_part}
use Rattle.model.specs.declared.Header.{Header}
use Rattle.model.specs.Scales.{headroom}
use Rattle.model.specs.Rules.{Bounds}
use Rattle.model.specs.Machine.{Step, goes, stops}
use Rattle.model.specs.declared.Found.{Found}
use Rattle.model.specs.declared.Found.TheVariants as Founds
use Rattle.model.specs.Answers.{bounded, sum, product}
use Rattle.model.proofs.Tests.{cond_cases, cond_true}

module _ (h : Header) where
  pub bounded_goes : (found : ℕ → ℕ → Found) (s l : ℕ) → Bounds h s l → bounded h found (pos s) (pos l) ≡ goes (found s l)
  bounded_goes found s l b =
      cond_true (leb h.waterline s) (cond (leb (s + headroom h) (h.factor * l)) (goes (found s l)) (stops 9)) (stops 10) (le→leb h.waterline s (omega arith))
      ∙ cond_true (leb (s + headroom h) (h.factor * l)) (goes (found s l)) (stops 9) (le→leb (s + headroom h) (h.factor * l) b.high)

  -- the two tests
  abbrev pub Low : ℤ → Type 0
  Low s = T (le_z (pos h.waterline) s)

  abbrev pub High : ℤ → ℤ → Type 0
  High s l = T (le_z (s +ℤ pos (headroom h)) (pos h.factor *ℤ l))

  module _ (P : Step Found ℕ → Type 0) where
    -- with the tests that failed
    pub bounded_tests : (found : ℕ → ℕ → Found) (s l : ℤ) → (Low s → High s l → P (goes (found (positive s) (positive l))))
        → (Low s → T (not (le_z (s +ℤ pos (headroom h)) (pos h.factor *ℤ l))) → P (stops 9)) → (T (not (le_z (pos h.waterline) s)) → P (stops 10)) → P (bounded h found s l)
    bounded_tests found s l k nine ten =
        cond_cases P (le_z (pos h.waterline) s) _ _ (λ t. cond_cases P (le_z (s +ℤ pos (headroom h)) (pos h.factor *ℤ l)) _ _ (k t) (nine t)) ten

    pub bounded_cases : (found : ℕ → ℕ → Found) (s l : ℤ) → (Low s → High s l → P (goes (found (positive s) (positive l)))) → P (stops 9) → P (stops 10) → P (bounded h found s l)
    bounded_cases found s l k nine ten = bounded_tests found s l k (λ t u. nine) (λ t. ten)

    pub sum_tests : (s l s' l' : ℕ) → (l ≡ l' → s ≡ s' → P (bounded h Founds.Ciphertext (pos s) (pos l))) → (l ≡ l' → T (not (eqb s s')) → P (stops 8))
        → (T (not (eqb l l')) → P (stops 7)) → P (sum h s l s' l')
    sum_tests s l s' l' k eight seven =
        cond_cases P (eqb l l') _ _ (λ t. cond_cases P (eqb s s') _ _ (λ u. k (eqb→eq l l' t) (eqb→eq s s' u)) (eight (eqb→eq l l' t))) seven

    pub sum_cases : (s l s' l' : ℕ) → (l ≡ l' → s ≡ s' → P (bounded h Founds.Ciphertext (pos s) (pos l))) → (T (not (eqb s s')) → P (stops 8)) → (T (not (eqb l l')) → P (stops 7))
        → P (sum h s l s' l')
    sum_cases s l s' l' k eight seven = sum_tests s l s' l' k (λ e. eight) seven

    pub product_cases : (s l s' l' : ℕ) → (l ≡ l' → P (bounded h Founds.Ciphertext (pos (s + s')) (pos l))) → (T (not (eqb l l')) → P (stops 7)) → P (product h s l s' l')
    product_cases s l s' l' k seven = cond_cases P (eqb l l') _ _ (λ t. k (eqb→eq l l' t)) seven

  positive_times : (l : ℤ) → positive (pos h.factor *ℤ l) ≡ h.factor * positive l
  positive_times (pos l) = refl
  positive_times (negsuc l) = omega (arith, positive_neg (pos (h.factor * suc l)))

  pub tests_bound : (s l : ℤ) → Low s → High s l → Bounds h (positive s) (positive l)
  tests_bound (negsuc s) l low high = absurd low
  tests_bound (pos s) l low high =
      record {
        low = omega (arith, le_parts (pos h.waterline) (pos s) low);
        high = omega (arith, le_parts (pos (s + headroom h)) (pos h.factor *ℤ l) high, positive_times l);
      }

  -- what passes both is not below zero
  pub record Tested (s l : ℤ) : Type 0 where
    pub whole_scale : negative s ≡ 0
    pub whole_level : negative l ≡ 0
    pub bounds : Bounds h (positive s) (positive l)

  module _ (W⁺ : zero < h.waterline) where
    pub tested : (s l : ℤ) → Low s → High s l → Tested s l
    tested (pos s) (pos l) t u = record { whole_scale = refl; whole_level = refl; bounds = tests_bound (pos s) (pos l) t u }
    tested (pos s) (negsuc l) t u = absurd never
      where
        never : ⊥
        never = omega (arith, leb→le h.waterline s t, le_parts (pos (s + headroom h)) (pos h.factor *ℤ negsuc l) u, positive_neg (pos (h.factor * suc l)))
    tested (negsuc s) l t u = absurd t

    pub bounded_elim : (P : Step Found ℕ → Type 0) (found : ℕ → ℕ → Found) (S L : ℤ) → ((n : ℕ) → P (stops n))
        → ((s l : ℕ) → S ≡ pos s → L ≡ pos l → Bounds h s l → P (goes (found s l))) → P (bounded h found S L)
    bounded_elim P found S L z k =
        bounded_cases P found S L
        (λ t u. let p = tested S L t u in k (positive S) (positive L) (whole_part S p.whole_scale) (whole_part L p.whole_level) p.bounds) (z 9) (z 10)
