-- A circuit that fits at one top level fits at every higher one: each line's best reserve is at least as great there. Assumes nothing.
use Prim.Native.Nat.{ℕ, zero, ◌*◌, ◌<◌, ◌≤◌}
use native.Mathlib.Nat.{mul-le-mul_left}
use mathlib.Core.Path.{◌≡◌, sym, subst, subst₂}
use mathlib.Core.List.{List}
use lib.IntN.{ℤ, pos, ◌+ℤ◌, ◌-ℤ◌}
use lib.Signed.{◌≤ℤ◌}
use Rattle.ints.specs.Parts.{positive}
use Rattle.ints.proofs.Linear.{signed, parts+, parts-, is_positive}
use Rattle.model.specs.declared.Header.{Header}
use Rattle.model.specs.declared.Line.{Line}
use Rattle.model.specs.Scales.{with_top}
use Rattle.model.specs.Machine.{Step, goes, finished, run}
use Rattle.model.specs.declared.Choice.{Choice}
use Rattle.model.specs.declared.Best.{Best}
use Rattle.model.specs.declared.Best.TheVariants as Bests
use Rattle.model.proofs.Statements.Products.{product_at}
use Rattle.model.specs.Plan.{smaller, at_waterline, input_choice, unchanged_choice, times_constant_choice, constant_times_choice, product_choice, unless_too_few, on_best, on_reserves, best_machine}
use Rattle.model.proofs.Lists.{nil3}
use Rattle.model.proofs.Kept.{Follows, Kept, run_kept, Finished, finish, idle}
use Rattle.model.proofs.HeadroomLaws.{headroom_top}
use Rattle.model.proofs.Products.{smaller_mono, Optimal, optimal}
use Rattle.model.proofs.Chosen.{unless_too_few_elim, unless_too_few_goes}

module _ (h : Header) (L : ℕ) (higher : h.top ≤ L) (F⁺ : zero < h.factor) (W⁺ : zero < h.waterline) where
  abbrev Ordered : ℤ → ℤ → Type 0
  Ordered r r' = (pos 0 ≤ℤ r) × (r ≤ℤ r')

  -- a line's best reserve at h's top level, and at L
  abbrev pub More : Best → Best → Unit {0} → Type 0
  More Bests.Constant Bests.Constant u = Unit {0}
  More Bests.Constant (Bests.Ciphertext q) u = ⊥
  More (Bests.Ciphertext p) Bests.Constant u = ⊥
  More (Bests.Ciphertext p) (Bests.Ciphertext q) u = Ordered p.reserve q.reserve

  abbrev Keeps : Step Best ℕ → Step Best ℕ → Type 0
  Keeps s t = Follows {E = ℕ} {D = ℕ} {G = Unit {0}} More s t (goes tt)

  both_chosen : (p q : Choice) → p.reserve ≤ℤ q.reserve → Keeps (unless_too_few h p) (unless_too_few (with_top h L) q)
  both_chosen p q o = unless_too_few_elim h p (λ s. Keeps s (unless_too_few (with_top h L) q)) tt
      (λ a. subst (Keeps (goes (Bests.Ciphertext p))) (sym (unless_too_few_goes (with_top h L) q (omega (signed, a, o, headroom_top h L)))) (omega (signed, a), o))

  on_ciphertext_lem : (f g : Choice → Step Best ℕ) → ((p q : Choice) → Ordered p.reserve q.reserve → Keeps (f p) (g q))
      → (x y : Best) (z : Unit {0}) → More x y z → Keeps (on_best f x) (on_best g y)
  on_ciphertext_lem f g k Bests.Constant Bests.Constant z r = tt
  on_ciphertext_lem f g k Bests.Constant (Bests.Ciphertext q) z r = absurd r
  on_ciphertext_lem f g k (Bests.Ciphertext p) Bests.Constant z r = absurd r
  on_ciphertext_lem f g k (Bests.Ciphertext p) (Bests.Ciphertext q) z r = k p q r

  module _ (both both' : ℤ → ℤ → Choice) (left left' right right' : ℤ → Choice)
      (k : (r s r' s' : ℤ) → Ordered r s → Ordered r' s' → (both r r').reserve ≤ℤ (both' s s').reserve)
      (i : (r s : ℤ) → Ordered r s → (left r).reserve ≤ℤ (left' s).reserve) (j : (r s : ℤ) → Ordered r s → (right r).reserve ≤ℤ (right' s).reserve) where
    on_pair_lem : (x y : Best) (z : Unit {0}) → More x y z → (x' y' : Best) (z' : Unit {0}) → More x' y' z'
        → Keeps (on_reserves h both left right x x') (on_reserves (with_top h L) both' left' right' y y')
    on_pair_lem Bests.Constant Bests.Constant z r Bests.Constant Bests.Constant z' r' = tt
    on_pair_lem Bests.Constant Bests.Constant z r Bests.Constant (Bests.Ciphertext q) z' r' = absurd r'
    on_pair_lem Bests.Constant Bests.Constant z r (Bests.Ciphertext p) Bests.Constant z' r' = absurd r'
    on_pair_lem Bests.Constant Bests.Constant z r (Bests.Ciphertext p) (Bests.Ciphertext q) z' r' =
        both_chosen (right p.reserve) (right' q.reserve) (j p.reserve q.reserve r')
    on_pair_lem Bests.Constant (Bests.Ciphertext q) z r x' y' z' r' = absurd r
    on_pair_lem (Bests.Ciphertext p) Bests.Constant z r x' y' z' r' = absurd r
    on_pair_lem (Bests.Ciphertext p) (Bests.Ciphertext q) z r Bests.Constant Bests.Constant z' r' =
        both_chosen (left p.reserve) (left' q.reserve) (i p.reserve q.reserve r)
    on_pair_lem (Bests.Ciphertext p) (Bests.Ciphertext q) z r Bests.Constant (Bests.Ciphertext q') z' r' = absurd r'
    on_pair_lem (Bests.Ciphertext p) (Bests.Ciphertext q) z r (Bests.Ciphertext p') Bests.Constant z' r' = absurd r'
    on_pair_lem (Bests.Ciphertext p) (Bests.Ciphertext q) z r (Bests.Ciphertext p') (Bests.Ciphertext q') z' r' =
        both_chosen (both p.reserve p'.reserve) (both' q.reserve q'.reserve) (k p.reserve q.reserve p'.reserve q'.reserve r r')

  -- the formula of a product rises with both reserves, and so does its greatest value
  product_rises : (r s r' s' : ℤ) (l : ℕ) → r ≤ℤ s → r' ≤ℤ s' → product_at h r r' l ≤ℤ product_at h s s' l
  product_rises r s r' s' l o o' = omega (
    signed,
    smaller_mono r w s w o (omega signed),
    smaller_mono r' w s' w o' (omega signed),
    parts+ (smaller r w) (smaller r' w),
    parts+ (smaller s w) (smaller s' w),
    parts- (smaller r w +ℤ smaller r' w) (pos (h.factor * l)),
    parts- (smaller s w +ℤ smaller s' w) (pos (h.factor * l)),
  )
    where
      w : ℤ
      w = at_waterline h l

  best_rises : (a b c d : ℕ) → pos a ≤ℤ pos b → pos c ≤ℤ pos d → (product_choice h (pos a) (pos c)).reserve ≤ℤ (product_choice h (pos b) (pos d)).reserve
  best_rises a b c d o o' =
      omega (signed, P.attained, product_rises (pos a) (pos b) (pos c) (pos d) (product_choice h (pos a) (pos c)).level o o', Q.greatest (product_choice h (pos a) (pos c)).level)
    where
      P : Optimal h F⁺ (pos a) (pos c) (product_choice h (pos a) (pos c))
      P = optimal h F⁺ W⁺ a c

      Q : Optimal h F⁺ (pos b) (pos d) (product_choice h (pos b) (pos d))
      Q = optimal h F⁺ W⁺ b d

  mul_rises : (r s r' s' : ℤ) → Ordered r s → Ordered r' s' → (product_choice h r r').reserve ≤ℤ (product_choice h s s').reserve
  mul_rises r s r' s' o o' =
      subst₂ (λ (x y : ℤ). (product_choice h x y).reserve ≤ℤ (product_choice h s s').reserve) (sym (whole r o.0)) (sym (whole r' o'.0))
      (subst₂ (λ (x y : ℤ). (product_choice h (pos (positive r)) (pos (positive r'))).reserve ≤ℤ (product_choice h x y).reserve) (sym (whole s (omega (signed, o))))
      (sym (whole s' (omega (signed, o'))))
      (best_rises (positive r) (positive s) (positive r') (positive s') (omega (signed, o, whole r o.0, whole s (omega (signed, o))))
      (omega (signed, o', whole r' o'.0, whole s' (omega (signed, o'))))))
    where
      whole : (z : ℤ) → pos 0 ≤ℤ z → z ≡ pos (positive z)
      whole z = is_positive z

  higher_kept : Kept (best_machine h) (best_machine (with_top h L)) idle More
  higher_kept =
      record {
        input = λ k. both_chosen (input_choice h) (input_choice (with_top h L))
            (omega (signed, mul-le-mul_left h.factor higher, parts- (pos (h.factor * h.top)) (pos h.waterline), parts- (pos (h.factor * L)) (pos h.waterline)));
        constant = λ k. tt;
        neg = on_ciphertext_lem _ _ again;
        rot = λ t. on_ciphertext_lem _ _ again;
        add = on_pair_lem (λ r r'. unchanged_choice h (smaller r r')) (λ s s'. unchanged_choice (with_top h L) (smaller s s')) (unchanged_choice h) (unchanged_choice (with_top h L))
            (unchanged_choice h) (unchanged_choice (with_top h L)) (λ r s r' s' o o'. smaller_mono r r' s s' o.1 o'.1) (λ r s o. o.1) (λ r s o. o.1);
        mul = on_pair_lem (product_choice h) (product_choice (with_top h L)) (times_constant_choice h) (times_constant_choice (with_top h L)) (constant_times_choice h)
            (constant_times_choice (with_top h L)) mul_rises less less;
        out = on_ciphertext_lem _ _ (λ p q o. o);
        enc = λ s e x y z r. tt;
        rs = λ c x y z r. tt;
        ms = λ c x y z r. tt;
        us = λ b x y z r. tt;
      }
    where
      again : (p q : Choice) → Ordered p.reserve q.reserve
          → Keeps (unless_too_few h (unchanged_choice h p.reserve)) (unless_too_few (with_top h L) (unchanged_choice (with_top h L) q.reserve))
      again p q o = both_chosen (unchanged_choice h p.reserve) (unchanged_choice (with_top h L) q.reserve) o.1

      less : (r s : ℤ) → Ordered r s → (r -ℤ pos h.waterline) ≤ℤ (s -ℤ pos h.waterline)
      less r s o = omega (signed, o, parts- r (pos h.waterline), parts- s (pos h.waterline))

  pub fits_higher : (c : List Line) {best : List Best} → run (best_machine h) c ≡ finished best → (best' : List Best) × (run (best_machine (with_top h L)) c ≡ finished best')
  fits_higher c {best} e = (K.second, K.second_is)
    where
      K : Finished More best (run (best_machine (with_top h L)) c) (run idle c)
      K = finish More (run (best_machine h) c) (run (best_machine (with_top h L)) c) (run idle c) e
          (run_kept (best_machine h) (best_machine (with_top h L)) idle More higher_kept c 0 nil3)
