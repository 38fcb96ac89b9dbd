-- The scales and levels that keep a listing's rules are unique where a line has them, so its conversion does not depend on which are taken.
-- Assumes nothing.
use Prim.Native.Nat.{ℕ, suc, ◌+◌, ◌-◌, ◌<◌}
use native.Mathlib.Omega.{arith}
use mathlib.Core.Path.{◌≡◌, refl, sym, ap, ◌∙◌, subst}
use mathlib.Core.List.{List, [], ◌∷◌, ◌++◌}
use lib.Dec.{T}
use lib.ListN.{length, get_or, take, length-take}
use lib.Seq.{get_or-take}
use Rattle.model.specs.declared.Found.{Found}
use Rattle.model.specs.declared.Found.TheVariants as Founds
use Rattle.model.specs.declared.Grammar.TheVariants.{Schedule}
use Rattle.model.specs.declared.Header.{Header}
use Rattle.model.specs.declared.Line.{Line}
use Rattle.model.specs.declared.Line.TheVariants.{Rs, Us, Free}
use Rattle.model.specs.Files.{is_ciphertext, is_encoded, kind_at, well_formed}
use Rattle.model.specs.Machine.{finished, run}
use Rattle.model.specs.Rules.{has_scale}
use Rattle.model.specs.Services.{renumbered}
use Rattle.model.proofs.Tests.{or_first}
use Rattle.model.proofs.Lists.{found_is}
use Rattle.model.proofs.Runs.{finished_is}
use Rattle.model.proofs.Formed.{Matched, LineFacts}
use Rattle.model.proofs.Checked.{scale_in, level_in, scale_of, level_of, Agrees}
use Rattle.listings.specs.Listings.{Listed, line, downscale, turned, as_schedules, as_lines}
use Rattle.listings.specs.Rules.{KeepsRisingRules}
use Rattle.listings.specs.Conversion.{convert_from, converted}
use Rattle.listings.specs.Held.{held_lines, held_machine}
use Rattle.listings.proofs.Falling.{numbered, numbered_usable, as_line, listed_facts, earlier, rising_levels, falls}
use Rattle.listings.proofs.Judged.{falling_agrees}

-- ---- what is found
-- line i has these numbers
pub record Has (scale level : ℕ → ℕ) (found : List Found) (i : ℕ) : Type 0 where
  pub scale_is : scale_in found i ≡ scale i
  pub level_is : level_in found i ≡ level i

module _ (h : Header) (xs : List Listed) (formed : T (well_formed Schedule h (as_lines h xs))) where
  pub found_has : (k : KeepsRisingRules h xs) {found : List Found} → run (held_machine h) (held_lines h xs) ≡ finished found
      → (i : ℕ) → T (has_scale (as_schedules h (get_or xs i (line Free)))) → Has k.scale (λ j. h.top - k.level j) found i
  found_has k {found} e i t =
      let r = falling_agrees h xs formed k.scale (λ j. h.top - k.level j) (falls h xs formed k) in
      subst (λ (l : List Found). Has k.scale (λ j. h.top - k.level j) l i) (finished_is (sym r.1 ∙ e))
      (has r.0 r.2 (subst (λ (x : Line). T (has_scale x)) (sym (as_line h xs i)) t))
    where
      has : (found : List Found) → Matched (Agrees h k.scale (λ j. h.top - k.level j)) (as_lines h xs) found → T (numbered (kind_at (as_lines h xs) i))
          → Has k.scale (λ j. h.top - k.level j) found i
      has found m u =
          let o = m.named i (numbered_usable (kind_at (as_lines h xs) i) u) in
          let g = found_is found i Founds.Bare o.there in
          record { scale_is = ap scale_of g ∙ o.fits.scale_is u; level_is = ap level_of g ∙ o.fits.level_is u }

  module _ (k k' : KeepsRisingRules h xs) where
    both : (i : ℕ) → T (has_scale (as_schedules h (get_or xs i (line Free)))) → (k.scale i ≡ k'.scale i) × (h.top - k.level i ≡ h.top - k'.level i)
    both i t =
        let r = falling_agrees h xs formed k.scale (λ j. h.top - k.level j) (falls h xs formed k) in
        let p = found_has k r.1 i t in
        let q = found_has k' r.1 i t in
        (sym p.scale_is ∙ q.scale_is, sym p.level_is ∙ q.level_is)

    pub same_scales : (i : ℕ) → i < length xs → T (has_scale (as_schedules h (get_or xs i (line Free)))) → k.scale i ≡ k'.scale i
    same_scales i b t = (both i t).0

    pub same_levels : (i : ℕ) → i < length xs → T (has_scale (as_schedules h (get_or xs i (line Free)))) → k.level i ≡ k'.level i
    same_levels i b t = omega (arith, (both i t).1, rising_levels h xs formed k i b t, rising_levels h xs formed k' i b t)

-- ---- conversion
-- it depends on the scales at the operands of `ds`
convert_same : (h : Header) (scale scale' : ℕ → ℕ) (xs : List Listed) (names : List ℕ) (count : ℕ)
    → ((i a : ℕ) → i < length xs → get_or xs i (line Free) ≡ downscale a → scale a ≡ scale' a)
    → convert_from h scale names count xs ≡ convert_from h scale' names count xs
convert_same h scale scale' [] names count p = refl
convert_same h scale scale' (line x ∷ xs) names count p =
    ap (λ (l : List Line). renumbered names count (turned h x) ∷ l)
    (convert_same h scale scale' xs (names ++ (count ∷ [])) (suc count) (λ i a b e. p (suc i) a (omega arith) e))
convert_same h scale scale' (downscale a ∷ xs) names count p =
    ap (λ (s : ℕ). Us (get_or names a count) (h.waterline + h.factor - s) ∷ Rs count 1 ∷ convert_from h scale (names ++ (suc count ∷ [])) (suc (suc count)) xs)
    (p 0 a (omega arith) refl)
    ∙ ap (λ (l : List Line). Us (get_or names a count) (h.waterline + h.factor - scale' a) ∷ Rs count 1 ∷ l)
    (convert_same h scale scale' xs (names ++ (suc count ∷ [])) (suc (suc count)) (λ i a b e. p (suc i) a (omega arith) e))

module _ (h : Header) (xs : List Listed) (formed : T (well_formed Schedule h (as_lines h xs))) (k k' : KeepsRisingRules h xs) where
  at_operand : (i a : ℕ) → i < length xs → get_or xs i (line Free) ≡ downscale a → k.scale a ≡ k'.scale a
  at_operand i a b e =
      let l = subst (λ (x : Listed). LineFacts Schedule h (take i (as_lines h xs)) (as_schedules h x)) e (listed_facts h xs formed i b) in
      let kind = kind_at (take i (as_lines h xs)) a in
      let p = earlier h xs i a (omega arith) (or_first (is_ciphertext kind) (is_encoded kind) l.kinds) in
      same_scales h xs formed k k' a p.within p.has

  -- of the first lines
  pub converted_take_same : (n : ℕ) → converted h k.scale (take n xs) ≡ converted h k'.scale (take n xs)
  converted_take_same n = convert_same h k.scale k'.scale (take n xs) [] 0
      (λ i a b e. let c = length-take n xs in at_operand i a (omega (arith, c)) (sym (get_or-take n xs i (line Free) (omega (arith, c))) ∙ e))

  pub converted_same : converted h k.scale xs ≡ converted h k'.scale xs
  converted_same = convert_same h k.scale k'.scale xs [] 0 at_operand
