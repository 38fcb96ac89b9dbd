-- The conversion asks for the scales of what each `ds` names and for no others: with the scales that the rules left behind it is the conversion with
-- the scales that they found. Assumes nothing.
use Prim.Native.Nat.{ℕ, suc, ◌+◌, ◌-◌, ◌≤◌, ◌<◌}
use native.Mathlib.Omega.{arith}
use mathlib.Core.Path.{◌≡◌, refl, sym, ap, ◌∙◌, subst}
use mathlib.Core.Bool.{Bool, true, false, cond}
use mathlib.Core.List.{List, [], ◌∷◌, ◌++◌}
use lib.ListN.{length, get_or, take, length-take}
use lib.Seq.{get_or-take}
use Rattle.model.specs.declared.Grammar.TheVariants.{Schedule}
use Rattle.model.specs.declared.Header.{Header}
use Rattle.model.specs.declared.Line.{Line}
use Rattle.model.specs.declared.Line.TheVariants.{Rs, Us, Free}
use Rattle.model.specs.Services.{renumbered}
use Rattle.text.specs.Tables.{TableFormed}
use Rattle.listings.specs.Held.{is_downscale, named, counted_table, found_scales, convert_held_from, convert_held}
use Rattle.tables.specs.declared.Record.{Record}
use Rattle.tables.specs.Records.{lines_held, held}
use Rattle.rules.specs.Scales.{ScalesLeft}
use Rattle.rules.proofs.Downscales.{named_there}
use Rattle.std.specs.Prelude.{Result, Ok, Err}
use Rattle.model.specs.declared.Refusal.{Refusal}
use Rattle.listingtable.specs.Conversion.{ConvertedTo}

-- the same scale of what a line names
abbrev pub SameScales : (ℕ → ℕ) → (ℕ → ℕ) → List Line → Type 0
SameScales s s' xs = (i : ℕ) → i < length xs → s (named (get_or xs i Free)) ≡ s' (named (get_or xs i Free))

module _ (h : Header) (s s' : ℕ → ℕ) where
  same_from : (xs : List Line) (names : List ℕ) (count : ℕ) → SameScales s s' xs → convert_held_from h s names count xs ≡ convert_held_from h s' names count xs
  same_from [] names count e = refl
  same_from (x ∷ xs) names count e =
      go (is_downscale x) (same_from xs (names ++ (suc count ∷ [])) (suc (suc count)) (λ i l. e (suc i) (omega arith)))
      (same_from xs (names ++ (count ∷ [])) (suc count) (λ i l. e (suc i) (omega arith)))
    where
      two : (ℕ → ℕ) → List Line → List Line
      two scale rest = Us (get_or names (named x) count) (h.waterline + h.factor - scale (named x)) ∷ Rs count 1 ∷ rest

      one : List Line → List Line
      one rest = renumbered names count x ∷ rest

      go :
          (b : Bool) {p p' q q' : List Line} → p ≡ p' → q ≡ q' → cond b (two s p) (one q) ≡ cond b (two s' p') (one q')
      go true {p} {p'} {q} {q'} f g = ap (two s) f ∙ ap (λ (n : ℕ). Us (get_or names (named x) count) (h.waterline + h.factor - n) ∷ Rs count 1 ∷ p') (e 0 (omega arith))
      go false f g = ap one g

  pub same_converted : (xs : List Line) → SameScales s s' xs → convert_held h s xs ≡ convert_held h s' xs
  same_converted xs e = same_from xs [] 0 e

module _
    (h : Header) (records : List Record) (count : ℕ) (formed : TableFormed Schedule (counted_table (held h records count))) (scales : List ℕ)
    (left : ScalesLeft h (lines_held records count) scales) where
  abbrev lines : List Line
  lines = lines_held records count

  abbrev left_behind : ℕ → ℕ
  left_behind a = get_or scales a 0

  left_same : SameScales left_behind (found_scales h lines) lines
  left_same i l = left.found (named (get_or lines i Free)) (named_there h records count formed i l)

  -- so it is of the first lines
  first_same : (n : ℕ) → SameScales left_behind (found_scales h lines) (take n lines)
  first_same n i l =
      let inside : i < n = omega (arith, length-take n lines) in
      let below : i < length lines = omega (arith, length-take n lines) in
      subst (λ (x : Line). left_behind (named x) ≡ found_scales h lines (named x)) (sym (get_or-take n lines i Free inside)) (left_same i below)

  pub left_converted : convert_held h left_behind lines ≡ convert_held h (found_scales h lines) lines
  left_converted = same_converted h left_behind (found_scales h lines) lines left_same

  first_converted : (n : ℕ) → convert_held h left_behind (take n lines) ≡ convert_held h (found_scales h lines) (take n lines)
  first_converted n = same_converted h left_behind (found_scales h lines) (take n lines) (first_same n)

  -- what the code has made of the listing, with the scales that the rules found
  pub converted_found :
      (r : Result ℕ Refusal) (schedule : List Record) → ConvertedTo h left_behind lines r schedule → ConvertedTo h (found_scales h lines) lines r schedule
  converted_found (Ok n) schedule c =
      record { held = c.held ∙ left_converted; long = ap (length {A = Line}) (sym left_converted) ∙ c.long; few = c.few }
  converted_found (Err r) schedule c =
      let i = c.line_number in
      record {
        line_number = i;
        fault_is = c.fault_is;
        place_is = c.place_is;
        below = c.below;
        before = subst (λ (l : List Line). length l ≤ 1792) (first_converted i) c.before;
        with_it = subst (λ (l : List Line). 1792 < length l) (first_converted (suc i)) c.with_it;
      }
