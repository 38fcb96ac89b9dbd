-- Lines that a table holds convert as the listing's. Assumes nothing.
use Prim.Native.Nat.{ℕ, zero, suc, ◌+◌, ◌-◌}
use mathlib.Core.Path.{◌≡◌, refl, sym, ap, ◌∙◌, subst}
use mathlib.Core.Bool.{Bool, not}
use mathlib.Core.List.{List, [], ◌∷◌, ◌++◌}
use lib.Dec.{T}
use lib.ListN.{get_or, take}
use Rattle.model.specs.declared.Grammar.TheVariants.{Schedule}
use Rattle.model.specs.declared.Header.{Header}
use Rattle.model.specs.declared.Line.{Line}
use Rattle.model.specs.declared.Line.TheVariants.{Rs, Us}
use Rattle.model.specs.Services.{renumbered}
use Rattle.model.proofs.Tests.{cond_false}
use Rattle.model.proofs.Lists.{nil, cons}
use Rattle.model.proofs.Formed.{well_lines}
use Rattle.listings.specs.Listings.{Listed, line, downscale, Listing, turned, as_lines}
use Rattle.listings.specs.Conversion.{convert_from, converted}
use Rattle.listings.specs.Held.{held_line, held_lines, is_downscale, convert_held_from, convert_held}
use Rattle.listings.proofs.Turning.{not_downscale, ListedInRange, listed_in_range}
use Rattle.listings.proofs.Texts.{ListingFacts}

-- ---- lines that a table holds convert as the listing's
module _ (h : Header) where
  held_from : (scale : ℕ → ℕ) (names : List ℕ) (count : ℕ) {xs : List Listed} → ListedInRange h xs
      → convert_held_from h scale names count (held_lines h xs) ≡ convert_from h scale names count xs
  held_from scale names count nil = refl
  held_from scale names count (cons {x = line x} t more) =
      let y = turned h x in
      cond_false (is_downscale y) _ _ (subst (λ (b : Bool). T (not b)) (sym (not_downscale h y t)) tt)
      ∙ ap (λ (l : List Line). renumbered names count y ∷ l) (held_from scale (names ++ (count ∷ [])) (suc count) more)
  held_from scale names count (cons {x = downscale a} t more) =
      ap (λ (l : List Line). Us (get_or names a count) (h.waterline + h.factor - scale a) ∷ Rs count 1 ∷ l)
      (held_from scale (names ++ (suc count ∷ [])) (suc (suc count)) more)

  -- the first lines
  first_in_range : (i : ℕ) {xs : List Listed} → ListedInRange h xs → ListedInRange h (take i xs)
  first_in_range zero r = nil
  first_in_range (suc i) nil = nil
  first_in_range (suc i) (cons t more) = cons t (first_in_range i more)

  pub first_held_lem : (i : ℕ) (xs : List Listed) → take i (held_lines h xs) ≡ held_lines h (take i xs)
  first_held_lem zero xs = refl
  first_held_lem (suc i) [] = refl
  first_held_lem (suc i) (x ∷ xs) = ap (λ (l : List Line). held_line h x ∷ l) (first_held_lem i xs)

module _ (l : Listing) (facts : ListingFacts l) where
  pub lines_in_range : ListedInRange l.header l.lines
  lines_in_range = listed_in_range l.header [] l.lines (well_lines Schedule l.header (as_lines l.header l.lines) facts.formed)

  pub convert_held_lem : (scale : ℕ → ℕ) → convert_held l.header scale (held_lines l.header l.lines) ≡ converted l.header scale l.lines
  convert_held_lem scale = held_from l.header scale [] 0 lines_in_range

  pub convert_held_first : (scale : ℕ → ℕ) (i : ℕ)
      → convert_held l.header scale (take i (held_lines l.header l.lines)) ≡ converted l.header scale (take i l.lines)
  convert_held_first scale i =
      ap (convert_held l.header scale) (first_held_lem l.header i l.lines) ∙ held_from l.header scale [] 0 (first_in_range l.header i lines_in_range)
