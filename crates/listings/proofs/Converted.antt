-- The schedule that a listing becomes passes the check, is well formed and keeps as many lines. Assumes nothing.
use Prim.Native.Nat.{ℕ, suc, ◌<◌}
use native.Mathlib.Omega.{arith}
use mathlib.Core.Path.{◌≡◌, refl, sym, ap, ◌∙◌, subst}
use mathlib.Core.Bool.{cond}
use mathlib.Core.List.{List, [], ◌∷◌, ◌++◌, append-nil}
use lib.Dec.{T}
use lib.ListN.{length, get_or, length-append}
use lib.Seq.{append_snoc, get_or_at}
use Rattle.model.specs.declared.Found.{Found}
use Rattle.model.specs.declared.Found.TheVariants as Founds
use Rattle.model.specs.declared.Grammar.TheVariants.{Schedule}
use Rattle.model.specs.declared.Header.{Header}
use Rattle.model.specs.declared.Line.{Line}
use Rattle.model.specs.declared.Line.TheVariants.{Free}
use Rattle.model.specs.Answers.{check_machine}
use Rattle.model.specs.Files.{lines_formed, well_formed}
use Rattle.model.specs.Machine.{finished, run}
use Rattle.model.specs.Services.{renumbered}
use Rattle.model.proofs.Lists.{length_snoc}
use Rattle.model.proofs.Formed.{Matched}
use Rattle.model.proofs.Checked.{Agrees}
use Rattle.text.specs.Files.{kept_count}
use Rattle.listings.specs.Listings.{Listed, line, downscale, turned, as_lines}
use Rattle.listings.specs.Conversion.{convert_from, converted}
use Rattle.listings.specs.Held.{held_lines, held_machine}
use Rattle.listings.proofs.Falling.{KeepsFalling}
use Rattle.listings.proofs.Written.{Written, nothing_written, values, kinds, raising, rescaling, line_written, downscale_written}
use Rattle.listings.proofs.Renaming.{renamed_word}

-- ---- all lines
-- the check runs to the end through well-formed lines
pub record Passed (h : Header) (lines : List Line) : Type 0 where
  pub found : List Found
  pub runs : run (check_machine h) lines ≡ finished found
  pub formed : T (lines_formed Schedule h [] lines)

module _ (h : Header) (xs : List Listed) (listing : T (well_formed Schedule h (as_lines h xs))) (scale level : ℕ → ℕ) (keeps : KeepsFalling h xs scale level)
    (all : List Found) (e : run (held_machine h) (held_lines h xs) ≡ finished all) (agrees : Matched (Agrees h scale level) (as_lines h xs) all) where
  abbrev Far : List ℕ → List Line → List Found → Type 0
  Far names lines found =
      Written h (kinds h xs listing scale level keeps all e agrees) (values h xs listing scale level keeps all e agrees) names lines found

  -- the listing's line after those so far
  record Next (x : Listed) (n : ℕ) : Type 0 where
    at : get_or xs n (line Free) ≡ x
    below : n < length xs

  next : (x : Listed) (rest done : List Listed) (n : ℕ) → done ++ (x ∷ rest) ≡ xs → n ≡ length done → Next x n
  next x rest done n p q =
      record {
        at = ap (λ (l : List Listed). get_or l n (line Free)) (sym p) ∙ get_or_at done x rest (line Free) n (sym q);
        below = subst (λ (l : List Listed). n < length l) p (omega (arith, length-append done (x ∷ rest)));
      }

  walk : (rest done : List Listed) (names : List ℕ) (lines : List Line) (found : List Found) → done ++ rest ≡ xs → length names ≡ length done → Far names lines found
      → Passed h (lines ++ convert_from h scale names (length lines) rest)
  walk [] done names lines found p q w = subst (Passed h) (sym (append-nil lines)) (record { found = found; runs = w.runs; formed = w.formed })
  walk (line x ∷ rest) done names lines found p q w =
      let f = next (line x) rest done (length names) p q in
      subst (Passed h)
      (ap (λ (n : ℕ). lines ++ (renumbered names (length lines) (turned h x) ∷ []) ++ convert_from h scale (names ++ (length lines ∷ [])) n rest)
      (length_snoc lines (renumbered names (length lines) (turned h x)))
      ∙ append_snoc lines (renumbered names (length lines) (turned h x)) (convert_from h scale (names ++ (length lines ∷ [])) (suc (length lines)) rest))
      (walk rest (done ++ (line x ∷ [])) (names ++ (length lines ∷ [])) (lines ++ (renumbered names (length lines) (turned h x) ∷ []))
      (found ++ (get_or all (length names) Founds.Bare ∷ [])) (append_snoc done (line x) rest ∙ p)
      (length_snoc names (length lines) ∙ ap suc q ∙ sym (length_snoc done (line x)))
      (line_written h xs listing scale level keeps all e agrees w f.below x f.at))
  walk (downscale a ∷ rest) done names lines found p q w =
      let f = next (downscale a) rest done (length names) p q in
      go (raising h xs listing scale level keeps all e agrees w f.below a f.at) (rescaling h xs listing scale level keeps all e agrees w f.below a f.at)
      (walk rest (done ++ (downscale a ∷ [])) (names ++ (suc (length lines) ∷ [])) _ _ (append_snoc done (downscale a) rest ∙ p)
      (length_snoc names (suc (length lines)) ∙ ap suc q ∙ sym (length_snoc done (downscale a)))
      (downscale_written h xs listing scale level keeps all e agrees w f.below a f.at))
    where
      go : (y z : Line)
          → Passed h (lines ++ (y ∷ []) ++ (z ∷ []) ++ convert_from h scale (names ++ (suc (length lines) ∷ [])) (length (lines ++ (y ∷ []) ++ (z ∷ []))) rest)
          → Passed h (lines ++ (y ∷ z ∷ convert_from h scale (names ++ (suc (length lines) ∷ [])) (suc (suc (length lines))) rest))
      go y z r =
          subst (Passed h)
          (ap (λ (n : ℕ). lines ++ (y ∷ []) ++ (z ∷ []) ++ convert_from h scale (names ++ (suc (length lines) ∷ [])) n rest)
          (length_snoc (lines ++ (y ∷ [])) z ∙ ap suc (length_snoc lines y))
          ∙ append_snoc (lines ++ (y ∷ [])) z (convert_from h scale (names ++ (suc (length lines) ∷ [])) (suc (suc (length lines))) rest)
          ∙ append_snoc lines y (z ∷ convert_from h scale (names ++ (suc (length lines) ∷ [])) (suc (suc (length lines))) rest)) r

  pub passed : Passed h (converted h scale xs)
  passed = walk xs [] [] [] [] refl refl (nothing_written h (kinds h xs listing scale level keeps all e agrees) (values h xs listing scale level keeps all e agrees))

-- ---- kept lines
pub same_count : (h : Header) (scale : ℕ → ℕ) (xs : List Listed) (names : List ℕ) (count : ℕ) → kept_count (convert_from h scale names count xs) ≡ kept_count (as_lines h xs)
same_count h scale [] names count = refl
same_count h scale (line x ∷ xs) names count =
    (λ i. cond (renamed_word (λ a. get_or names a count) (turned h x) i) (suc (same_count h scale xs (names ++ (count ∷ [])) (suc count) i))
    (same_count h scale xs (names ++ (count ∷ [])) (suc count) i))
same_count h scale (downscale a ∷ xs) names count = same_count h scale xs (names ++ (suc count ∷ [])) (suc (suc count))
