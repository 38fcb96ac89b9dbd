-- Levels counted the other way: only the level of an `enc` changes, twice is not at all, and a line's word, operands and kind stay. And how a table
-- holds a listing's line. Assumes nothing.
use Prim.Native.Nat.{ℕ, ◌-◌, ◌<◌, ◌≤◌}
use native.Mathlib.Omega.{arith}
use mathlib.Core.Path.{◌≡◌, refl, ap, ◌∙◌}
use mathlib.Core.Bool.{Bool, false, cond}
use mathlib.Core.List.{List, [], ◌∷◌, ◌++◌, map}
use borrow.Author.Tests.{ne_eqb}
use lib.Dec.{T}
use Rattle.rows.specs.Fields.{within}
use Rattle.model.specs.declared.Header.{Header}
use Rattle.model.specs.declared.Line.{Line}
use Rattle.model.specs.declared.Line.TheVariants.{In, Const, Neg, Rot, Add, Mul, Out, Enc, Rs, Ms, Us, Free}
use Rattle.model.specs.declared.Grammar.TheVariants.{Schedule}
use Rattle.model.specs.Files.{word_of, operands, in_range, kind_of, line_formed, lines_formed}
use Rattle.model.proofs.Tests.{and_first, and_second, Within, within_facts}
use Rattle.model.proofs.Lists.{All, nil, cons}
use Rattle.model.proofs.Formed.{line_facts}
use Rattle.listings.specs.Listings.{Listed, line, downscale, turned, as_schedules, as_lines}
use Rattle.listings.specs.Held.{held_line, held_lines, is_downscale, named, counted_line}

module _ (h : Header) where
  -- ---- a line's level turned: every line but an `enc` stays
  pub turned_cases : (P : Line → Type 0) → ((x : Line) → turned h x ≡ x → P x) → ((a s e : ℕ) → P (Enc a s e)) → (x : Line) → P x
  turned_cases P stays enc In = stays In refl
  turned_cases P stays enc (Const k) = stays (Const k) refl
  turned_cases P stays enc (Neg a) = stays (Neg a) refl
  turned_cases P stays enc (Rot a t) = stays (Rot a t) refl
  turned_cases P stays enc (Add a b) = stays (Add a b) refl
  turned_cases P stays enc (Mul a b) = stays (Mul a b) refl
  turned_cases P stays enc (Out a) = stays (Out a) refl
  turned_cases P stays enc (Enc a s e) = enc a s e
  turned_cases P stays enc (Rs a c) = stays (Rs a c) refl
  turned_cases P stays enc (Ms a c) = stays (Ms a c) refl
  turned_cases P stays enc (Us a b) = stays (Us a b) refl
  turned_cases P stays enc Free = stays Free refl

  -- what the level of an `enc` does not change
  pub turned_keeps : {A : Type 0} (f : Line → A) → ((a s d e : ℕ) → f (Enc a s d) ≡ f (Enc a s e)) → (x : Line) → f (turned h x) ≡ f x
  turned_keeps f enc = turned_cases (λ x. f (turned h x) ≡ f x) (λ x e. ap f e) (λ a s e. enc a s (h.top - e) e)

  pub turned_word : (x : Line) → word_of (turned h x) ≡ word_of x
  turned_word = turned_keeps word_of (λ a s d e. refl)

  pub turned_operands : (x : Line) → operands (turned h x) ≡ operands x
  turned_operands = turned_keeps operands (λ a s d e. refl)

  pub turned_kind : (x : Line) → kind_of (turned h x) ≡ kind_of x
  turned_kind = turned_keeps kind_of (λ a s d e. refl)

  -- ---- in range, either way
  level_within : (a s e : ℕ) → T (in_range h (Enc a s e)) → Within 1 h.top e
  level_within a s e t = within_facts 1 h.top e (and_second (within 1 3600 s) (within 1 h.top e) t)

  -- the level of an `enc` in a listing: "from 0 to L − 1"
  pub level_below : (a s e : ℕ) → T (in_range h (turned h (Enc a s e))) → e < h.top
  level_below a s e t = let w = level_within a s (h.top - e) t in omega arith

  twice : (a s e : ℕ) → e ≤ h.top → turned h (turned h (Enc a s e)) ≡ Enc a s e
  twice a s e low = let same : h.top - (h.top - e) ≡ e = omega arith in ap (λ (n : ℕ). Enc a s n) same

  -- a schedule's line, and a listing's
  pub turned_twice : (x : Line) → T (in_range h x) → turned h (turned h x) ≡ x
  turned_twice =
      turned_cases (λ x. T (in_range h x) → turned h (turned h x) ≡ x) (λ x e t. ap (turned h) e ∙ e) (λ a s e t. let w = level_within a s e t in twice a s e (omega arith))

  pub turned_back : (x : Line) → T (in_range h (turned h x)) → turned h (turned h x) ≡ x
  turned_back =
      turned_cases (λ x. T (in_range h (turned h x)) → turned h (turned h x) ≡ x) (λ x e t. ap (turned h) e ∙ e)
      (λ a s e t. let low = level_below a s e t in twice a s e (omega arith))

  -- ---- a line that is held
  -- a rescale by 0 is out of range
  pub not_downscale : (x : Line) → T (in_range h x) → is_downscale x ≡ false
  not_downscale In t = refl
  not_downscale (Const k) t = refl
  not_downscale (Neg a) t = refl
  not_downscale (Rot a n) t = refl
  not_downscale (Add a b) t = refl
  not_downscale (Mul a b) t = refl
  not_downscale (Out a) t = refl
  not_downscale (Enc a s e) t = refl
  not_downscale (Rs a c) t = let w = within_facts 1 60 c t in ne_eqb c 0 (λ e. omega arith)
  not_downscale (Ms a c) t = refl
  not_downscale (Us a b) t = refl
  not_downscale Free t = refl

  pub counted_line_lem : (x : Listed) → T (in_range h (as_schedules h x)) → counted_line (held_line h x) ≡ as_schedules h x
  counted_line_lem (line x) t = ap (λ (b : Bool). cond b (Rs (named (turned h x)) 1) (turned h x)) (not_downscale (turned h x) t)
  counted_line_lem (downscale a) t = refl

  -- ---- all lines of a listing
  abbrev pub ListedInRange : List Listed → Type 0
  ListedInRange xs = All (λ x. T (in_range h (as_schedules h x))) xs

  pub listed_in_range : (before : List Line) (xs : List Listed) → T (lines_formed Schedule h before (as_lines h xs)) → ListedInRange xs
  listed_in_range before [] t = nil
  listed_in_range before (x ∷ xs) t =
      let y = as_schedules h x in
      let first = line_formed Schedule h before y in
      let rest = lines_formed Schedule h (before ++ (y ∷ [])) (as_lines h xs) in
      cons (line_facts Schedule h before y (and_first first rest t)).range (listed_in_range (before ++ (y ∷ [])) xs (and_second first rest t))

  pub counted_lines : {xs : List Listed} → ListedInRange xs → map counted_line (held_lines h xs) ≡ as_lines h xs
  counted_lines nil = refl
  counted_lines (cons {x = x} t more) = λ i. counted_line_lem x t i ∷ counted_lines more i
