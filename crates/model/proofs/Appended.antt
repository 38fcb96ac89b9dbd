-- What one line more does to erasing and to a well-formed schedule. Assumes nothing.
use Prim.Native.Nat.{ℕ, suc, ◌+◌}
use native.Mathlib.Omega.{arith}
use mathlib.Core.Path.{◌≡◌, ap, ◌∙◌}
use mathlib.Core.Bool.{true}
use mathlib.Core.List.{List, [], ◌∷◌, ◌++◌, append-nil}
use lib.Dec.{T}
use lib.ListN.{length, get_or}
use Rattle.model.specs.declared.Header.{Header}
use Rattle.model.specs.declared.Line.{Line}
use Rattle.model.specs.declared.Grammar.{Grammar}
use Rattle.model.specs.Files.{line_formed, lines_formed}
use Rattle.model.specs.Services.{Fate, kept, made_from, fate_of, renumbered, erase_from, kept_from, erase, kept_lines}
use Rattle.model.proofs.Statements.Erasing.{origins_from, origins}
use Rattle.model.proofs.Tests.{and_both}
use Rattle.model.proofs.Formed.{formed_append}

-- erasing goes on with the origins and the count so far
pub erase_append : (xs : List Line) (O : List ℕ) (n : ℕ) (ys : List Line)
    → erase_from O n (xs ++ ys) ≡ erase_from O n xs ++ erase_from (origins_from O n xs) (n + length (erase_from O n xs)) ys
erase_append [] O n ys = ap (λ (m : ℕ). erase_from O m ys) (omega arith)
erase_append (x ∷ xs) O n ys = go (fate_of x) (erase_append xs (O ++ (n ∷ [])) (suc n) ys) (λ a. erase_append xs (O ++ (get_or O a n ∷ [])) n ys)
  where
    go : (w : Fate)
        → erase_from (O ++ (n ∷ [])) (suc n) (xs ++ ys) ≡ erase_from (O ++ (n ∷ [])) (suc n) xs ++ erase_from (origins_from (O ++ (n ∷ [])) (suc n) xs)
        (suc n + length (erase_from (O ++ (n ∷ [])) (suc n) xs)) ys
        → ((a : ℕ) → erase_from (O ++ (get_or O a n ∷ [])) n (xs ++ ys) ≡ erase_from (O ++ (get_or O a n ∷ [])) n xs ++ erase_from (origins_from (O ++ (get_or O a n ∷ [])) n xs)
        (n + length (erase_from (O ++ (get_or O a n ∷ [])) n xs)) ys)
        → (elim w [ kept ↦ renumbered O n x ∷ erase_from (O ++ (n ∷ [])) (suc n) (xs ++ ys) | made_from a ↦ erase_from (O ++ (get_or O a n ∷ [])) n (xs ++ ys) ])
        ≡ (elim w [ kept ↦ renumbered O n x ∷ erase_from (O ++ (n ∷ [])) (suc n) xs | made_from a ↦ erase_from (O ++ (get_or O a n ∷ [])) n xs ])
        ++ erase_from (elim w [ kept ↦ origins_from (O ++ (n ∷ [])) (suc n) xs | made_from a ↦ origins_from (O ++ (get_or O a n ∷ [])) n xs ])
        (n + length {A = Line} (elim w [ kept ↦ renumbered O n x ∷ erase_from (O ++ (n ∷ [])) (suc n) xs | made_from a ↦ erase_from (O ++ (get_or O a n ∷ [])) n xs ])) ys
    go kept p q = ap (λ (l : List Line). renumbered O n x ∷ l)
        (p ∙ ap (λ (m : ℕ). erase_from (O ++ (n ∷ [])) (suc n) xs ++ erase_from (origins_from (O ++ (n ∷ [])) (suc n) xs) m ys) (omega arith))
    go (made_from a) p q = q a

pub origins_append : (xs : List Line) (O : List ℕ) (n : ℕ) (ys : List Line) → origins_from O n (xs ++ ys) ≡ origins_from (origins_from O n xs) (n + length (erase_from O n xs)) ys
origins_append [] O n ys = ap (λ (m : ℕ). origins_from O m ys) (omega arith)
origins_append (x ∷ xs) O n ys = go (fate_of x) (origins_append xs (O ++ (n ∷ [])) (suc n) ys) (λ a. origins_append xs (O ++ (get_or O a n ∷ [])) n ys)
  where
    go : (w : Fate)
        → origins_from (O ++ (n ∷ [])) (suc n) (xs ++ ys) ≡ origins_from (origins_from (O ++ (n ∷ [])) (suc n) xs) (suc n + length (erase_from (O ++ (n ∷ [])) (suc n) xs)) ys
        → ((a : ℕ) → origins_from (O ++ (get_or O a n ∷ [])) n (xs ++ ys) ≡ origins_from (origins_from (O ++ (get_or O a n ∷ [])) n xs)
        (n + length (erase_from (O ++ (get_or O a n ∷ [])) n xs)) ys)
        → (elim w [ kept ↦ origins_from (O ++ (n ∷ [])) (suc n) (xs ++ ys) | made_from a ↦ origins_from (O ++ (get_or O a n ∷ [])) n (xs ++ ys) ])
        ≡ origins_from (elim w [ kept ↦ origins_from (O ++ (n ∷ [])) (suc n) xs | made_from a ↦ origins_from (O ++ (get_or O a n ∷ [])) n xs ])
        (n + length {A = Line} (elim w [ kept ↦ renumbered O n x ∷ erase_from (O ++ (n ∷ [])) (suc n) xs | made_from a ↦ erase_from (O ++ (get_or O a n ∷ [])) n xs ])) ys
    go kept p q = p ∙ ap (λ (m : ℕ). origins_from (origins_from (O ++ (n ∷ [])) (suc n) xs) m ys) (omega arith)
    go (made_from a) p q = q a

pub kept_append : (xs : List Line) (i : ℕ) (ys : List Line) → kept_from i (xs ++ ys) ≡ kept_from i xs ++ kept_from (i + length xs) ys
kept_append [] i ys = ap (λ (m : ℕ). kept_from m ys) (omega arith)
kept_append (x ∷ xs) i ys = go (fate_of x) (kept_append xs (suc i) ys ∙ ap (λ (m : ℕ). kept_from (suc i) xs ++ kept_from m ys) (omega arith))
  where
    go : (w : Fate) → kept_from (suc i) (xs ++ ys) ≡ kept_from (suc i) xs ++ kept_from (i + suc (length xs)) ys
        → (elim w [ kept ↦ i ∷ kept_from (suc i) (xs ++ ys) | made_from a ↦ kept_from (suc i) (xs ++ ys) ])
        ≡ (elim w [ kept ↦ i ∷ kept_from (suc i) xs | made_from a ↦ kept_from (suc i) xs ]) ++ kept_from (i + suc (length xs)) ys
    go kept p = ap (λ (l : List ℕ). i ∷ l) p
    go (made_from a) p = p

-- ---- one line more of a schedule
module _ (xs : List Line) (x : Line) where
  abbrev here : ℕ → ℕ
  here a = get_or (origins xs) a (length (erase xs))

  zero_plus : (n : ℕ) → 0 + n ≡ n
  zero_plus n = omega arith

  abbrev erasing : ℕ → Fate → List Line
  erasing n w = elim w [ kept ↦ renumbered (origins xs) n x ∷ [] | made_from a ↦ [] ]

  abbrev tracing : ℕ → Fate → List ℕ
  tracing n w = elim w [ kept ↦ origins xs ++ (n ∷ []) | made_from a ↦ origins xs ++ (get_or (origins xs) a n ∷ []) ]

  abbrev keeping : ℕ → Fate → List ℕ
  keeping i w = elim w [ kept ↦ i ∷ [] | made_from a ↦ [] ]

  erase_one : erase (xs ++ (x ∷ [])) ≡ erase xs ++ erasing (length (erase xs)) (fate_of x)
  erase_one = erase_append xs [] 0 (x ∷ []) ∙ ap (λ (n : ℕ). erase xs ++ erasing n (fate_of x)) (zero_plus (length (erase xs)))

  origins_one : origins (xs ++ (x ∷ [])) ≡ tracing (length (erase xs)) (fate_of x)
  origins_one = origins_append xs [] 0 (x ∷ []) ∙ ap (λ (n : ℕ). tracing n (fate_of x)) (zero_plus (length (erase xs)))

  kept_one : kept_lines (xs ++ (x ∷ [])) ≡ kept_lines xs ++ keeping (length xs) (fate_of x)
  kept_one = kept_append xs 0 (x ∷ []) ∙ ap (λ (n : ℕ). kept_lines xs ++ keeping n (fate_of x)) (zero_plus (length xs))

  -- a line that stays
  module _ (e : fate_of x ≡ kept) where
    pub erase_kept : erase (xs ++ (x ∷ [])) ≡ erase xs ++ (renumbered (origins xs) (length (erase xs)) x ∷ [])
    erase_kept = erase_one ∙ ap (λ (w : Fate). erase xs ++ erasing (length (erase xs)) w) e

    pub origins_kept : origins (xs ++ (x ∷ [])) ≡ origins xs ++ (length (erase xs) ∷ [])
    origins_kept = origins_one ∙ ap (tracing (length (erase xs))) e

    pub lines_kept : kept_lines (xs ++ (x ∷ [])) ≡ kept_lines xs ++ (length xs ∷ [])
    lines_kept = kept_one ∙ ap (λ (w : Fate). kept_lines xs ++ keeping (length xs) w) e

  -- a line that is struck
  module _ (a : ℕ) (e : fate_of x ≡ made_from a) where
    pub erase_struck : erase (xs ++ (x ∷ [])) ≡ erase xs
    erase_struck = erase_one ∙ ap (λ (w : Fate). erase xs ++ erasing (length (erase xs)) w) e ∙ append-nil (erase xs)

    pub origins_struck : origins (xs ++ (x ∷ [])) ≡ origins xs ++ (here a ∷ [])
    origins_struck = origins_one ∙ ap (tracing (length (erase xs))) e

    pub lines_struck : kept_lines (xs ++ (x ∷ [])) ≡ kept_lines xs
    lines_struck = kept_one ∙ ap (λ (w : Fate). kept_lines xs ++ keeping (length xs) w) e ∙ append-nil (kept_lines xs)

-- ---- well-formed
module _ (g : Grammar) (h : Header) where
  pub formed_snoc : (xs : List Line) (x : Line) → T (lines_formed g h [] xs) → T (line_formed g h xs x) → T (lines_formed g h [] (xs ++ (x ∷ [])))
  formed_snoc xs x p q = formed_append g h [] xs (x ∷ []) p (and_both (line_formed g h xs x) true q tt)
