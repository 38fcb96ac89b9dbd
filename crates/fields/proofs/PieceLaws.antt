-- Cutting a text into pieces and joining them are inverse, and the pieces are what a search for the next byte x finds. Assumes nothing.
use Prim.Native.Nat.{ℕ, suc, ◌≤◌, ◌<◌}
use native.Mathlib.Decide.{ℕ_discrete}
use native.Mathlib.Omega.{arith}
use mathlib.Core.Path.{◌≡◌, refl, ap, ◌∙◌}
use mathlib.Core.List.{List, [], ◌∷◌, ◌++◌}
use borrow.Author.Tests.{eq-eqb, ne_eqb}
use lib.Dec.{T}
use lib.ListN.{length, take, drop}
use Rattle.fields.specs.Places.{before}
use Rattle.fields.specs.Pieces.{Bytes, in_front, split, join, same_bytes}
use Rattle.fields.proofs.Each.{Each, none, one, each_append}

-- no byte of a piece is x
abbrev pub Without : ℕ → Bytes → Type 0
Without x = Each (λ b. b ≡ x → ⊥)

module _ (x : ℕ) where
  -- ---- at a byte x, and at any other
  pub before_here : (s : Bytes) → before x (x ∷ s) ≡ 0
  unfolding before
  before_here s = simp (eq-eqb x x refl)

  pub before_other : (b : ℕ) (s : Bytes) → (b ≡ x → ⊥) → before x (b ∷ s) ≡ suc (before x s)
  unfolding before
  before_other b s n = simp (ne_eqb b x n)

  pub split_here : (s : Bytes) → split x (x ∷ s) ≡ [] ∷ split x s
  unfolding split
  split_here s = simp (eq-eqb x x refl)

  pub split_other : (b : ℕ) (s : Bytes) → (b ≡ x → ⊥) → split x (b ∷ s) ≡ in_front b (split x s)
  unfolding split
  split_other b s n = simp (ne_eqb b x n)

  -- shown of the empty text, of one that begins with x and of one that begins with another byte, it holds of every text
  pub byte_by_byte : (P : Bytes → Type 0) → P [] → ((s : Bytes) → P s → P (x ∷ s)) → ((b : ℕ) (s : Bytes) → (b ≡ x → ⊥) → P s → P (b ∷ s))
      → (s : Bytes) → P s
  byte_by_byte P empty here other [] = empty
  byte_by_byte P empty here other (b ∷ s) =
      elim (ℕ_discrete b x) [ yes e ↦ rw e (here s (byte_by_byte P empty here other s)) | no n ↦ other b s n (byte_by_byte P empty here other s) ]

  pub before_within : (s : Bytes) → before x s ≤ length s
  unfolding before
  before_within =
      byte_by_byte (λ s. before x s ≤ length s) (omega arith) (λ s h. rw (before_here s) (omega arith))
      (λ b s n h. rw (before_other b s n) (omega arith))

  -- ---- the pieces, one after another
  pub split_some : (s : Bytes) → 1 ≤ length (split x s)
  unfolding split
  split_some =
      byte_by_byte (λ s. 1 ≤ length (split x s)) (omega arith) (λ s h. rw (split_here s) (omega arith))
      (λ b s n h. rw (split_other b s n) (in_front_lem b (split x s) h))
    where
      in_front_lem : (b : ℕ) (ps : List Bytes) → 1 ≤ length ps → 1 ≤ length (in_front b ps)
      in_front_lem b [] h = absurd (omega arith)
      in_front_lem b (p ∷ ps) h = omega arith

  pub split_cut : (s : Bytes) → before x s < length s → split x s ≡ take (before x s) s ∷ split x (drop (suc (before x s)) s)
  unfolding before
  split_cut =
      byte_by_byte (λ s. before x s < length s → split x s ≡ take (before x s) s ∷ split x (drop (suc (before x s)) s)) (λ h. absurd (omega arith))
      (λ s ih h. rw (before_here s, split_here s))
      (λ b s n ih h. let next = rw (before_other b s n) at h in rw (before_other b s n, split_other b s n, ih (omega arith)))

  pub split_last : (s : Bytes) → before x s ≡ length s → split x s ≡ s ∷ []
  unfolding before split
  split_last =
      byte_by_byte (λ s. before x s ≡ length s → split x s ≡ s ∷ []) (λ h. refl)
      (λ s ih h. let here = rw (before_here s) at h in absurd (omega arith))
      (λ b s n ih h. let next = rw (before_other b s n) at h in rw (split_other b s n, ih (omega arith)))

  -- ---- no piece has an x; of a word that is written out, `without_is` says so by `refl`
  pub without_is : (p : Bytes) → before x p ≡ length p → Without x p
  unfolding before
  without_is =
      byte_by_byte (λ p. before x p ≡ length p → Without x p) (λ h. none) (λ s ih h. let here = rw (before_here s) at h in absurd (omega arith))
      (λ b s n ih h. let next = rw (before_other b s n) at h in one n (ih (omega arith)))

  pub without_before : {p : Bytes} → Without x p → before x p ≡ length p
  unfolding before
  without_before none = refl
  without_before (one {x = b} {xs = p} n w) = before_other b p n ∙ ap suc (without_before w)

  pub without_take : (s : Bytes) → Without x (take (before x s) s)
  unfolding before
  without_take =
      byte_by_byte (λ s. Without x (take (before x s) s)) none (λ s ih. rw (before_here s) none) (λ b s n ih. rw (before_other b s n) (one n ih))

  pub split_without : (s : Bytes) → Each (Without x) (split x s)
  unfolding split
  split_without =
      byte_by_byte (λ s. Each (Without x) (split x s)) (one none none) (λ s ih. rw (split_here s) (one none ih))
      (λ b s n ih. rw (split_other b s n) (in_front_lem b (split x s) n ih))
    where
      in_front_lem : (b : ℕ) (ps : List Bytes) → (b ≡ x → ⊥) → Each (Without x) ps → Each (Without x) (in_front b ps)
      in_front_lem b [] n none = one (one n none) none
      in_front_lem b (p ∷ ps) n (one w ws) = one (one n w) ws

  -- ---- joining
  pub join_split : (s : Bytes) → join x (split x s) ≡ s
  unfolding split join
  join_split =
      byte_by_byte (λ s. join x (split x s) ≡ s) refl (λ s ih. rw (split_here s) (here s (split x s) (split_some s) ih))
      (λ b s n ih. rw (split_other b s n) (other b s (split x s) ih))
    where
      here : (s : Bytes) (ps : List Bytes) → 1 ≤ length ps → join x ps ≡ s → join x ([] ∷ ps) ≡ x ∷ s
      here s [] h e = absurd (omega arith)
      here s (p ∷ ps) h e = ap (λ (t : Bytes). x ∷ t) e

      other : (b : ℕ) (s : Bytes) (ps : List Bytes) → join x ps ≡ s → join x (in_front b ps) ≡ b ∷ s
      other b s [] e = ap (λ (t : Bytes). b ∷ t) e
      other b s (p ∷ []) e = ap (λ (t : Bytes). b ∷ t) e
      other b s (p ∷ q ∷ ps) e = ap (λ (t : Bytes). b ∷ t) e

  pub split_after : {p : Bytes} (s : Bytes) → Without x p → split x (p ++ (x ∷ s)) ≡ p ∷ split x s
  split_after s none = split_here s
  split_after s (one {x = b} {xs = p} n w) = rw (split_other b (p ++ (x ∷ s)) n, split_after s w)

  pub split_join : {ps : List Bytes} → 1 ≤ length ps → Each (Without x) ps → split x (join x ps) ≡ ps
  unfolding join
  split_join h none = absurd (omega arith)
  split_join h (one {x = p} w none) = split_last p (without_before w)
  split_join h (one {x = p} w (one {x = q} {xs = ps} v vs)) =
      rw (split_after (join x (q ∷ ps)) w, split_join (omega arith) (one v vs))

-- pieces without x have none when joined by another byte
pub join_without : {x y : ℕ} {ps : List Bytes} → (y ≡ x → ⊥) → Each (Without x) ps → Without x (join y ps)
unfolding join
join_without n none = none
join_without n (one w none) = w
join_without n (one w (one v vs)) = each_append w (one n (join_without n (one v vs)))

-- ---- the same bytes are equal bytes
pub bytes_same : (a : Bytes) → T (same_bytes a a)
unfolding same_bytes
bytes_same [] = tt
bytes_same (b ∷ bs) = rw (eq-eqb b b refl) (bytes_same bs)

pub same_bytes_lem : (a b : Bytes) → T (same_bytes a b) → a ≡ b
unfolding same_bytes
same_bytes_lem [] [] t = refl
same_bytes_lem [] (c ∷ cs) t = absurd t
same_bytes_lem (b ∷ bs) [] t = absurd t
same_bytes_lem (b ∷ bs) (c ∷ cs) t =
    elim (ℕ_discrete b c) [ yes e ↦ rw (e, same_bytes_lem bs cs (rw (eq-eqb b c e) at t)) | no n ↦ absurd (rw (ne_eqb b c n) at t) ]
