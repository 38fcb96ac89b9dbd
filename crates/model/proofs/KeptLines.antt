-- The line of a schedule that is line j of the circuit that it erases to: it stands in the schedule, it comes from j, and it has the
-- same kind. Assumes nothing.
use Prim.Native.Nat.{ℕ, zero, suc, ◌+◌, ◌<◌}
use native.Mathlib.Nat.{not-suc-le-zero, le_of_suc-le-suc}
use native.Mathlib.Omega.{arith}
use mathlib.Core.Path.{◌≡◌, refl, sym, ap, ◌∙◌}
use mathlib.Core.List.{List, [], ◌∷◌, ◌++◌}
use mathlib.Core.Option.{some}
use lib.ListN.{length, get_or, get_elem?}
use Rattle.model.specs.declared.Line.{Line}
use Rattle.model.specs.declared.Line.TheVariants.{Free}
use Rattle.model.specs.Files.{kind_of}
use Rattle.model.specs.Services.{Fate, kept, made_from, fate_of, renamed, renumbered, erase_from, kept_from, erase, kept_lines}
use Rattle.model.proofs.Statements.Erasing.{origins_from, origins}
use Rattle.model.proofs.EveryWord.{each_line}
use Rattle.model.proofs.Lists.{length_snoc, found_after, found_last, found_at}

-- other operands, the same kind
pub renamed_kind : (f : ℕ → ℕ) (x : Line) → kind_of (renamed f x) ≡ kind_of x
renamed_kind f x = each_line (λ y. kind_of (renamed f y)) kind_of (λ ns. refl) x

-- later lines leave the origins of earlier ones
origins_after : (xs : List Line) (before : List ℕ) (count i : ℕ) {o : ℕ} → get_elem? before i ≡ some o → get_elem? (origins_from before count xs) i ≡ some o
origins_after [] before count i e = e
origins_after (x ∷ xs) before count i {o} e = go (fate_of x) (λ c n. origins_after xs (before ++ (c ∷ [])) n i (found_after before (c ∷ []) i e))
  where
    go : (w : Fate) → ((c n : ℕ) → get_elem? (origins_from (before ++ (c ∷ [])) n xs) i ≡ some o)
        → get_elem? (elim w as
        (λ y. List ℕ) [ kept ↦ origins_from (before ++ (count ∷ [])) (suc count) xs | made_from a ↦ origins_from (before ++ (get_or before a count ∷ [])) count xs ]) i ≡ some o
    go kept r = r count (suc count)
    go (made_from a) r = r (get_or before a count) count

-- Of lines xs that begin at value number `first`, where `count` lines were kept before: line i is kept line count + j.
record KeptHere (xs erased : List Line) (from : List ℕ) (first count i j : ℕ) : Type 0 where
  offset : ℕ
  place : i ≡ first + offset
  below : offset < length xs
  origin : get_elem? from i ≡ some (count + j)
  same_kind : kind_of (get_or erased j Free) ≡ kind_of (get_or xs offset Free)

kept_here : (xs : List Line) (before : List ℕ) (first count j : ℕ) → first ≡ length before → j < length (erase_from before count xs)
    → KeptHere xs (erase_from before count xs) (origins_from before count xs) first count (get_or (kept_from first xs) j 0) j
kept_here [] before first count j e h = absurd (not-suc-le-zero h)
kept_here (x ∷ xs) before first count j e h = go (fate_of x) j h (λ c n j' h'. kept_here xs (before ++ (c ∷ [])) (suc first) n j' (ap suc e ∙ sym (length_snoc before c)) h')
  where
    f : ℕ → ℕ
    f a = get_or before a count

    -- what the line's fate makes of the three lists
    erased : Fate → List Line
    erased w = elim w [ kept ↦ renumbered before count x ∷ erase_from (before ++ (count ∷ [])) (suc count) xs | made_from a ↦ erase_from (before ++ (f a ∷ [])) count xs ]

    from : Fate → List ℕ
    from w = elim w [ kept ↦ origins_from (before ++ (count ∷ [])) (suc count) xs | made_from a ↦ origins_from (before ++ (f a ∷ [])) count xs ]

    places : Fate → List ℕ
    places w = elim w [ kept ↦ first ∷ kept_from (suc first) xs | made_from a ↦ kept_from (suc first) xs ]

    Later : ℕ → ℕ → ℕ → Type 0
    Later c n j =
        KeptHere xs (erase_from (before ++ (c ∷ [])) n xs) (origins_from (before ++ (c ∷ [])) n xs) (suc first) n (get_or (kept_from (suc first) xs) j 0) j

    go : (w : Fate) (j : ℕ) → j < length (erased w) → ((c n j : ℕ) → j < length (erase_from (before ++ (c ∷ [])) n xs) → Later c n j)
        → KeptHere (x ∷ xs) (erased w) (from w) first count (get_or (places w) j 0) j
    go kept zero h r =
        record {
          offset = 0;
          place = omega arith;
          below = omega arith;
          origin = origins_after xs (before ++ (count ∷ [])) (suc count) first (ap (get_elem? (before ++ (count ∷ []))) e ∙ found_last before count) ∙ ap some (omega arith);
          same_kind = renamed_kind (λ o. get_or before o count) x;
        }
    go kept (suc j) h r = let later = r count (suc count) j (le_of_suc-le-suc h) in
        record {
          offset = suc later.offset;
          place = omega arith;
          below = omega arith;
          origin = later.origin ∙ ap some (omega arith);
          same_kind = later.same_kind;
        }
    go (made_from a) j h r = let later = r (f a) count j h in
        record {
          offset = suc later.offset;
          place = omega arith;
          below = omega arith;
          origin = later.origin;
          same_kind = later.same_kind;
        }

-- as many lines are kept as the circuit has
count_here : (xs : List Line) (before : List ℕ) (first count : ℕ) → length (kept_from first xs) ≡ length (erase_from before count xs)
count_here [] before first count = refl
count_here (x ∷ xs) before first count = go (fate_of x) (λ c n. count_here xs (before ++ (c ∷ [])) (suc first) n)
  where
    go : (w : Fate) → ((c n : ℕ) → length (kept_from (suc first) xs) ≡ length (erase_from (before ++ (c ∷ [])) n xs))
        → length {A = ℕ} (elim w [ kept ↦ first ∷ kept_from (suc first) xs | made_from a ↦ kept_from (suc first) xs ])
        ≡ length {A = Line} (elim w
        [ kept ↦ renumbered before count x ∷ erase_from (before ++ (count ∷ [])) (suc count) xs | made_from a ↦ erase_from (before ++ (get_or before a count ∷ [])) count xs ])
    go kept r = ap suc (r count (suc count))
    go (made_from a) r = r (get_or before a count) count

-- line i of a schedule, which is line j of the circuit
pub record KeptLine (schedule : List Line) (i j : ℕ) : Type 0 where
  pub there : get_elem? (kept_lines schedule) j ≡ some i
  pub below : i < length schedule
  pub origin : get_elem? (origins schedule) i ≡ some j
  pub same_kind : kind_of (get_or (erase schedule) j Free) ≡ kind_of (get_or schedule i Free)

pub kept_line : (schedule : List Line) (j : ℕ) → j < length (erase schedule) → KeptLine schedule (get_or (kept_lines schedule) j 0) j
kept_line schedule j h =
    let here = kept_here schedule [] 0 0 j refl h in
    let at : here.offset ≡ get_or (kept_lines schedule) j 0 = omega arith in
    record {
      there = found_at (kept_lines schedule) j 0 (omega (arith, count_here schedule [] 0 0));
      below = omega arith;
      origin = here.origin ∙ ap some (omega arith);
      same_kind = here.same_kind ∙ ap (λ (i : ℕ). kind_of (get_or schedule i Free)) at;
    }
