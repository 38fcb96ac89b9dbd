-- The largest of the first numbers of an array, and of the counts after all lines. Assumes nothing.
use Prim.Native.Nat.{ℕ, zero, suc, ◌+◌, ◌≤◌, ◌<◌}
use native.Mathlib.Omega.{arith}
use mathlib.Core.Path.{◌≡◌, refl, sym, ap, ◌∙◌, subst}
use mathlib.Core.Bool.{Bool, true, false, cond}
use mathlib.Core.List.{List}
use mathlib.Core.Logic.{◌⊎◌, inl, inr, ⊎_elim}
use borrow.Author.Rules.{rules}
use borrow.Author.Tests.{ltb-true, ltb-false}
use lib.Dec.{ltb}
use lib.ListN.{length, get_or}
use Rattle.std.specs.Prelude.{max}
use Rattle.model.specs.declared.Line.{Line}
use Rattle.model.proofs.Tests.{below_or_not}
use Rattle.liveness.specs.Live.{live_after, IsPeak}
use Rattle.liveness.specs.Kept.{HasCounts, IsLargest, largest_to, peak_of}
use Rattle.liveness.proofs.Scans.{no_is_live}

-- the larger of two numbers
record IsLarger (a b most : ℕ) : Type 0 where
  pub first : a ≤ most
  pub second : b ≤ most
  pub one_of : (most ≡ a) ⊎ (most ≡ b)

larger_is : (a b most : ℕ) → most ≡ max a b → IsLarger a b most
larger_is a b most e = record { first = omega (arith, e); second = omega (arith, e); one_of = go (below_or_not a b) }
  where
    go : (a < b) ⊎ (b ≤ a) → (most ≡ a) ⊎ (most ≡ b)
    go (inl l) = inr (omega (arith, e))
    go (inr l) = inl (omega (arith, e))

-- the loop's invariant
pub record Finding (numbers : List ℕ) (count most i : ℕ) : Type 0 where
  pub few : count ≤ 1792
  pub wide : length numbers ≡ 1792
  pub within : i ≤ count
  pub so_far : IsLargest numbers i most

pub finding_start : (numbers : List ℕ) (count : ℕ) → count ≤ 1792 → length numbers ≡ 1792 → Finding numbers count 0 0
finding_start numbers count few wide =
    record {
      few = few;
      wide = wide;
      within = omega arith;
      so_far = record { bare = λ e. refl; none_more = λ i l. absurd (omega arith); place = 0; there = λ l. absurd (omega arith); as_many = λ l. absurd (omega arith) };
    }

module _ (numbers : List ℕ) (count most i : ℕ) (k : Finding numbers count most i) where
  pub finding_done : count ≤ i → IsLargest numbers count most
  finding_done end =
      let all : i ≡ count = omega (arith, k.within) in
      subst (λ (n : ℕ). IsLargest numbers n most) all k.so_far

  pub number_there : i < count → i < 1792
  number_there more = omega (arith, k.few)

  pub finding_more : (next : ℕ) → i < count → next ≡ max most (get_or numbers i 0) → Finding numbers count next (i + 1)
  finding_more next more is_max =
      record { few = k.few; wide = k.wide; within = omega arith; so_far = ⊎_elim kept taken larger.one_of }
    where
      larger : IsLarger most (get_or numbers i 0) next
      larger = larger_is most (get_or numbers i 0) next is_max

      up_to : (j : ℕ) → j < i + 1 → get_or numbers j 0 ≤ next
      up_to j l =
          ⊎_elim (λ before. let p = k.so_far.none_more j before in omega (arith, p, larger.first))
          (λ here.
          let same : j ≡ i = omega arith in
          let read = ap (λ (a : ℕ). get_or numbers a 0) same in
          omega (arith, read, larger.second))
          (below_or_not j i)

      taken : next ≡ get_or numbers i 0 → IsLargest numbers (i + 1) next
      taken e =
          record { bare = λ z. absurd (omega (arith, z)); none_more = up_to; place = i; there = λ l. omega arith; as_many = λ l. sym e }

      kept : next ≡ most → IsLargest numbers (i + 1) next
      kept e = ⊎_elim some none (below_or_not 0 i)
        where
          some : 0 < i → IsLargest numbers (i + 1) next
          some l =
              let there = k.so_far.there l in
              record {
                bare = λ z. absurd (omega (arith, z));
                none_more = up_to;
                place = k.so_far.place;
                there = λ m. omega (arith, there);
                as_many = λ m. k.so_far.as_many l ∙ sym e;
              }

          none : i ≤ 0 → IsLargest numbers (i + 1) next
          none l = taken (let zero = k.so_far.bare (omega arith) in omega (arith, e, zero, larger.second))

pub ruleset finding_laws = (rules, finding_start, finding_done, number_there, finding_more)

-- ---- the counts after all lines
-- the largest of some numbers, as a definition has it
record Reached (number : ℕ → ℕ) (n most : ℕ) : Type 0 where
  pub bare : n ≡ 0 → most ≡ 0
  pub none_more : (l : ℕ) → l < n → number l ≤ most
  pub line : ℕ
  pub there : 0 < n → line < n
  pub as_many : 0 < n → number line ≡ most

-- one number more
module _ (number : ℕ → ℕ) (n before : ℕ) (rest : Reached number n before) where
  up_to : (most : ℕ) → before ≤ most → number n ≤ most → (l : ℕ) → l < suc n → number l ≤ most
  up_to most low own l inside =
      ⊎_elim (λ earlier. let p = rest.none_more l earlier in omega (arith, p, low))
      (λ here. let same : l ≡ n = omega arith in let read = ap number same in omega (arith, read, own))
      (below_or_not l n)

  own : before ≤ number n → Reached number (suc n) (number n)
  own low = record { bare = λ e. absurd (omega (arith, e)); none_more = up_to (number n) low (omega arith); line = n; there = λ l. omega arith; as_many = λ l. refl }

  kept : number n ≤ before → Reached number (suc n) before
  kept most = ⊎_elim some none (below_or_not 0 n)
    where
      some : 0 < n → Reached number (suc n) before
      some l =
          let inside = rest.there l in
          record { bare = λ z. absurd (omega (arith, z)); none_more = up_to before (omega arith) most; line = rest.line; there = λ m. omega (arith, inside); as_many = λ m. rest.as_many l }

      none : n ≤ 0 → Reached number (suc n) before
      none l =
          let zero = rest.bare (omega arith) in
          let same : number n ≡ before = omega (arith, zero, most) in
          subst (Reached number (suc n)) same (own (omega (arith, zero)))

  one_more_lem : (b : Bool) → ltb before (number n) ≡ b → Reached number (suc n) (cond b (number n) before)
  one_more_lem true e = own (let l = ltb-true before (number n) e in omega (arith, l))
  one_more_lem false e = kept (ltb-false before (number n) e)

reached : (number : ℕ → ℕ) (n : ℕ) → Reached number n (largest_to number n)
reached number zero =
    record { bare = λ e. refl; none_more = λ l i. absurd (omega arith); line = 0; there = λ l. absurd (omega arith); as_many = λ l. absurd (omega arith) }
reached number (suc n) = one_more_lem number n (largest_to number n) (reached number n) (ltb (largest_to number n) (number n)) refl

module _ (lines : List Line) where
  is_peak : (most : ℕ) → Reached (live_after lines) (length lines) most → IsPeak lines most
  is_peak most all =
      record {
        bare = all.bare;
        none_more = λ l inside. let p = all.none_more l inside in omega (arith, p, no_is_live lines l);
        attained = λ some. record { line = all.line; there = all.there some; as_many = no_is_live lines all.line ∙ all.as_many some };
        counts_are = λ l inside. sym (no_is_live lines l);
      }

  pub peak_is : IsPeak lines (peak_of lines)
  unfolding peak_of
  peak_is = is_peak (largest_to (live_after lines) (length lines)) (reached (live_after lines) (length lines))

  pub largest_peak : (counts : List ℕ) (count most : ℕ) → HasCounts lines counts → length lines ≡ count → IsLargest counts count most → IsPeak lines most
  largest_peak counts count most has long largest =
      is_peak most
      (record {
        bare = λ e. largest.bare (sym long ∙ e);
        none_more = λ l inside. let p = largest.none_more l (omega (arith, long)) in omega (arith, p, has.count_is l inside);
        line = largest.place;
        there = λ some. let p = largest.there (omega (arith, long)) in omega (arith, p, long);
        as_many = λ some.
            let inside = largest.there (omega (arith, long)) in
            sym (has.count_is largest.place (omega (arith, inside, long))) ∙ largest.as_many (omega (arith, long));
      })

  pub one_peak : (m n : ℕ) → IsPeak lines m → IsPeak lines n → m ≡ n
  one_peak m n p q = ⊎_elim some none (below_or_not 0 (length lines))
    where
      some : 0 < length lines → m ≡ n
      some l =
          let first = p.attained l in
          let second = q.attained l in
          let up = q.none_more first.line first.there in
          let down = p.none_more second.line second.there in
          omega (arith, up, down, first.as_many, second.as_many)

      none : length lines ≤ 0 → m ≡ n
      none l = p.bare (omega arith) ∙ sym (q.bare (omega arith))
