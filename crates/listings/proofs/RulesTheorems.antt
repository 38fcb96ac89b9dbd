-- The rules of listings: what the code answers is what the dialect's rules say; the scales and levels that keep them are unique; the schedule that
-- a listing becomes keeps a schedule's rules, and a schedule as a listing keeps the dialect's. Assumes nothing.
use Prim.Native.Nat.{ℕ, suc, ◌-◌, ◌≤◌}
use native.Mathlib.Omega.{arith}
use mathlib.Core.Path.{◌≡◌, refl, sym, ap, ◌∙◌, subst}
use mathlib.Core.Logic.{◌⊎◌, inl, inr}
use mathlib.Core.Bool.{Bool, true, false, cond}
use mathlib.Core.List.{List, [], ◌∷◌}
use lib.Dec.{T}
use lib.ListN.{get_or, take}
use Rattle.rows.specs.Rows.{place_of, Tests, Judgement, bad, judged}
use Rattle.model.specs.declared.Answer.{Answer}
use Rattle.model.specs.declared.Answer.TheVariants.{Done, Refused}
use Rattle.model.specs.declared.Found.{Found}
use Rattle.model.specs.declared.Found.TheVariants as Founds
use Rattle.model.specs.declared.Grammar.TheVariants.{Schedule}
use Rattle.model.specs.declared.Header.{Header}
use Rattle.model.specs.declared.Line.TheVariants.{In, Const, Neg, Rot, Add, Mul, Out, Enc, Rs, Ms, Us, Free}
use Rattle.model.specs.Files.{lines_formed, well_formed}
use Rattle.model.specs.Machine.{Run, finished, stopped, run}
use Rattle.model.specs.Rules.{KeepsRules}
use Rattle.model.specs.Scales.{header_in_range}
use Rattle.text.specs.Files.{kept_count}
use Rattle.model.proofs.Tests.{and_both}
use Rattle.model.proofs.Runs.{stopped_finished, first_stop}
use Rattle.model.proofs.Formed.{well_header}
use Rattle.model.proofs.Checked.{scale_in, level_in, scale_of, checked_keeps, answer_done}
use Rattle.listings.specs.Listings.{Listed, line, downscale, as_lines}
use Rattle.listings.specs.Rules.{KeepsRisingRules}
use Rattle.listings.specs.Broken.{rising_tests, FirstBrokenRising}
use Rattle.listings.specs.Conversion.{converted}
use Rattle.listings.specs.Held as Held
use Rattle.listings.specs.Held.{held_line, held_lines, held_machine, held_answer, found_scales}
use Rattle.listings.proofs.Falling.{KeepsFalling, falls, rises}
use Rattle.listings.proofs.HeldRuns.{held_length}
use Rattle.listings.proofs.Judged.{falling_agrees, finished_falling}
use Rattle.listings.proofs.Converted.{Passed, passed, same_count}
use Rattle.listings.proofs.Numbers.{take_map, take_formed, refused_rising}

-- ---- numbers
abbrev pub RisingNumber : ℕ → Type 0
RisingNumber n = ((7 ≤ n) × (n ≤ 10)) ⊎ (n ≡ 14)

abbrev AllNumbers : Tests → Type 0
AllNumbers [] = Unit {0}
AllNumbers ((n, b) ∷ ts) = RisingNumber n × AllNumbers ts

-- a test that fails is one of the tests
bad_number : {A : Type 0} (ts : Tests) (x : A) (n : ℕ) → AllNumbers ts → judged ts x ≡ bad n → RisingNumber n
bad_number [] x n all e = absurd (let z : ◌≡◌ {A = ℕ} 0 1 = cc in omega arith)
bad_number {A} ((m, b) ∷ ts) x n all e = go b e (bad_number ts x n all.1)
  where
    number : ◌≡◌ {A = Judgement A} (bad m) (bad n) → m ≡ n
    number e = cc

    go : (b : Bool) → ◌≡◌ {A = Judgement A} (cond b (judged ts x) (bad m)) (bad n) → (judged ts x ≡ bad n → RisingNumber n) → RisingNumber n
    go true e f = f e
    go false e f = subst RisingNumber (number e) all.0

module _ (h : Header) (scale level : ℕ → ℕ) where
  seven : RisingNumber 7
  seven = inl (omega arith)

  eight : RisingNumber 8
  eight = inl (omega arith)

  nine : RisingNumber 9
  nine = inl (omega arith)

  ten : RisingNumber 10
  ten = inl (omega arith)

  test_numbers : (x : Listed) → AllNumbers (rising_tests h scale level x)
  test_numbers (line In) = (ten, (nine, tt))
  test_numbers (line (Const k)) = tt
  test_numbers (line (Neg a)) = (ten, (nine, tt))
  test_numbers (line (Rot a t)) = (ten, (nine, tt))
  test_numbers (line (Add a b)) = (seven, (eight, (ten, (nine, tt))))
  test_numbers (line (Mul a b)) = (seven, (ten, (nine, tt)))
  test_numbers (line (Out a)) = (ten, (nine, tt))
  test_numbers (line (Enc a s e)) = (ten, (nine, tt))
  test_numbers (line (Rs a c)) = (ten, (nine, tt))
  test_numbers (line (Ms a c)) = (ten, (nine, tt))
  test_numbers (line (Us a b)) = (ten, (nine, tt))
  test_numbers (line Free) = tt
  test_numbers (downscale a) = (inr refl, (nine, tt))

-- ---- the verdict
abbrev Verdict : Run Found ℕ → Answer
Verdict r = elim r [ finished found ↦ Done | stopped i n ↦ Refused n (place_of i) ]

-- where it stopped
record Stopped (r : Run Found ℕ) (n p : ℕ) : Type 0 where
  line_number : ℕ
  place_is : p ≡ place_of line_number
  stops : r ≡ stopped line_number n

verdict_refused : (r : Run Found ℕ) (n p : ℕ) → Verdict r ≡ Refused n p → Stopped r n p
verdict_refused (finished found) n p e = absurd (let z : ◌≡◌ {A = ℕ} 0 1 = cc in omega arith)
verdict_refused (stopped i m) n p e = record { line_number = i; place_is = place e; stops = ap (stopped i) (number e) }
  where
    place : ◌≡◌ {A = Answer} (Refused m (place_of i)) (Refused n p) → p ≡ place_of i
    place e = cc

    number : ◌≡◌ {A = Answer} (Refused m (place_of i)) (Refused n p) → m ≡ n
    number e = cc

same_scale : (v : Found) → scale_of v ≡ Held.scale_of v
same_scale Founds.Bare = refl
same_scale (Founds.Encoded s l) = refl
same_scale (Founds.Ciphertext s l) = refl

module _ (h : Header) (xs : List Listed) (formed : T (well_formed Schedule h (as_lines h xs))) where
  -- the scales of a run that finished
  found_scales_lem : {found : List Found} → run (held_machine h) (held_lines h xs) ≡ finished found → scale_in found ≡ found_scales h (held_lines h xs)
  found_scales_lem {found} e j i = at i j
    where
      at : (i : ℕ) → scale_in found i ≡ found_scales h (held_lines h xs) i
      at i =
          same_scale (get_or found i Founds.Bare)
          ∙ ap (λ (r : Run Found ℕ). elim r as (λ q. ℕ) [ finished found ↦ Held.scale_of (get_or found i Founds.Bare) | stopped j n ↦ 0 ]) (sym e)

  abbrev finished_rising : {found : List Found} → run (held_machine h) (held_lines h xs) ≡ finished found → KeepsRisingRules h xs
  finished_rising {found} e =
      rises h xs formed (found_scales h (held_lines h xs)) (level_in found)
      (subst (λ (s : ℕ → ℕ). KeepsFalling h xs s (level_in found)) (found_scales_lem e) (finished_falling h xs formed e))

  rising_finished : KeepsRisingRules h xs → (found : List Found) × (run (held_machine h) (held_lines h xs) ≡ finished found)
  rising_finished k = let r = falling_agrees h xs formed k.scale (λ i. h.top - k.level i) (falls h xs formed k) in (r.0, r.1)

module _ (h : Header) (xs : List Listed) (formed : T (well_formed Schedule h (as_lines h xs))) where
  -- What runs to the end keeps the dialect's rules, with the scales that were found.
  pub done : held_answer h (held_lines h xs) ≡ Done → KeepsRisingRules h xs
  done e = finished_rising h xs formed (answer_done (run (held_machine h) (held_lines h xs)) e).1

  pub done_scales : (e : held_answer h (held_lines h xs) ≡ Done) → (done e).scale ≡ found_scales h (held_lines h xs)
  unfolding done
  done_scales e = refl

  pub done_scale : (e : held_answer h (held_lines h xs) ≡ Done) (i : ℕ) → (done e).scale i ≡ found_scales h (held_lines h xs) i
  done_scale e i = ap (λ (scale : ℕ → ℕ). scale i) (done_scales e)

  -- What keeps them runs to the end.
  pub done_if : KeepsRisingRules h xs → held_answer h (held_lines h xs) ≡ Done
  done_if k = ap Verdict (rising_finished h xs formed k).1

  refused_at_lem : (n p : ℕ) → Stopped (run (held_machine h) (held_lines h xs)) n p → FirstBrokenRising h xs n p
  refused_at_lem n p s =
      let f = first_stop (held_machine h) (held_lines h xs) s.line_number n s.stops in
      record {
        line_number = s.line_number;
        place_is = s.place_is;
        below = omega (arith, f.below, held_length h xs);
        before = before_rising s.line_number f.before;
        with_it = with_rising s.line_number n f.with_it;
        number_is = refused_rising h xs formed s.line_number n s.stops;
      }
    where
      before_rising : (i : ℕ) {found : List Found} → run (held_machine h) (take i (held_lines h xs)) ≡ finished found → KeepsRisingRules h (take i xs)
      before_rising i e = finished_rising h (take i xs) (take_formed h xs formed i) (ap (run (held_machine h)) (sym (take_map (held_line h) xs i)) ∙ e)

      with_rising : (i n : ℕ) → run (held_machine h) (take (suc i) (held_lines h xs)) ≡ stopped i n → KeepsRisingRules h (take (suc i) xs) → ⊥
      with_rising i n e k =
          stopped_finished (sym e ∙ ap (run (held_machine h)) (take_map (held_line h) xs (suc i)) ∙ (rising_finished h (take (suc i) xs) (take_formed h xs formed (suc i)) k).1)

  -- A stop is at the first line with which no scales and levels keep the rules, with the number of its first test that fails.
  pub refused : (n p : ℕ) → held_answer h (held_lines h xs) ≡ Refused n p → FirstBrokenRising h xs n p
  refused n p e = refused_at_lem n p (verdict_refused (run (held_machine h) (held_lines h xs)) n p e)

  pub numbers : (n p : ℕ) → held_answer h (held_lines h xs) ≡ Refused n p → RisingNumber n
  numbers n p e =
      let f = refused n p e in
      let k = f.before in
      let x = get_or xs f.line_number (line Free) in
      bad_number (rising_tests h k.scale k.level x) x n (test_numbers h k.scale k.level x) (f.number_is k)

-- ---- conversion
module _ (h : Header) (xs : List Listed) (formed : T (well_formed Schedule h (as_lines h xs))) (k : KeepsRisingRules h xs) where
  schedule_passed : Passed h (converted h k.scale xs)
  schedule_passed =
      let keeps = falls h xs formed k in
      let r = falling_agrees h xs formed k.scale (λ i. h.top - k.level i) keeps in
      passed h xs formed k.scale (λ i. h.top - k.level i) keeps r.0 r.1 r.2

  -- The schedule that a listing becomes is well formed, keeps a schedule's rules, and erasing keeps as many of its lines.
  pub converted_formed : T (well_formed Schedule h (converted h k.scale xs))
  converted_formed =
      and_both (header_in_range h) (lines_formed Schedule h [] (converted h k.scale xs)) (well_header Schedule h (as_lines h xs) formed) schedule_passed.formed

  pub converted_keeps : KeepsRules h (converted h k.scale xs)
  converted_keeps = checked_keeps h (converted h k.scale xs) (well_header Schedule h (as_lines h xs) formed) schedule_passed.runs

  pub converted_kept : kept_count (converted h k.scale xs) ≡ kept_count (as_lines h xs)
  converted_kept = same_count h k.scale xs [] 0
