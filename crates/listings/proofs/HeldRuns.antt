-- What the rules, as the code has them, do at a line of a well-formed listing: what the check does at the schedule's line, and at a `ds` what
-- `downscaled` does. Assumes nothing.
use Prim.Native.Nat.{ℕ, zero, suc, ◌+◌, ◌*◌, ◌-◌, ◌<◌}
use native.Mathlib.Omega.{arith}
use mathlib.Core.Path.{◌≡◌, refl, sym, ap, ◌∙◌, subst}
use mathlib.Core.Bool.{Bool, true, false, not, cond}
use mathlib.Core.List.{List, [], ◌∷◌, ◌++◌}
use lib.Dec.{T, eqb, eqb-suc-zero, ltb, ltb→lt, lt→ltb, leb→le, le→leb}
use lib.IntN.{pos, ◌+ℤ◌, ◌*ℤ◌}
use lib.ListN.{length, get_or, take, get_or-map, length-map}
use lib.Seq.{take-suc, take-length, length-take-le}
use lib.Signed.{le_z}
use Rattle.rows.specs.Fields.{within}
use Rattle.model.specs.declared.Found.{Found}
use Rattle.model.specs.declared.Found.TheVariants as Founds
use Rattle.model.specs.declared.Grammar.TheVariants.{Schedule}
use Rattle.model.specs.declared.Header.{Header}
use Rattle.model.specs.declared.Kind.{Kind}
use Rattle.model.specs.declared.Kind.TheVariants.{Ciphertext}
use Rattle.model.specs.declared.Line.{Line}
use Rattle.model.specs.declared.Line.TheVariants.{In, Const, Neg, Rot, Add, Mul, Out, Enc, Rs, Ms, Us, Free}
use Rattle.model.specs.Answers.{on_ciphertext, check_machine}
use Rattle.model.specs.Files.{in_range, is_usable, kind_at, well_formed}
use Rattle.model.specs.Machine.{Step, goes, stops, step, run, held_by, and_then}
use Rattle.model.specs.Rules.{Bounds}
use Rattle.model.specs.Scales.{headroom}
use Rattle.model.proofs.Tests.{and_first, cond_cases, cond_true, is_ciphertext_lem}
use Rattle.model.proofs.Lists.{length_snoc}
use Rattle.model.proofs.Outcomes.{Outcome, RunOutcome, outcome_found, outcome_map, run_outcome}
use Rattle.model.proofs.Formed.{LineFacts, Matched, Result, OnOperand, DutyFor, formed_step, one_more_lem, line_place}
use Rattle.listings.specs.Listings.{Listed, line, downscale, turned, as_schedules, as_lines}
use Rattle.listings.specs.Held.{held_line, held_lines, held_machine, downscaled}
use Rattle.listings.proofs.Falling.{as_line, as_length, listed_facts}

-- ---- `ds`
module _ (h : Header) where
  abbrev Below : ℕ → Bool
  Below s = ltb s (h.waterline + h.factor)

  abbrev Room : ℕ → Bool
  Room l = le_z (pos (h.waterline + h.factor) +ℤ pos (headroom h)) (pos h.factor *ℤ pos l)

  pub downscaled_goes : (s l : ℕ) → s < h.waterline + h.factor → Bounds h (h.waterline + h.factor) l
      → downscaled h s l ≡ goes (Founds.Ciphertext h.waterline (l - 1))
  downscaled_goes s l p b =
      cond_true (Below s) (cond (Room l) (goes (Founds.Ciphertext h.waterline (l - 1))) (stops 9)) (stops 14) (lt→ltb s (h.waterline + h.factor) p)
      ∙ cond_true (Room l) (goes (Founds.Ciphertext h.waterline (l - 1))) (stops 9) (le→leb (h.waterline + h.factor + headroom h) (h.factor * l) b.high)

  pub downscaled_tests : (P : Step Found ℕ → Type 0) (s l : ℕ)
      → (s < h.waterline + h.factor → Bounds h (h.waterline + h.factor) l → P (goes (Founds.Ciphertext h.waterline (l - 1))))
      → (T (Below s) → T (not (Room l)) → P (stops 9)) → (T (not (Below s)) → P (stops 14)) → P (downscaled h s l)
  downscaled_tests P s l k nine fourteen =
      cond_cases P (Below s) _ _
      (λ t. cond_cases P (Room l) _ _
      (λ u. k (ltb→lt s (h.waterline + h.factor) t) (record { low = omega arith; high = leb→le (h.waterline + h.factor + headroom h) (h.factor * l) u })) (nine t)) fourteen

-- ---- one line
pub held_step : (h : Header) (ins : ℕ) (held : List Found) (x : Line) → T (in_range h x) → step (check_machine h) ins held x ≡ step (held_machine h) ins held x
held_step h ins held In t = refl
held_step h ins held (Const k) t = refl
held_step h ins held (Neg a) t = refl
held_step h ins held (Rot a n) t = refl
held_step h ins held (Add a b) t = refl
held_step h ins held (Mul a b) t = refl
held_step h ins held (Out a) t = refl
held_step h ins held (Enc a s e) t = refl
held_step h ins held (Rs a c) t =
    ap (λ (b : Bool). and_then (held_by (check_machine h) held a) (λ v. cond b (on_ciphertext (downscaled h) v) ((check_machine h).rs v c))) (sym (some_count c t))
  where
    some_count : (c : ℕ) → T (within 1 60 c) → eqb c 0 ≡ false
    some_count zero t = absurd t
    some_count (suc c) t = eqb-suc-zero c
held_step h ins held (Ms a c) t = refl
held_step h ins held (Us a b) t = refl
held_step h ins held Free t = refl

module _ (h : Header) (A : ℕ → Type 0) (Fits : ℕ → Kind → Found → Type 0) where
  -- what the check has to do at the schedule's line, and `downscaled` at a `ds`
  abbrev pub ListedDuty : (Found → Type 0) → Listed → Type 0
  ListedDuty P (line x) = DutyFor (check_machine h) A Fits P Schedule (turned h x)
  ListedDuty P (downscale a) = OnOperand A Fits P a Ciphertext (on_ciphertext (downscaled h))

  pub listed_step : (P : Found → Type 0) (before : List Line) (held : List Found) → Matched Fits before held → (ins : ℕ) (x : Listed)
      → LineFacts Schedule h before (as_schedules h x) → ListedDuty P x → Outcome A P (step (held_machine h) ins held (held_line h x))
  listed_step P before held m ins (line x) l d =
      subst (Outcome A P) (held_step h ins held (turned h x) l.range) (formed_step (check_machine h) A Fits Schedule h before held m P ins (turned h x) l d)
  listed_step P before held m ins (downscale a) l d =
      let o = m.named a (and_first (is_usable (kind_at before a)) true l.usable) in
      outcome_found A P (held_machine h) held a (λ v. (held_machine h).rs v 0) o.there
      (d o.value (subst (λ (k : Kind). Fits a k o.value) (is_ciphertext_lem (kind_at before a) l.kinds) o.fits))

-- ---- all lines
pub held_line_lem : (h : Header) (xs : List Listed) (i : ℕ) → get_or (held_lines h xs) i Free ≡ held_line h (get_or xs i (line Free))
held_line_lem h xs i = get_or-map (held_line h) xs i (line Free)

pub held_length : (h : Header) (xs : List Listed) → length (held_lines h xs) ≡ length xs
held_length h xs = length-map xs (held_line h)

-- where each line does its duty
pub listing_run : (h : Header) (A : ℕ → Type 0) (Fits : ℕ → Kind → Found → Type 0) (xs : List Listed) → T (well_formed Schedule h (as_lines h xs))
    → ((i : ℕ) → i < length xs → LineFacts Schedule h (take i (as_lines h xs)) (as_schedules h (get_or xs i (line Free)))
    → ListedDuty h A Fits (Result Fits i (as_schedules h (get_or xs i (line Free)))) (get_or xs i (line Free)))
    → RunOutcome A (Matched Fits (as_lines h xs)) (run (held_machine h) (held_lines h xs))
listing_run h A Fits xs formed duty =
    subst (λ (l : List Line). RunOutcome A (Matched Fits l) (run (held_machine h) (held_lines h xs)))
    (ap (λ (n : ℕ). take n (as_lines h xs)) (held_length h xs ∙ sym (as_length h xs)) ∙ take-length (as_lines h xs))
    (run_outcome (held_machine h) A (held_lines h xs) (λ before held. Matched Fits (take (length before) (as_lines h xs)) held) each (record { long = refl; named = λ a u. absurd u }))
  where
    each : (ins : ℕ) (before : List Line) (held : List Found) (x : Line) (rest : List Line) → before ++ (x ∷ rest) ≡ held_lines h xs
        → Matched Fits (take (length before) (as_lines h xs)) held
        → Outcome A (λ v. Matched Fits (take (length (before ++ (x ∷ []))) (as_lines h xs)) (held ++ (v ∷ []))) (step (held_machine h) ins held x)
    each ins before held x rest e m =
        let p = line_place before x rest e in
        let b : length before < length xs = omega (arith, p.below, held_length h xs) in
        let l = listed_facts h xs formed (length before) b in
        subst (λ (z : Line). Outcome A (λ v. Matched Fits (take (length (before ++ (x ∷ []))) (as_lines h xs)) (held ++ (v ∷ []))) (step (held_machine h) ins held z))
        (sym (held_line_lem h xs (length before)) ∙ p.is)
        (outcome_map A (step (held_machine h) ins held (held_line h (get_or xs (length before) (line Free))))
        (λ v r. subst (λ (t : List Line). Matched Fits t (held ++ (v ∷ []))) (longer before x b)
        (one_more_lem (check_machine h) A Fits Schedule h (take (length before) (as_lines h xs)) held m (as_schedules h (get_or xs (length before) (line Free))) v
        (subst (λ (n : ℕ). Result Fits n (as_schedules h (get_or xs (length before) (line Free))) v) (counted before b) r)))
        (listed_step h A Fits (Result Fits (length before) (as_schedules h (get_or xs (length before) (line Free)))) (take (length before) (as_lines h xs)) held m ins
        (get_or xs (length before) (line Free)) l (duty (length before) b l)))
      where
        counted : (before : List Line) → length before < length xs → length before ≡ length (take (length before) (as_lines h xs))
        counted before b = sym (length-take-le (length before) (as_lines h xs) (omega (arith, as_length h xs)))

        longer : (before : List Line) (x : Line) → length before < length xs
            → take (length before) (as_lines h xs) ++ (as_schedules h (get_or xs (length before) (line Free)) ∷ []) ≡ take (length (before ++ (x ∷ []))) (as_lines h xs)
        longer before x b =
            ap (λ (z : Line). take (length before) (as_lines h xs) ++ (z ∷ [])) (sym (as_line h xs (length before)))
            ∙ sym (take-suc (as_lines h xs) (length before) Free (omega (arith, as_length h xs)))
            ∙ ap (λ (n : ℕ). take n (as_lines h xs)) (sym (length_snoc before x))
