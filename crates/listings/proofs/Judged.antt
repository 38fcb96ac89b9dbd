-- The rules as the code has them are the dialect's: what a run to the end finds keeps them, and where scales and levels keep them it runs to the
-- end and finds those. Assumes nothing.
use Prim.Native.Nat.{ℕ, zero, suc, ◌+◌, ◌*◌, ◌-◌, ◌<◌}
use native.Mathlib.Nat.{mul-add}
use native.Mathlib.Omega.{arith}
use mathlib.Core.Path.{◌≡◌, refl, sym, ap, ◌∙◌, subst, subst₂}
use mathlib.Core.List.{List}
use mathlib.Core.Option.{some}
use lib.Dec.{T}
use lib.ListN.{length, get_or, get_elem?}
use Rattle.model.specs.declared.Found.{Found}
use Rattle.model.specs.declared.Found.TheVariants as Founds
use Rattle.model.specs.declared.Grammar.TheVariants.{Schedule}
use Rattle.model.specs.declared.Header.{Header}
use Rattle.model.specs.declared.Line.TheVariants.{Rs, Free}
use Rattle.model.specs.Answers.{check_machine}
use Rattle.model.specs.Files.{is_word, in_range, well_formed}
use Rattle.model.specs.Machine.{finished, step, run}
use Rattle.model.specs.Rules.{Bounds, has_scale}
use Rattle.model.specs.Scales.{header_in_range}
use Rattle.model.proofs.Tests.{header_facts}
use Rattle.model.proofs.Lists.{found_is}
use Rattle.model.proofs.Outcomes.{Outcome, AnyReason, NoReason, outcome_goes, outcome_map, outcome_operand, finishes, stepped}
use Rattle.model.proofs.Formed.{Matched, Result, well_header}
use Rattle.model.proofs.Checked.{scale_of, level_of, scale_in, level_in, on_ciphertext_lem, on_operand, Agrees, ruled, duty}
use Rattle.listings.specs.Listings.{Listed, line, downscale, turned, as_schedules, as_lines}
use Rattle.listings.specs.Held.{held_line, held_lines, held_machine, downscaled}
use Rattle.listings.proofs.Falling.{FallingRule, KeepsFalling, listed_facts}
use Rattle.listings.proofs.HeldRuns.{downscaled_goes, downscaled_tests, held_step, ListedDuty, listing_run, held_line_lem, held_length}

-- ---- scales and levels that keep the rules are found
module _ (h : Header) (scale level : ℕ → ℕ) where
  listed_duty : (i : ℕ) (x : Listed) → T (is_word Schedule (as_schedules h x)) → FallingRule h scale level i x
      → (T (has_scale (as_schedules h x)) → Bounds h (scale i) (level i))
      → ListedDuty h NoReason (Agrees h scale level) (Result (Agrees h scale level) i (as_schedules h x)) x
  listed_duty i (line x) w r b = duty h scale level i (turned h x) w r b
  listed_duty i (downscale a) w r b =
      on_operand h scale level NoReason (Result (Agrees h scale level) i (Rs a 1)) a (downscaled h)
      (λ c. outcome_goes NoReason (Result (Agrees h scale level) i (Rs a 1)) (downscaled h (scale a) (level a))
      (downscaled_goes h (scale a) (level a) r.0 r.1)
      (λ u. record { kind = refl; scale_is = λ t. sym r.2; level_is = λ t. omega (arith, r.3); bounds = λ t. b tt }))

pub falling_agrees : (h : Header) (xs : List Listed) → T (well_formed Schedule h (as_lines h xs)) → (scale level : ℕ → ℕ) → KeepsFalling h xs scale level
    → (found : List Found) × (run (held_machine h) (held_lines h xs) ≡ finished found) × Matched (Agrees h scale level) (as_lines h xs) found
falling_agrees h xs formed scale level k =
    finishes (run (held_machine h) (held_lines h xs))
    (listing_run h NoReason (Agrees h scale level) xs formed
    (λ i b l. listed_duty h scale level i (get_or xs i (line Free)) l.word (k.rules i b) (k.bounds i b)))

-- ---- what is found keeps the rules
record RuledListed (h : Header) (found : List Found) (i : ℕ) (x : Listed) (v : Found) : Type 0 where
  bounds : T (has_scale (as_schedules h x)) → Bounds h (scale_of v) (level_of v)
  rule : scale_in found i ≡ scale_of v → level_in found i ≡ level_of v → FallingRule h (scale_in found) (level_in found) i x

-- after the rescale of a `ds`
rescaled : (h : Header) (l : ℕ) → zero < h.factor → Bounds h (h.waterline + h.factor) l → Bounds h h.waterline (l - 1) × (l - 1 + 1 ≡ l)
rescaled h zero F⁺ b = absurd (omega (arith, b.high))
rescaled h (suc l) F⁺ b =
    (record { low = omega arith; high = omega (arith, b.high, mul-add h.factor l 1, ap (λ (n : ℕ). h.factor * n) one_less) }, omega arith)
  where
    one_less : suc l - 1 ≡ l
    one_less = omega arith

module _ (h : Header) (range_held : T (header_in_range h)) (found : List Found) (i ins : ℕ) (held : List Found)
    (among : (a : ℕ) (v : Found) → get_elem? held a ≡ some v → get_elem? found a ≡ some v) where
  F⁺ : zero < h.factor
  F⁺ = (header_facts h range_held).factor.least

  ruled_downscale : (a : ℕ) → Outcome AnyReason (RuledListed h found i (downscale a)) (step (held_machine h) ins held (Rs a 0))
  ruled_downscale a =
      outcome_operand AnyReason (RuledListed h found i (downscale a)) (held_machine h) held a (λ v. (held_machine h).rs v 0) tt
      (λ v e. on_ciphertext_lem AnyReason (RuledListed h found i (downscale a)) (downscaled h) v (λ t. tt)
      (downscaled_tests h (Outcome AnyReason (RuledListed h found i (downscale a))) (scale_of v) (level_of v)
      (λ p b. let g = found_is found a Founds.Bare (among a v e) in goes_on v (ap scale_of g) (ap level_of g) p b) (λ t u. tt) (λ t. tt)))
    where
      goes_on : (v : Found) → scale_in found a ≡ scale_of v → level_in found a ≡ level_of v → scale_of v < h.waterline + h.factor
          → Bounds h (h.waterline + h.factor) (level_of v) → RuledListed h found i (downscale a) (Founds.Ciphertext h.waterline (level_of v - 1))
      goes_on v p q s b =
          let r = rescaled h (level_of v) F⁺ b in
          record {
            bounds = λ t. r.0;
            rule = λ e f. (omega arith, subst (Bounds h (h.waterline + h.factor)) (sym q) b, e, omega (arith, r.1));
          }

  ruled_listed : (x : Listed) → T (in_range h (as_schedules h x)) → Outcome AnyReason (RuledListed h found i x) (step (held_machine h) ins held (held_line h x))
  ruled_listed (line x) t =
      subst (Outcome AnyReason (RuledListed h found i (line x))) (held_step h ins held (turned h x) t)
      (outcome_map AnyReason (step (check_machine h) ins held (turned h x)) (λ v r. record { bounds = r.bounds; rule = r.rule })
      (ruled h range_held found i ins held among (turned h x)))
  ruled_listed (downscale a) t = ruled_downscale a

module _ (h : Header) (xs : List Listed) (formed : T (well_formed Schedule h (as_lines h xs))) {found : List Found}
    (e : run (held_machine h) (held_lines h xs) ≡ finished found) where
  record RuledAt (i : ℕ) (x : Listed) : Type 0 where
    value : Found
    there : get_or found i Founds.Bare ≡ value
    keeps : RuledListed h found i x value

  ruled_at : (i : ℕ) → i < length xs → RuledAt i (get_or xs i (line Free))
  ruled_at i b =
      let p = (stepped (held_machine h) (held_lines h xs) e).line i (omega (arith, held_length h xs)) in
      record {
        value = p.value;
        there = found_is found i Founds.Bare p.there;
        keeps = subst (Outcome AnyReason (RuledListed h found i (get_or xs i (line Free))))
            (ap (step (held_machine h) p.ins p.held) (sym (held_line_lem h xs i)) ∙ p.steps)
            (ruled_listed h (well_header Schedule h (as_lines h xs) formed) found i p.ins p.held p.among (get_or xs i (line Free)) (listed_facts h xs formed i b).range);
      }

  pub finished_falling : KeepsFalling h xs (scale_in found) (level_in found)
  finished_falling =
      record {
        rules = λ i b. let r = ruled_at i b in r.keeps.rule (ap scale_of r.there) (ap level_of r.there);
        bounds = λ i b t. let r = ruled_at i b in subst₂ (Bounds h) (sym (ap scale_of r.there)) (sym (ap level_of r.there)) (r.keeps.bounds t);
      }
