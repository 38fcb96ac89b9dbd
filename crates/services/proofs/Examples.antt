-- What the demands speak of is there: a schedule that passes and is not the plan, and a circuit with no schedule; and what the rows of reserves
-- compute. Assumes nothing.
use Prim.Native.Nat.{ℕ, zero, suc, ◌<◌}
use native.Mathlib.Omega.{arith}
use mathlib.Core.Path.{◌≡◌, refl, sym, ap, ◌∙◌, subst}
use mathlib.Core.List.{List, [], ◌∷◌, map}
use mathlib.Core.Option.{some, some-injective}
use lib.Dec.{T, lit<}
use lib.ListN.{length, get_or, get_elem?}
use lib.IntN.{ℤ, nat_abs}
use Rattle.fields.specs.Pieces.{Bytes}
use Rattle.rows.specs.Rows.{read}
use Rattle.model.specs.declared.Line.TheVariants.{Free}
use Rattle.model.specs.declared.Grammar.TheVariants.{Schedule}
use Rattle.model.specs.declared.Found.{Found}
use Rattle.model.specs.declared.Found.TheVariants as Founds
use Rattle.model.specs.Scales.{reserve}
use Rattle.model.specs.Files.{File, well_formed}
use Rattle.model.specs.Machine.{finished, run}
use Rattle.model.specs.Services.{erase, kept_lines}
use Rattle.model.specs.Answers.{check_machine}
use Rattle.model.specs.Demands.{is_ciphertext_line, HasReserve}
use Rattle.model.proofs.Lists.{found_is}
use Rattle.model.proofs.FoundNumbers.{found_numbers}
use Rattle.model.proofs.Theorems.{KeptCiphertext, kept_ciphertext}
use Rattle.text.specs.Files.{read_text, circuit_context, schedule_context}
use Rattle.text.proofs.FileLaws.{file_read_written}
use Rattle.services.specs.Outcomes.{Outcome, writes, refuses, reply_of}
use Rattle.services.specs.Calls.{plan_outcome, check_outcome}
use Rattle.services.specs.Promises as Promises
use Rattle.services.specs.Promises.{OnceRead, Passed, TooFew, PlanComesTo}
use Rattle.services.specs.Worked.{call_comes_to, reserve_found, reserves_found, shown, example, example_by_hand, fourth}
use Rattle.services.proofs.Planning.{plan_comes_to}
use Rattle.services.proofs.Checking.{check_promise}
use Rattle.services.proofs.Cases.{worked}

comes_to : {a b : Outcome} → call_comes_to a ≡ call_comes_to b → a ≡ b
comes_to e = cc

-- row 24: a schedule written by hand passes, and row 22: it is not the plan
pub by_hand_passes : Passed (shown example) (shown example_by_hand)
by_hand_passes =
    (check_promise (shown example) (shown example_by_hand) (reply_of (check_outcome (shown example) (shown example_by_hand))) refl).zero_is_passed.0
    (ap (λ (o : Outcome). (reply_of o).number) (comes_to (worked 24 (lit< tt))))

pub by_hand_is_not_the_plan : plan_outcome (shown example) ≡ writes (shown example_by_hand) → ⊥
by_hand_is_not_the_plan e =
    let same : ◌≡◌ {A = ℕ} 84 111 = ap (λ (o : Outcome). (reply_of o).length) (sym e ∙ comes_to (worked 22 (lit< tt))) in
    omega arith

-- row 4: a circuit with no schedule
pub record TooFewAt (circuit : Bytes) (place : ℕ) : Type 0 where
  pub file : File
  pub reads : read_text circuit_context circuit ≡ read file
  pub is : TooFew file.header file.lines place

too_few_told : {circuit : Bytes} {o : Outcome} (place : ℕ) → OnceRead (read_text circuit_context circuit) 1 (PlanComesTo circuit) o → o ≡ refuses 6 1 place → TooFewAt circuit place
too_few_told place (Promises.unread n p u) e =
    let six : n ≡ 6 = cc in
    absurd (let few = (u.by_reading (λ z. omega arith)).1 in omega arith)
too_few_told place (Promises.is_read f o e (Promises.too_few p t)) q =
    let same : p ≡ place = cc in
    record { file = f; reads = e; is = subst (TooFew f.header f.lines) same t }
too_few_told place (Promises.is_read f o i (Promises.plans w p higher)) e = absurd (let z : ◌≡◌ {A = ℕ} 0 1 = cc in omega arith)

pub fourth_has_no_schedule : TooFewAt (shown fourth) 4
fourth_has_no_schedule = too_few_told 4 (plan_comes_to (shown fourth)) (comes_to (worked 4 (lit< tt)))

-- the reserves that a row computes are those of which the promise of planning speaks
found_mapped : {A B : Type 0} (f : A → B) (l : List A) (j : ℕ) {x : A} → get_elem? l j ≡ some x → get_elem? (map f l) j ≡ some (f x)
found_mapped f [] j e = absurd (let z : ◌≡◌ {A = ℕ} 0 1 = cc in omega arith)
found_mapped f (y ∷ l) zero e = ap some (ap f (some-injective _ _ e))
found_mapped f (y ∷ l) (suc j) e = found_mapped f l j e

pub reserve_computed : (text : Bytes) (file : File) → read_text schedule_context text ≡ read file → {found : List Found}
    → run (check_machine file.header) file.lines ≡ finished found
    → (j : ℕ) → j < length (erase file.lines) → T (is_ciphertext_line (get_or (erase file.lines) j Free)) → (bits : ℤ) → HasReserve file.header file.lines j bits
    → get_elem? (reserves_found file.header file.lines found) j ≡ some (nat_abs bits)
reserve_computed text file reads {found} e j b c bits r =
    found_mapped (λ i. reserve_found file.header (get_or found i Founds.Bare)) (kept_lines file.lines) j k.kept
    ∙ ap some (ap (reserve_found file.header) is ∙ ap nat_abs bits_are)
  where
    formed : T (well_formed Schedule file.header file.lines)
    formed = (file_read_written schedule_context text reads).formed

    k : KeptCiphertext file.lines j
    k = kept_ciphertext file.header file.lines formed j b c

    is : get_or found k.line Founds.Bare ≡ Founds.Ciphertext (r.legal.scale k.line) (r.legal.level k.line)
    is = found_is found k.line Founds.Bare (found_numbers file.header file.lines formed r.legal e k.line k.below k.is_ciphertext_lem)

    bits_are : reserve file.header (r.legal.scale k.line) (r.legal.level k.line) ≡ bits
    bits_are =
        ap (λ (i : ℕ). reserve file.header (r.legal.scale i) (r.legal.level i)) (some-injective k.line r.line (sym k.kept ∙ r.kept))
        ∙ r.reserve_is r.legal
