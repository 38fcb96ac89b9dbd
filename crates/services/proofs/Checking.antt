-- What the check replies is what is promised: success exactly where the schedule passes, and what each refusal means. Assumes nothing.
use Prim.Native.Nat.{ℕ}
use native.Mathlib.Omega.{arith}
use mathlib.Core.Path.{◌≡◌, refl, sym, ap, ◌∙◌, subst, subst₂}
use mathlib.Core.Logic.{◌⊎◌, inl, inr}
use mathlib.Core.Bool.{Bool, cond}
use borrow.Author.Tests.{eq-eqb, ne_eqb}
use lib.Dec.{T, eqb}
use Rattle.fields.specs.Pieces.{Bytes, line_feed, split}
use Rattle.model.specs.declared.Answer.{Answer}
use Rattle.model.specs.declared.Answer.TheVariants.{Done, Level, Refused}
use Rattle.model.specs.declared.Grammar.TheVariants.{Circuit, Schedule}
use Rattle.model.specs.Files.{File, well_formed}
use Rattle.model.specs.Services.{erase_file}
use Rattle.model.specs.Answers.{answer_file, check}
use Rattle.model.proofs.Theorems as Model
use Rattle.model.proofs.Statements.Check as Check
use Rattle.model.proofs.Statements.FirstBroken.{IsFirstBroken}
use Rattle.rows.specs.Rows.{Reading, read, refused}
use Rattle.text.specs.Files.{read_text, circuit_context, schedule_context, file_text}
use Rattle.text.proofs.Refusals.{not_zero}
use Rattle.text.proofs.FileLaws.{FileBack, file_read_written}
use Rattle.services.specs.declared.Reply.{Reply}
use Rattle.services.specs.Outcomes.{Outcome, refuses, reply_of}
use Rattle.services.specs.Calls.{answered, once_read, check_outcome}
use Rattle.services.specs.Promises as Promises
use Rattle.services.specs.Promises.{OnceRead, Passed, TextsDifferAt, Verdict, keeps_rules, other_circuit, breaks_rule, CheckPromise}
use Rattle.services.proofs.Texts.{number_told_lem, is_unread, few_lines, text_inverse, passed_files, passed_texts, passed_exact}
use Rattle.services.proofs.Differences.{differ_texts}
use Rattle.services.proofs.OneOutcome.{one_check}

-- the file that is named: at a line, the circuit with 12 and the schedule with another number
circuit_named : (n p : ℕ) → (p ≡ 0 → ⊥) → n ≡ 12 → answer_file 2 (Refused n p) ≡ 1
circuit_named n p f e = ap (λ (b : Bool). cond b 0 (cond (eqb n 12) 1 2)) (ne_eqb p 0 f) ∙ ap (λ (b : Bool). cond b 1 2) (eq-eqb n 12 e)

schedule_named : (n p : ℕ) → (p ≡ 0 → ⊥) → (n ≡ 12 → ⊥) → answer_file 2 (Refused n p) ≡ 2
schedule_named n p f e = ap (λ (b : Bool). cond b 0 (cond (eqb n 12) 1 2)) (ne_eqb p 0 f) ∙ ap (λ (b : Bool). cond b 1 2) (ne_eqb n 12 e)

-- ---- what the check comes to
module _ (circuit schedule : Bytes) where
  abbrev Circuits : File → Type 0
  Circuits c = read_text circuit_context circuit ≡ read c

  abbrev Schedules : File → Type 0
  Schedules s = read_text schedule_context schedule ≡ read s

  data CheckCase : Outcome → Type 0 where
    circuit_unread : (n p : ℕ) → read_text circuit_context circuit ≡ refused n p → CheckCase (refuses n 1 p)
    schedule_unread : (c : File) (n p : ℕ) → Circuits c → read_text schedule_context schedule ≡ refused n p → CheckCase (refuses n 2 p)
    both_read : (c s : File) → Circuits c → Schedules s → CheckCase (answered 2 (check c s))

  check_case : CheckCase (check_outcome circuit schedule)
  check_case = go (read_text circuit_context circuit) refl
    where
      on_circuit : (c : File) → Circuits c → (y : Reading File) → read_text schedule_context schedule ≡ y → CheckCase (once_read 2 y (λ s. answered 2 (check c s)))
      on_circuit c e (read s) q = both_read c s e q
      on_circuit c e (refused n p) q = schedule_unread c n p e q

      go : (x : Reading File) → read_text circuit_context circuit ≡ x → CheckCase (once_read 1 x (λ c. once_read 2 (read_text schedule_context schedule) (λ s. answered 2 (check c s))))
      go (read c) e = on_circuit c e (read_text schedule_context schedule) refl
      go (refused n p) e = circuit_unread n p e

  -- the reply once both are read
  reply_read : {c s : File} → Circuits c → Schedules s → reply_of (check_outcome circuit schedule) ≡ reply_of (answered 2 (check c s))
  reply_read {c} e q =
      ap (λ (x : Reading File). reply_of (once_read 1 x (λ c. once_read 2 (read_text schedule_context schedule) (λ s. answered 2 (check c s))))) e
      ∙ ap (λ (y : Reading File). reply_of (once_read 2 y (λ s. answered 2 (check c s)))) q

  module _ {c s : File} (e : Circuits c) (q : Schedules s) where
    back : FileBack circuit_context circuit c
    back = file_read_written circuit_context circuit e

    formed : T (well_formed Schedule s.header s.lines)
    formed = (file_read_written schedule_context schedule q).formed

    judges : Check.Judges c s
    judges = Model.checks c s back.formed formed

    first_broken : {n p : ℕ} → Check.ByRules c s n p → IsFirstBroken s.header s.lines n p
    first_broken {n} {p} r = Model.first_broken s.header s.lines formed n p r.by_rules

    -- a refusal of the check has a number
    refusal_number : (n p : ℕ) → check c s ≡ Refused n p → n ≡ 0 → ⊥
    refusal_number n p a z = go (judges.refuses n p a)
      where
        go : ((n ≡ 12) × Check.OtherCircuit c s p) ⊎ Check.ByRules c s n p → ⊥
        go (inl o) = let twelve = o.0 in omega arith
        go (inr r) = omega (arith, (first_broken r).least)

    success : (a : Answer) → check c s ≡ a → (reply_of (answered 2 a)).number ≡ 0 → Passed circuit schedule
    success Done a z = passed_texts circuit schedule e q (judges.passes.0 a)
    success (Level l) a z = absurd (judges.no_level_lem l a)
    success (Refused n p) a z = absurd (refusal_number n p a z)

    -- what each answer says
    other : (n p : ℕ) → n ≡ 12 → Check.OtherCircuit c s p → Verdict circuit s (answered 2 (Refused n p))
    other n p m o =
        let d = subst (λ (text : Bytes). TextsDifferAt (split line_feed text) (split line_feed (file_text Circuit (erase_file s))) p) back.written
        (differ_texts c s back.formed formed (few_lines circuit_context back) o) in
        subst₂ (λ (k f : ℕ). Verdict circuit s (refuses k f p)) (sym m) (sym (circuit_named n p (λ z. omega (arith, d.place_is)) m)) (other_circuit p d)

    broken : (n p : ℕ) → Check.ByRules c s n p → Verdict circuit s (answered 2 (Refused n p))
    broken n p r =
        let b = first_broken r in
        let same : erase_file s ≡ c = λ i. record { header = sym r.same_header_lem i; lines = sym r.same_lines i } in
        subst (λ (f : ℕ). Verdict circuit s (refuses n f p)) (sym (schedule_named n p (λ z. omega (arith, b.broken.place_is)) (λ z. omega (arith, b.most))))
        (breaks_rule n p (ap (file_text Circuit) same ∙ back.written) b.broken)

    judged : (a : Answer) → check c s ≡ a → Verdict circuit s (answered 2 a)
    judged Done a = let p = judges.passes.0 a in keeps_rules (ap (file_text Circuit) p.erases ∙ back.written) p.keeps
    judged (Level l) a = absurd (judges.no_level_lem l a)
    judged (Refused n p) a = go (judges.refuses n p a)
      where
        go : ((n ≡ 12) × Check.OtherCircuit c s p) ⊎ Check.ByRules c s n p → Verdict circuit s (answered 2 (Refused n p))
        go (inl (m, o)) = other n p m o
        go (inr r) = broken n p r

  zero_passed : {o : Outcome} → CheckCase o → (reply_of o).number ≡ 0 → Passed circuit schedule
  zero_passed (circuit_unread n p e) z = absurd (not_zero (number_told_lem circuit_context circuit n p e) z)
  zero_passed (schedule_unread c n p e q) z = absurd (not_zero (number_told_lem schedule_context schedule n p q) z)
  zero_passed (both_read c s e q) z = success e q (check c s) refl z

  comes_to : {o : Outcome} → CheckCase o → OnceRead (read_text circuit_context circuit) 1 (λ file. OnceRead (read_text schedule_context schedule) 2 (Verdict circuit)) o
  comes_to (circuit_unread n p e) = Promises.unread n p (is_unread circuit_context circuit n p e)
  comes_to (schedule_unread c n p e q) = Promises.is_read c _ e (Promises.unread n p (is_unread schedule_context schedule n p q))
  comes_to (both_read c s e q) = Promises.is_read c _ e (Promises.is_read s _ q (judged e q (check c s) refl))

  passed_zero : Passed circuit schedule → (reply_of (check_outcome circuit schedule)).number ≡ 0
  passed_zero p =
      ap (λ (r : Reply). r.number) (reply_read p.files.circuit_reads p.files.schedule_reads)
      ∙ ap (λ (a : Answer). (reply_of (answered 2 a)).number) ((judges p.files.circuit_reads p.files.schedule_reads).passes.1 (passed_files circuit schedule p))

  module _ (r : Reply) (a : r ≡ reply_of (check_outcome circuit schedule)) where
    number : r.number ≡ (reply_of (check_outcome circuit schedule)).number
    number = ap (λ (q : Reply). q.number) a

    pub check_promise : CheckPromise circuit schedule r
    check_promise =
        record {
          inverse_circuit = text_inverse circuit_context (omega arith) circuit;
          inverse_schedule = text_inverse schedule_context (omega arith) schedule;
          call =
              record {
                outcome = check_outcome circuit schedule;
                comes_to = comes_to check_case;
                only = λ other c. one_check circuit schedule other _ c (comes_to check_case);
              };
          reply = a;
          zero_is_passed = (λ z. zero_passed check_case (sym number ∙ z), λ p. number ∙ passed_zero p);
          exact = passed_exact circuit schedule;
        }
