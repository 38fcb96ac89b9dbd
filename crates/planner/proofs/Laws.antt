-- Plan and least level, step by step: what each return says, from the tests on the way and what the callees ensure. Assumes nothing.
use Prim.Native.Nat.{ℕ, ◌<◌}
use native.Mathlib.Omega.{arith}
use mathlib.Core.Bool.{Bool, true, false, cond}
use mathlib.Core.Path.{◌≡◌, refl, sym, ap, ◌∙◌, subst}
use mathlib.Core.List.{List}
use borrow.Author.Tests.{ne_eqb}
use lib.Dec.{eqb}
use Rattle.std.specs.Prelude.{Result, Ok, Err, IfErr, IsErrAnd}
use Rattle.std.proofs.lemmas.Result.{err_from_is_err_and}
use Rattle.fields.specs.Pieces.{Bytes}
use Rattle.model.specs.declared.Answer.{Answer}
use Rattle.model.specs.declared.Answer.TheVariants.{Refused}
use Rattle.model.specs.declared.Grammar.TheVariants.{Schedule}
use Rattle.model.specs.declared.Refusal.{Refusal}
use Rattle.model.specs.Answers.{answer_file, least_level}
use Rattle.model.specs.Refusals.{number_of, level_answer}
use Rattle.model.specs.Services.{plan}
use Rattle.text.specs.Files.{read_text, circuit_context, file_text}
use Rattle.text.specs.Tables.{file_of}
use Rattle.tables.specs.declared.Record.{Record}
use Rattle.tables.specs.declared.files.CircuitTable.{CircuitTable}
use Rattle.tables.specs.Records.{held}
use Rattle.tables.specs.Files.{circuit_held}
use Rattle.reader.specs.Reads.{circuit_told}
use Rattle.plantable.specs.Plans.{planned_of}
use Rattle.replies.specs.declared.FileRefusal.{FileRefusal}
use Rattle.replies.specs.Told.{reply_to}
use Rattle.services.specs.Outcomes.{writes, reply_of, Replied}
use Rattle.services.specs.Calls.{answered, planned, plan_outcome, least_outcome}
use Rattle.services.proofs.Steps.{once_read_lem, once_refused, replied_as, refusal_replied}

module _ (circuit : Bytes) (file : Result CircuitTable Refusal) (q : circuit_told file ≡ read_text circuit_context circuit) where
  -- ---- planning
  pub plan_unread : (out : Bytes) (x : Refusal) → file ≡ Err x → Replied (plan_outcome circuit) out (reply_to (Err (record { file = 1; refusal = x }))) out
  plan_unread out x is =
      replied_as (once_refused 1 (λ f. planned (plan f)) (number_of x.fault) x.place (sym q ∙ ap circuit_told is))
      (refusal_replied (number_of x.fault) 1 x.place out _ refl)

  module _ (t : CircuitTable) (is : file ≡ Ok t) where
    reads : read_text circuit_context circuit ≡ circuit_told (Ok t)
    reads = sym q ∙ ap circuit_told is

    module _ (w : Result ℕ Refusal) (schedule : List Record) (k : planned_of t.header schedule w ≡ plan (file_of (circuit_held t))) where
      outcome_is : (v : Result ℕ Refusal) → w ≡ v → planned (planned_of t.header schedule v) ≡ plan_outcome circuit
      outcome_is v e =
          ap planned (ap (planned_of t.header schedule) (sym e) ∙ k) ∙ once_read_lem 1 (λ f. planned (plan f)) (file_of (circuit_held t)) reads

      pub plan_too_few : (out : Bytes) (x : Refusal) → w ≡ Err x → (r : Result ℕ FileRefusal) → IsErrAnd r (λ e. e ≡ record { file = 1; refusal = x })
          → Replied (plan_outcome circuit) out (reply_to r) out
      plan_too_few out x n r e =
          let p = err_from_is_err_and r e in
          rw (p.1, p.2) (replied_as (outcome_is (Err x) n) (refusal_replied (number_of x.fault) 1 x.place out _ refl))

      pub plan_text : (size : ℕ) → w ≡ Ok size → writes (file_text Schedule (file_of (held t.header schedule size))) ≡ plan_outcome circuit
      plan_text size n = outcome_is (Ok size) n

  -- ---- the least level
  pub least_unread : (x : Refusal) → file ≡ Err x → reply_to (Err (record { file = 1; refusal = x })) ≡ reply_of (least_outcome circuit)
  least_unread x is = ap reply_of (once_refused 1 (λ f. answered 1 (least_level f)) (number_of x.fault) x.place (sym q ∙ ap circuit_told is))

  module _ (t : CircuitTable) (is : file ≡ Ok t) (l : Result ℕ Refusal) (a : level_answer l ≡ least_level (file_of (circuit_held t))) where
    -- where it comes to m
    comes_to : (m : Result ℕ Refusal) → l ≡ m → reply_of (answered 1 (level_answer m)) ≡ reply_of (least_outcome circuit)
    comes_to m e =
        ap (λ (x : Answer). reply_of (answered 1 x)) (ap level_answer (sym e) ∙ a)
        ∙ ap reply_of (once_read_lem 1 (λ f. answered 1 (least_level f)) (file_of (circuit_held t)) (sym q ∙ ap circuit_told is))

    pub least_found : (n : ℕ) → l ≡ Ok n → reply_to (Ok n) ≡ reply_of (least_outcome circuit)
    least_found n e = comes_to (Ok n) e

    pub least_refused : (x : Refusal) → l ≡ Err x → IfErr l (λ (f : Refusal). 0 < f.place) → (r : Result ℕ FileRefusal)
        → IsErrAnd r (λ e. e ≡ record { file = 1; refusal = x }) → reply_to r ≡ reply_of (least_outcome circuit)
    least_refused x e some r made =
        let p = err_from_is_err_and r made in
        rw (p.1, p.2) (ap (λ (f : ℕ). reply_to (Err (record { file = f; refusal = x }))) (sym this_file) ∙ comes_to (Err x) e)
      where
        placed : 0 < x.place
        placed = subst (λ (m : Result ℕ Refusal). IfErr m (λ (f : Refusal). 0 < f.place)) e some

        -- the circuit, whatever the number
        by_number : (b : Bool) → ◌≡◌ {A = ℕ} (cond b 1 1) 1
        by_number true = refl
        by_number false = refl

        this_file : answer_file 1 (Refused (number_of x.fault) x.place) ≡ 1
        this_file = rw (ne_eqb x.place 0 (λ z. omega (arith, placed))) (by_number (eqb (number_of x.fault) 12))

pub ruleset step_returns = (plan_unread, plan_too_few, plan_text, least_unread, least_found, least_refused)
