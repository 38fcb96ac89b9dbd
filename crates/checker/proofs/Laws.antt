-- Check and erase, step by step: what each return says, from the tests on the way and what the callees ensure. Assumes nothing.
use Prim.Native.Nat.{ℕ, ◌≤◌}
use native.Mathlib.Omega.{arith}
use mathlib.Core.List.{List}
use mathlib.Core.Path.{◌≡◌, refl, sym, ap, ◌∙◌}
use borrow.Author.Rules.{rules}
use lib.Dec.{leb→le}
use Rattle.fields.specs.Pieces.{Bytes}
use Rattle.model.specs.declared.Grammar.TheVariants.{Circuit}
use Rattle.model.specs.declared.Answer.{Answer}
use Rattle.model.specs.declared.Answer.TheVariants.{Refused}
use Rattle.text.specs.Tables.{Table, table_lines, file_of}
use Rattle.model.specs.Files.{File}
use Rattle.model.specs.Services.{erase, erase_file}
use Rattle.model.specs.Answers.{rules_answer, check}
use Rattle.text.specs.Files.{read_text, circuit_context, schedule_context, erase_context, file_text}
use Rattle.listings.specs.Held.{held_answer}
use Rattle.tables.specs.declared.Record.{Record}
use Rattle.tables.specs.Records.{lines_held, held}
use Rattle.std.specs.Prelude.{Result, Ok, Err}
use Rattle.model.specs.declared.Refusal.{Refusal}
use Rattle.model.specs.Refusals.{number_of, verdict_answer}
use Rattle.tables.specs.declared.files.CircuitTable.{CircuitTable}
use Rattle.reader.specs.Reads.{circuit_told, schedule_told}
use Rattle.tables.specs.declared.files.ScheduleTable.{ScheduleTable}
use Rattle.tables.specs.Files.{circuit_held, schedule_lines, schedule_held}
use Rattle.tables.specs.declared.files.ListingTable.{ListingTable}
use Rattle.tables.specs.Files.{listing_lines, listing_held}
use Rattle.rules.proofs.Counted.{schedule_answer}
use Rattle.replies.specs.declared.FileRefusal.{FileRefusal}
use Rattle.replies.specs.Told.{refused_by, reply_to}
use Rattle.erasing.specs.Comparing.{after_compared}
use Rattle.services.specs.Outcomes.{Outcome, writes, reply_of, Replied}
use Rattle.services.specs.Calls.{answered, once_read, check_outcome, erase_outcome}
use Rattle.services.proofs.Steps.{once_read_lem, once_refused, replied_as, refusal_replied}

-- ---- the verdict
module _
    (d : Result Unit Refusal) (t : ScheduleTable) (verdict : Answer) (q : after_compared d (rules_answer t.header (schedule_lines t)) ≡ verdict) where
  pub by_rules :
      (r : Answer) (l : ListingTable) (u : Unit {0}) → d ≡ Ok u → listing_held l ≡ schedule_held t → r ≡ held_answer l.header (listing_lines l) → r ≡ verdict
  by_rules r l u e same is =
      is ∙ ap (λ (x : Table). held_answer x.header (table_lines x)) same ∙ schedule_answer t.header (schedule_lines t) t.formed.lines
      ∙ (ap (λ (x : Result Unit Refusal). after_compared x (rules_answer t.header (schedule_lines t))) (sym e) ∙ q)

  pub by_difference : (x : Refusal) → d ≡ Err x → verdict_answer (Err x) ≡ verdict
  by_difference x e = rw e at q

-- ---- checking
abbrev on_schedule : Bytes → File → Outcome
on_schedule schedule c = once_read 2 (read_text schedule_context schedule) (λ s. answered 2 (check c s))

module _ (circuit schedule : Bytes) (c : Result CircuitTable Refusal) (q : circuit_told c ≡ read_text circuit_context circuit) where
  pub circuit_unread : (x : Refusal) → c ≡ Err x → reply_to (Err (record { file = 1; refusal = x })) ≡ reply_of (check_outcome circuit schedule)
  circuit_unread x is = ap reply_of (once_refused 1 (on_schedule schedule) (number_of x.fault) x.place (sym q ∙ ap circuit_told is))

  module _
      (t : CircuitTable) (is : c ≡ Ok t) (s : Result ScheduleTable Refusal) (q' : schedule_told s ≡ read_text schedule_context schedule) where
    outcome_is : on_schedule schedule (file_of (circuit_held t)) ≡ check_outcome circuit schedule
    outcome_is = once_read_lem 1 (on_schedule schedule) (file_of (circuit_held t)) (sym q ∙ ap circuit_told is)

    pub schedule_unread : (x : Refusal) → s ≡ Err x → reply_to (Err (record { file = 2; refusal = x })) ≡ reply_of (check_outcome circuit schedule)
    schedule_unread x is-not =
        ap reply_of
        (once_refused 2 (λ x. answered 2 (check (file_of (circuit_held t)) x)) (number_of x.fault) x.place (sym q' ∙ ap schedule_told is-not) ∙ outcome_is)

    module _ (u : ScheduleTable) (is-read : s ≡ Ok u) (v : Result Unit Refusal) (e : verdict_answer v ≡ check (file_of (circuit_held t)) (file_of (schedule_held u))) where
      both_read : reply_of (answered 2 (verdict_answer v)) ≡ reply_of (check_outcome circuit schedule)
      both_read =
          ap (λ (x : Answer). reply_of (answered 2 x)) e
          ∙ ap reply_of
          (once_read_lem 2 (λ x. answered 2 (check (file_of (circuit_held t)) x)) (file_of (schedule_held u)) (sym q' ∙ ap schedule_told is-read) ∙ outcome_is)

      pub passed : (n : Unit {0}) → v ≡ Ok n → reply_to (Ok 0) ≡ reply_of (check_outcome circuit schedule)
      passed n is = ap (λ (x : Result Unit Refusal). reply_of (answered 2 (verdict_answer x))) (sym is) ∙ both_read

      pub refused_lem :
          (x : Refusal) (f : FileRefusal) → v ≡ Err x → refused_by f ≡ answered 2 (Refused (number_of x.fault) x.place) →
          reply_to (Err f) ≡ reply_of (check_outcome circuit schedule)
      refused_lem x f is blamed = ap reply_of blamed ∙ ap (λ (x : Result Unit Refusal). reply_of (answered 2 (verdict_answer x))) (sym is) ∙ both_read

-- ---- erasing
module _ (schedule : Bytes) (file : Result ScheduleTable Refusal) (q : schedule_told file ≡ read_text erase_context schedule) where
  pub erase_unread : (out : Bytes) (x : Refusal) → file ≡ Err x → Replied (erase_outcome schedule) out (reply_to (Err (record { file = 1; refusal = x }))) out
  erase_unread out x is =
      replied_as (once_refused 1 (λ f. writes (file_text Circuit (erase_file f))) (number_of x.fault) x.place (sym q ∙ ap schedule_told is))
      (refusal_replied (number_of x.fault) 1 x.place out _ refl)

  module _ (t : ScheduleTable) (is : file ≡ Ok t) where
    pub erasure_text :
        (erasure : List Record) (kept : ℕ) → lines_held erasure kept ≡ erase (schedule_lines t) →
        writes (file_text Circuit (file_of (held t.header erasure kept))) ≡ erase_outcome schedule
    erasure_text erasure kept e =
        let same : file_of (held t.header erasure kept) ≡ erase_file (file_of (schedule_held t)) = (λ i. record { header = t.header; lines = e i }) in
        ap (λ (f : File). writes (file_text Circuit f)) same
        ∙ once_read_lem 1 (λ f. writes (file_text Circuit (erase_file f))) (file_of (schedule_held t)) (sym q ∙ ap schedule_told is)

    pub few_lines : (kept : ℕ) → kept ≤ t.count → kept ≤ 1792
    few_lines kept a = omega (arith, leb→le t.count 1792 t.formed.few)

-- what is asked on the way, and what is returned
pub ruleset step_needs = (rules, few_lines)

pub ruleset step_returns = (by_rules, by_difference, circuit_unread, schedule_unread, passed, refused_lem, erase_unread, erasure_text)
