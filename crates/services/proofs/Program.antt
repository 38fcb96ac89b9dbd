-- What the program prints: a plan's text fits the buffer, so the reply is the plan or a refusal of its own; and the first 4,400 bytes decide.
-- Assumes nothing.
use Prim.Native.Nat.{ℕ, ◌≤◌}
use native.Mathlib.Omega.{arith}
use mathlib.Core.Path.{◌≡◌, sym, ap, ◌∙◌}
use mathlib.Core.Bool.{Bool, cond}
use mathlib.Core.List.{◌++◌}
use borrow.Author.Tests.{le-leb}
use lib.ListN.{length, drop}
use lib.Seq.{take-append-le}
use Rattle.fields.specs.Pieces.{Bytes}
use Rattle.model.specs.declared.Grammar.TheVariants.{Schedule}
use Rattle.model.specs.Words.{ascii}
use Rattle.model.specs.Files.{File}
use Rattle.model.specs.Services.{scheduled, plan}
use Rattle.model.proofs.Theorems as Model
use Rattle.rows.specs.Rows.{Reading, read}
use Rattle.text.specs.Files.{header_word, read_text, circuit_context, file_text}
use Rattle.text.proofs.FileLaws.{file_read_written}
use Rattle.text.proofs.Most.{text_most, two_numbers_most}
use Rattle.text.proofs.Theorems as Text
use Rattle.services.specs.declared.Reply.{Reply}
use Rattle.services.specs.Program.{refused_line, printed, program_text, ProgramPromise}
use Rattle.services.specs.Outcomes.{Outcome, writes, refuses, reply_of, bytes_after, Replied}
use Rattle.services.specs.Calls.{once_read, planned, plan_outcome}
use Rattle.services.proofs.Planning.{PlanCase, unread, few, written, plan_case}
use Rattle.services.proofs.Texts.{few_lines, number_told_lem}
use Rattle.text.proofs.Refusals.{not_zero}

pub decided : (input more : Bytes) → 4400 ≤ length input → program_text (input ++ more) ≡ program_text input
decided input more long =
    ap (λ (x : Reading File). printed (once_read 1 x (λ f. planned (plan f))))
    (Text.first_bytes (input ++ more) ∙ ap (read_text circuit_context) (take-append-le 4400 input more long) ∙ sym (Text.first_bytes input))

-- the line of a refusal is short
pub refused_short : (n p : ℕ) → length (refused_line n p) ≤ 52
refused_short n p = omega (arith, two_numbers_most (ascii "refused") n p)

-- a refusal: nothing is written, and the program's text is its line
pub record Refusing (input out : Bytes) (r : Reply) (after : Bytes) : Type 0 where
  pub unchanged : after ≡ out
  pub line_is : program_text input ≡ refused_line r.number r.place

-- a plan's text is short
pub plan_short : (input : Bytes) (f s : File) → read_text circuit_context input ≡ read f → plan f ≡ scheduled s → length (file_text Schedule s) ≤ 131072
plan_short input f s e q =
    let b = file_read_written circuit_context input e in
    let lines = (Model.the_plan f b.formed s q).few (few_lines circuit_context b) in
    omega (arith, text_most (header_word Schedule) s (omega arith))

-- what the reply and the bytes of planning say, with such a buffer
record Printed (o : Outcome) (out : Bytes) (r : Reply) (after : Bytes) : Type 0 where
  success : r.number ≡ 0 → (r.length ≡ length (printed o)) × (after ≡ printed o ++ drop r.length out)
  refusal : (r.number ≡ 0 → ⊥) → (after ≡ out) × (printed o ≡ refused_line r.number r.place)

refusal_printed : (n p : ℕ) (out : Bytes) (r : Reply) (after : Bytes) → (n ≡ 0 → ⊥) → Replied (refuses n 1 p) out r after → Printed (refuses n 1 p) out r after
refusal_printed n p out r after some a =
    record {
      success = λ z. absurd (some (sym (ap (λ (q : Reply). q.number) a.reply) ∙ z));
      refusal = λ z. (a.bytes, sym (ap (λ (q : Reply). refused_line q.number q.place) a.reply));
    }

plan_printed : (t out : Bytes) (r : Reply) (after : Bytes) → length t ≤ length out → Replied (writes t) out r after → Printed (writes t) out r after
plan_printed t out r after room a =
    let fits = le-leb (length t) (length out) room in
    let is : r ≡ reply_of (writes t) = a.reply ∙ ap (λ (b : Bool). reply_of (cond b (writes t) (refuses 13 0 0))) fits in
    let bytes : after ≡ t ++ drop (length t) out = a.bytes ∙ ap (λ (b : Bool). bytes_after (cond b (writes t) (refuses 13 0 0)) out) fits in
    record {
      success = λ z. (ap (λ (q : Reply). q.length) is, bytes ∙ sym (ap (λ (q : Reply). t ++ drop q.length out) is));
      refusal = λ z. absurd (z (ap (λ (q : Reply). q.number) is));
    }

module _ (input out : Bytes) (r : Reply) (after : Bytes) (room : 131072 ≤ length out) where
  by_case : {o : Outcome} → PlanCase input o → Replied o out r after → Printed o out r after
  by_case (unread n p e) a = refusal_printed n p out r after (not_zero (number_told_lem circuit_context input n p e)) a
  by_case (few f p e q) a = refusal_printed 6 p out r after (λ z. omega arith) a
  by_case (written f s e q) a = plan_printed (file_text Schedule s) out r after (let short = plan_short input f s e q in omega arith) a

  pub prints_plan : Replied (plan_outcome input) out r after → r.number ≡ 0 → ProgramPromise input out r.length after
  prints_plan a z =
      let p = (by_case (plan_case input) a).success z in
      record { counted = p.0; printed = p.1; decided = decided input }

  pub prints_refusal : Replied (plan_outcome input) out r after → (r.number ≡ 0 → ⊥) → Refusing input out r after
  prints_refusal a z = let p = (by_case (plan_case input) a).refusal z in record { unchanged = p.0; line_is = p.1 }
