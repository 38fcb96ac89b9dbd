-- What erasing replies is what is promised: the erasure's text, which reads as a circuit. Assumes nothing.
use Prim.Native.Nat.{ℕ, suc}
use native.Mathlib.Omega.{arith}
use mathlib.Core.Path.{◌≡◌, refl, ap}
use mathlib.Core.Bool.{Bool, true, false, cond, not, ◌&&◌}
use mathlib.Core.List.{List, [], ◌∷◌, ◌++◌}
use lib.Dec.{T, leb, leb→le}
use lib.ListN.{length, get_or}
use Rattle.fields.specs.Pieces.{Bytes}
use Rattle.model.specs.declared.Header.{Header}
use Rattle.model.specs.declared.Line.{Line}
use Rattle.model.specs.declared.Grammar.TheVariants.{Circuit, Schedule}
use Rattle.model.specs.Files.{File, is_word, operands, line_formed, lines_formed}
use Rattle.model.specs.Services.{Fate, kept, made_from, renumbered, erase_from, erase_file}
use Rattle.model.proofs.Tests.{and_first, and_second}
use Rattle.model.proofs.Formed.{line_facts, well_lines}
use Rattle.model.proofs.Theorems as Model
use Rattle.rows.specs.Rows.{Reading, read, refused}
use Rattle.text.specs.Files.{kept_count, read_text, circuit_context, erase_context, file_text}
use Rattle.text.proofs.FileLaws.{file_read_written}
use Rattle.services.specs.declared.Reply.{Reply}
use Rattle.services.specs.Outcomes.{Outcome, writes, refuses, Replied}
use Rattle.services.specs.Calls.{once_read, erase_outcome}
use Rattle.services.specs.Promises as Promises
use Rattle.services.specs.Promises.{OnceRead, EraseComesTo, ErasePromise}
use Rattle.services.proofs.Lending.{Writing, text, refusal, lent_replies}
use Rattle.services.proofs.Texts.{is_unread, text_inverse, circuit_back}
use Rattle.services.proofs.OneOutcome.{one_erasure}

-- ---- a schedule has as many lines with a circuit's word as its erasure has lines
erased_count :
    (h : Header) (before xs : List Line) → T (lines_formed Schedule h before xs) → (origins : List ℕ) (count : ℕ) → length (erase_from origins count xs) ≡ kept_count xs
erased_count h before [] t origins count = refl
erased_count h before (x ∷ xs) t origins count =
    let here = and_first (line_formed Schedule h before x) (lines_formed Schedule h (before ++ (x ∷ [])) xs) t in
    let after = and_second (line_formed Schedule h before x) (lines_formed Schedule h (before ++ (x ∷ [])) xs) t in
    go (is_word Schedule x) (is_word Circuit x) (line_facts Schedule h before x here).word (erased_count h (before ++ (x ∷ [])) xs after)
  where
    lines : Fate → List Line
    lines f = elim f [
      | kept ↦ renumbered origins count x ∷ erase_from (origins ++ (count ∷ [])) (suc count) xs
      | made_from a ↦ erase_from (origins ++ (get_or origins a count ∷ [])) count xs
    ]

    go : (s c : Bool) → T s → ((os : List ℕ) (n : ℕ) → length (erase_from os n xs) ≡ kept_count xs)
        → length (lines (cond (s && not c) (made_from (get_or (operands x) 0 0)) kept)) ≡ cond c (suc (kept_count xs)) (kept_count xs)
    go true true t rest = ap suc (rest (origins ++ (count ∷ [])) (suc count))
    go true false t rest = rest (origins ++ (get_or origins (get_or (operands x) 0 0) count ∷ [])) count
    go false c t rest = absurd t

-- ---- what erasing comes to
data EraseCase (schedule : Bytes) : Outcome → Type 0 where
  unread : (n p : ℕ) → read_text erase_context schedule ≡ refused n p → EraseCase schedule (refuses n 1 p)
  erased : (f : File) → read_text erase_context schedule ≡ read f → EraseCase schedule (writes (file_text Circuit (erase_file f)))

case_writing : {schedule : Bytes} {o : Outcome} → EraseCase schedule o → Writing o
case_writing (unread n p e) = refusal n 1 p
case_writing (erased f e) = text (file_text Circuit (erase_file f))

module _ (schedule : Bytes) where
  erase_case : EraseCase schedule (erase_outcome schedule)
  erase_case = go (read_text erase_context schedule) refl
    where
      go : (x : Reading File) → read_text erase_context schedule ≡ x → EraseCase schedule (once_read 1 x (λ f. writes (file_text Circuit (erase_file f))))
      go (refused n p) e = unread n p e
      go (read f) e = erased f e

  pub erasure_reads : {f : File} → read_text erase_context schedule ≡ read f → read_text circuit_context (file_text Circuit (erase_file f)) ≡ read (erase_file f)
  erasure_reads {f} e =
      let b = file_read_written erase_context schedule e in
      let formed = (Model.erasing f.header f.lines b.formed).formed in
      let kept = leb→le (kept_count f.lines) 256 (and_second (leb (length f.lines) 1792) (leb (kept_count f.lines) 256) b.few) in
      let all = erased_count f.header [] f.lines (well_lines Schedule f.header f.lines b.formed) [] 0 in
      circuit_back (erase_file f) formed (omega arith)

  comes_to : {o : Outcome} → EraseCase schedule o → OnceRead (read_text erase_context schedule) 1 EraseComesTo o
  comes_to (unread n p e) = Promises.unread n p (is_unread erase_context schedule n p e)
  comes_to (erased f e) = Promises.is_read f _ e (Promises.erases (file_text Circuit (erase_file f)) refl (erasure_reads e))

pub erase_promise : (schedule out : Bytes) (r : Reply) (after : Bytes) → Replied (erase_outcome schedule) out r after → ErasePromise schedule out r after
erase_promise schedule out r after a =
    let case = erase_case schedule in
    record {
      inverse = text_inverse erase_context (omega arith) schedule;
      call = record { outcome = erase_outcome schedule; comes_to = comes_to schedule case; only = λ other c. one_erasure schedule other _ c (comes_to schedule case) };
      replies = lent_replies out r after (case_writing case) a;
    }
