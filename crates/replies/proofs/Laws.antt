-- Replies, test by test: which file is at fault, each answer, and the text where it fits. Assumes nothing.
use Prim.Native.Nat.{ℕ, ◌+◌, ◌*◌, ◌≤◌, ◌<◌}
use native.Mathlib.Omega.{arith}
use mathlib.Core.Path.{◌≡◌, sym, ap, ◌∙◌, subst}
use mathlib.Core.List.{List}
use mathlib.Core.Bool.{true, false}
use borrow.Author.Rules.{rules}
use borrow.Author.Tests.{ne_eqb, le-leb, lt-leb}
use lib.Dec.{T, leb, leb→le}
use lib.ListN.{length, length-map}
use mir.Syntax.{w32}
use mir.Val.{Fits}
use Rattle.fields.specs.Pieces.{Bytes}
use Rattle.model.specs.declared.Header.{Header}
use Rattle.model.specs.declared.Answer.{Answer}
use Rattle.model.specs.declared.Answer.TheVariants.{Done, Level, Refused}
use Rattle.model.specs.Answers.{answer_file}
use Rattle.text.specs.Tables.{file_of}
use Rattle.text.specs.Files.{text_under}
use Rattle.text.proofs.Tables.{count_length}
use Rattle.text.proofs.Most.{text_most}
use Rattle.tables.specs.declared.Record.{Record}
use Rattle.tables.specs.Records.{line_of, held}
use Rattle.spelling.specs.Put.{Counted}
use Rattle.writer.specs.Writing.{Written}
use Rattle.services.specs.declared.Reply.{Reply}
use Rattle.services.specs.Outcomes.{writes, tells, refuses, reply_of, Replied}
use Rattle.services.specs.Calls.{answered}

-- ---- the file at fault
module _ (file n p : ℕ) where
  pub no_place : p ≡ 0 → 0 ≡ answer_file file (Refused n p)
  no_place e = rw e

  pub other_circuit : (p ≡ 0 → ⊥) → n ≡ 12 → 1 ≡ answer_file file (Refused n p)
  other_circuit z e = simp (ne_eqb p 0 z, e)

  pub its_own : (p ≡ 0 → ⊥) → (n ≡ 12 → ⊥) → file ≡ answer_file file (Refused n p)
  its_own z e = simp (ne_eqb p 0 z, ne_eqb n 12 e)

-- ---- an answer
module _ (file : ℕ) (a : Answer) where
  pub answer_done : (r : Reply) → a ≡ Done → r ≡ reply_of (refuses 0 0 0) → r ≡ reply_of (answered file a)
  answer_done r e q = rw e q

  pub answer_level : (l : ℕ) (r : Reply) → a ≡ Level l → r ≡ reply_of (tells l) → r ≡ reply_of (answered file a)
  answer_level l r e q = rw e q

  pub answer_refused : (n p f : ℕ) (r : Reply) → a ≡ Refused n p → f ≡ answer_file file (Refused n p) → r ≡ reply_of (refuses n f p) → r ≡ reply_of (answered file a)
  answer_refused n p f r e q s = rw (e, ← q) s

-- ---- the bytes that are needed
module _ (word : Bytes) (h : Header) (records : List Record) (count : ℕ) (short : length word ≤ 8) (all : length records ≡ 1792) (few : count ≤ 1792) where
  abbrev held_text : Bytes
  held_text = text_under word (file_of (held h records count))

  text_few : length held_text ≤ 72 * count + 97
  text_few =
      omega (arith, text_most word (file_of (held h records count)) short, count_length (held h records count) (length-map records line_of ∙ all) few)

  pub room_for_all : (room : ℕ) → 72 * count + 97 ≤ room → leb (72 * count + 97) room ≡ leb (length held_text) room
  room_for_all room enough =
      le-leb (72 * count + 97) room enough ∙ sym (le-leb (length held_text) room (omega (arith, text_few)))

  pub counted_through : (room needed : ℕ) → Counted held_text 129117 needed → leb needed room ≡ leb (length held_text) room
  counted_through room needed c = ap (λ (n : ℕ). leb n room) c.counted

  pub length_fits : (out after : Bytes) (written : ℕ) → Written out held_text written after → Fits w32 written
  length_fits out after written w = record { fits = omega (arith, text_few, w.counted) }

-- ---- the text, where it fits
module _ (text out : Bytes) (needed : ℕ) (same : leb needed (length out) ≡ leb (length text) (length out)) where
  pub too_short : (r : Reply) → length out < needed → r ≡ reply_of (refuses 13 0 0) → Replied (writes text) out r out
  too_short r short e =
      let test : leb (length text) (length out) ≡ false = sym same ∙ lt-leb needed (length out) short in
      record { reply = rw test e; bytes = rw test }

  module _ (enough : needed ≤ length out) where
    test : leb (length text) (length out) ≡ true
    test = sym same ∙ le-leb needed (length out) enough

    pub fits : length text ≤ length out
    fits = leb→le (length text) (length out) (subst T (sym test) tt)

    pub all_written : (written : ℕ) (after : Bytes) (r : Reply) → Written out text written after → r ≡ reply_of (tells written) → Replied (writes text) out r after
    all_written written after r w e = record { reply = e ∙ rw (test, w.counted); bytes = rw test w.bytes }

pub ruleset reply_laws =
    (rules, no_place, other_circuit, its_own, answer_done, answer_level, answer_refused, room_for_all, counted_through, too_short, fits, length_fits, all_written)
