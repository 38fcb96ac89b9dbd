-- What is replied to a schedule that goes out is what is promised: its listing exactly when it keeps the rules, and back and there. Assumes nothing.
use Prim.Native.Nat.{ℕ, suc, ◌≤◌}
use native.Mathlib.Omega.{arith}
use mathlib.Core.Path.{◌≡◌, refl, sym, ap, ◌∙◌, subst}
use mathlib.Core.Bool.{Bool, true, false, cond}
use borrow.Author.Tests.{le-leb}
use lib.Dec.{T, leb, leb→le}
use lib.ListN.{length}
use Rattle.fields.specs.Pieces.{Bytes}
use Rattle.rows.specs.Rows.{Reading, read, refused}
use Rattle.model.specs.declared.Answer.{Answer}
use Rattle.model.specs.declared.Answer.TheVariants.{Done, Level, Refused}
use Rattle.model.specs.declared.Grammar.TheVariants.{Circuit, Schedule}
use Rattle.model.specs.Words.{ascii}
use Rattle.model.specs.Files.{File}
use Rattle.model.specs.Rules.{KeepsRules}
use Rattle.model.specs.Services.{erase_file}
use Rattle.model.specs.Answers.{check_machine, rules_answer}
use Rattle.model.specs.Machine.{run}
use Rattle.model.proofs.Theorems as Model
use Rattle.text.specs.Files.{read_text, schedule_context, erase_context, text_under, file_text}
use Rattle.text.proofs.FileLaws.{FileBack, file_read_written}
use Rattle.listings.specs.Listings.{Listing, read_listing, listing_text}
use Rattle.listings.specs.Rules.{KeepsRisingRules}
use Rattle.listings.specs.Conversion.{converted, converted_file}
use Rattle.listings.proofs.Texts.{listing_facts, listing_read_written}
use Rattle.listings.proofs.RulesTheorems as Rules
use Rattle.services.specs.declared.Reply.{Reply}
use Rattle.services.specs.Outcomes.{Outcome, writes, refuses, lent, reply_of, Replied}
use Rattle.services.specs.Calls.{once_read}
use Rattle.services.specs.Promises as Promises
use Rattle.services.specs.Promises.{OnceRead, Passed}
use Rattle.services.specs.Listings.{Converts, converts}
use Rattle.services.proofs.Lending.{Writing, text, refusal, lent_replies}
use Rattle.services.proofs.Texts.{is_unread, text_inverse, few_lines, schedule_back, passed_texts, passed_exact}
use Rattle.services.proofs.OneOutcome.{One, one_read, keeps_up_to, first_broken_one}
use Rattle.services.proofs.Erasing.{erasure_reads}
use Rattle.services.proofs.Converting.{not_level, becomes}
use Rattle.risingwriter.specs.GoingOut.{rising_file, GoesOut, ToRisingComesTo, breaks_rule, goes_out, Outgoing, without_downscale, ToRisingPromise}
use Rattle.risingwriter.specs.Calls.{turned_file, ruled_outcome, to_rising_outcome}
use Rattle.risingwriter.proofs.Turned.{there_and_back, going_out_back, going_out_reads, going_out_text}
use Rattle.risingwriter.proofs.Outgoing.{outgoing}

-- the listing's text
abbrev rising : File → Bytes
rising s = text_under (ascii "rising") (turned_file s)

module _ (schedule : Bytes) {s : File} (e : read_text erase_context schedule ≡ read s) where
  back : FileBack erase_context schedule s
  back = file_read_written erase_context schedule e

  reads_rising : read_listing (rising s) ≡ read (rising_file s)
  reads_rising = ap read_listing (sym (going_out_text s)) ∙ going_out_reads s back.formed back.few

  -- ---- a schedule that keeps the rules goes out, and its listing becomes the schedule again
  module _ (k : KeepsRules s.header s.lines) where
    kept : KeepsRisingRules s.header (rising_file s).lines
    kept = outgoing s back.formed k

    same_lines : converted s.header kept.scale (rising_file s).lines ≡ s.lines
    same_lines = going_out_back s back.formed kept.scale

    same_file : converted_file kept.scale (rising_file s) ≡ s
    same_file i = record { header = s.header; lines = same_lines i }

    few : length (converted s.header kept.scale (rising_file s).lines) ≤ 1792
    few = omega (arith, ap length same_lines, few_lines erase_context back)

    becomes_again : Converts (rising_file s) schedule
    becomes_again =
        subst (Converts (rising_file s)) (ap (file_text Schedule) same_file ∙ back.written) (becomes (rising_file s) (listing_facts (rising s) reads_rising) kept few)

    passes_check : Passed (file_text Circuit (erase_file s)) schedule
    passes_check =
        passed_texts (file_text Circuit (erase_file s)) schedule (erasure_reads schedule e)
        (subst (λ (t : Bytes). read_text schedule_context t ≡ read s) back.written (schedule_back s back.formed (few_lines erase_context back)))
        (record { circuit_formed = (Model.erasing s.header s.lines back.formed).formed; schedule_formed = back.formed; keeps = k; erases = refl })

    out : GoesOut schedule s (rising s)
    out =
        record {
          keeps = k;
          text_is = sym (going_out_text s);
          reads = reads_rising;
          keeps_rising = kept;
          back = Promises.is_read (rising_file s) _ reads_rising (converts schedule becomes_again);
          passed = passes_check;
          exact = passed_exact (file_text Circuit (erase_file s)) schedule passes_check;
        }

  ruled : (a : Answer) → rules_answer s.header s.lines ≡ a → ToRisingComesTo schedule s (ruled_outcome s a)
  ruled Done i = goes_out (rising s) (out ((Model.rules s.header s.lines back.formed).0 i))
  ruled (Level n) i = absurd (not_level (run (check_machine s.header) s.lines) n i)
  ruled (Refused n p) i = breaks_rule n p (Model.first_broken s.header s.lines back.formed n p i).broken

-- ---- one outcome
once : (schedule : Bytes) (s : File) → One (ToRisingComesTo schedule s)
once schedule s o q (breaks_rule m p x) (breaks_rule n r y) = first_broken_one x y
once schedule s o q (breaks_rule m p x) (goes_out w y) = absurd (x.with_it (keeps_up_to s.lines y.keeps (suc x.line)))
once schedule s o q (goes_out w x) (breaks_rule n r y) = absurd (y.with_it (keeps_up_to s.lines x.keeps (suc y.line)))
once schedule s o q (goes_out w x) (goes_out v y) = ap writes (x.text_is ∙ sym y.text_is)

-- ---- what a call comes to
data OutCase (schedule : Bytes) : Outcome → Type 0 where
  unread : (n p : ℕ) → read_text erase_context schedule ≡ refused n p → OutCase schedule (refuses n 1 p)
  answered : (s : File) → read_text erase_context schedule ≡ read s → (a : Answer) → rules_answer s.header s.lines ≡ a → OutCase schedule (ruled_outcome s a)

case_writing : {schedule : Bytes} {o : Outcome} → OutCase schedule o → Writing o
case_writing (unread n p e) = refusal n 1 p
case_writing (answered s e Done i) = text (rising s)
case_writing (answered s e (Level n) i) = absurd (not_level (run (check_machine s.header) s.lines) n i)
case_writing (answered s e (Refused n p) i) = refusal n 1 p

module _ (schedule : Bytes) where
  out_case : OutCase schedule (to_rising_outcome schedule)
  out_case = go (read_text erase_context schedule) refl
    where
      go : (x : Reading File) → read_text erase_context schedule ≡ x → OutCase schedule (once_read 1 x (λ s. ruled_outcome s (rules_answer s.header s.lines)))
      go (refused n p) e = unread n p e
      go (read s) e = answered s e (rules_answer s.header s.lines) refl

  comes_to : {o : Outcome} → OutCase schedule o → OnceRead (read_text erase_context schedule) 1 (ToRisingComesTo schedule) o
  comes_to (unread n p e) = Promises.unread n p (is_unread erase_context schedule n p e)
  comes_to (answered s e a i) = Promises.is_read s _ e (ruled schedule e a i)

  one_out : One (OnceRead (read_text erase_context schedule) 1 (ToRisingComesTo schedule))
  one_out = one_read (read_text erase_context schedule) 1 (ToRisingComesTo schedule) (λ s e. once schedule s)

  -- a call that can come to this outcome does
  comes_out : (s : File) (w : Bytes) → read_text erase_context schedule ≡ read s → GoesOut schedule s w → to_rising_outcome schedule ≡ writes w
  comes_out s w e g = one_out (to_rising_outcome schedule) (writes w) (comes_to out_case) (Promises.is_read s _ e (goes_out w g))

  -- ---- there and back
  back_again : (t : Bytes) (l : Listing) → read_listing t ≡ read l → T (without_downscale l.lines) → Converts l schedule → to_rising_outcome schedule ≡ writes t
  back_again t l e w c =
      let f = listing_facts t e in
      let s = converted_file c.keeps.scale l in
      let k = Rules.converted_keeps l.header l.lines f.formed c.keeps in
      let same : rising s ≡ t = sym (going_out_text s) ∙ ap listing_text (there_and_back l f w c.keeps.scale) ∙ listing_read_written t e in
      comes_out s (rising s) c.reads (out schedule c.reads k) ∙ ap writes same

  module _ (lent-bytes : Bytes) (r : Reply) (after : Bytes) (a : Replied (to_rising_outcome schedule) lent-bytes r after) where
    number : (o : Outcome) → r ≡ reply_of o → r.number ≡ (reply_of o).number
    number o e = ap (λ (q : Reply). q.number) e

    fits_room : (t : Bytes) → r ≡ reply_of (lent (length lent-bytes) (writes t)) → r.number ≡ 0 → length t ≤ length lent-bytes
    fits_room t e z = go (leb (length t) (length lent-bytes)) refl e
      where
        go : (c : Bool) → leb (length t) (length lent-bytes) ≡ c → r ≡ reply_of (cond c (writes t) (refuses 13 0 0)) → length t ≤ length lent-bytes
        go true q v = leb→le (length t) (length lent-bytes) (subst T (sym q) tt)
        go false q v = absurd (omega (arith, number (refuses 13 0 0) v))

    zero_out : {o : Outcome} → OutCase schedule o → r ≡ reply_of (lent (length lent-bytes) o) → r.number ≡ 0 → Outgoing schedule (length lent-bytes)
    zero_out (unread n p e) q z =
        absurd (let told = number (refuses n 1 p) q in let low = ((is_unread erase_context schedule n p e).by_reading (λ i. omega arith)).0 in omega arith)
    zero_out (answered s e Done i) q z =
        record {
          file = s;
          reads = e;
          keeps = (Model.rules s.header s.lines (back schedule e).formed).0 i;
          holds = subst (λ (w : Bytes). length w ≤ length lent-bytes) (sym (going_out_text s)) (fits_room (rising s) q z);
        }
    zero_out (answered s e (Level n) i) q z = absurd (not_level (run (check_machine s.header) s.lines) n i)
    zero_out (answered s e (Refused n p) i) q z =
        absurd (omega (arith, (Model.first_broken s.header s.lines (back schedule e).formed n p i).least, number (refuses n 1 p) q))

    out_zero : Outgoing schedule (length lent-bytes) → r.number ≡ 0
    out_zero g =
        let w = rising g.file in
        let same = comes_out g.file w g.reads (out schedule g.reads g.keeps) in
        let fits = subst (λ (t : Bytes). length t ≤ length lent-bytes) (going_out_text g.file) g.holds in
        ap (λ (q : Reply). q.number) a.reply ∙ ap (λ (o : Outcome). (reply_of (lent (length lent-bytes) o)).number) same
        ∙ ap (λ (b : Bool). (reply_of (cond b (writes w) (refuses 13 0 0))).number) (le-leb (length w) (length lent-bytes) fits)

    pub to_rising_promise : ToRisingPromise schedule lent-bytes r after
    to_rising_promise =
        record {
          inverse = text_inverse erase_context (omega arith) schedule;
          call = record { outcome = to_rising_outcome schedule; comes_to = comes_to out_case; only = λ other c. one_out other _ c (comes_to out_case) };
          replies = lent_replies lent-bytes r after (case_writing out_case) a;
          goes_out_iff = (zero_out out_case a.reply, out_zero);
          there_and_back = back_again;
        }
