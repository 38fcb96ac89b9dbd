-- What each service replies is what is promised of it, and nothing else is. Assumes nothing.
use Prim.Native.Nat.{ℕ, ◌≤◌, ◌<◌}
use native.Mathlib.Omega.{arith}
use mathlib.Core.Path.{◌≡◌, refl, sym, ap, ◌∙◌, subst}
use mathlib.Core.Bool.{Bool, true, false, cond, ◌&&◌}
use mathlib.Core.List.{List}
use mathlib.Core.Logic.{◌↔◌}
use borrow.Author.Tests.{ltb-true, ltb-false, le-leb, lt-leb, leb-true}
use lib.Dec.{T, leb, ltb, leb→le, le→leb}
use lib.ListN.{length}
use Rattle.fields.specs.Pieces.{Bytes}
use Rattle.rows.specs.Rows.{Reading, read, refused}
use Rattle.model.specs.declared.Line.{Line}
use Rattle.model.specs.Files.{File}
use Rattle.text.specs.Files.{read_text, schedule_context}
use Rattle.text.proofs.FileLaws.{file_read_written}
use Rattle.services.specs.declared.Reply.{Reply}
use Rattle.services.specs.Outcomes.{Outcome, writes, tells, refuses, reply_of, Replied}
use Rattle.services.specs.Calls.{once_read}
use Rattle.services.specs.Promises as Promises
use Rattle.services.specs.Promises.{TheOutcome, OnceRead}
use Rattle.services.proofs.Lending.{Writing, text, refusal, lent_replies}
use Rattle.services.proofs.OneOutcome.{One, one_read}
use Rattle.services.proofs.Steps.{replied_as}
use Rattle.services.proofs.Texts.{is_unread, text_inverse}
use Rattle.liveness.specs.Live.{may_drop, entry_of, one_if, live_after, live_bytes}
use Rattle.liveness.specs.Kept.{peak_of}
use Rattle.liveness.proofs.Scans.{NamesEarlier, names_earlier, drop_by_entry, entry_low, entry_high, entry_names, entry_unnamed, none_later, no_is_live}
use Rattle.liveness.proofs.Peaks.{one_peak, peak_is}
use Rattle.liveness.proofs.Bytes.{live_length, entry_back, count_back}
use Rattle.dropping.specs.Dropping as Dropping
use Rattle.dropping.specs.Dropping.{IsEntry, Answers, DropComesTo, MayDropPromise, Counts, AfterComesTo, LiveAfterPromise, PeakComesTo, LivePeakPromise, LiveComesTo, LivePromise}
use Rattle.dropping.specs.Calls.{drop_answer, count_after, may_drop_outcome, live_after_outcome, live_peak_outcome, live_outcome}
use Rattle.dropping.proofs.Tests.{one_is}

-- ---- a schedule's text, and what follows of its file
earlier_read : (schedule : Bytes) (f : File) → read_text schedule_context schedule ≡ read f → NamesEarlier f.lines
earlier_read schedule f e = names_earlier f.header f.lines (file_read_written schedule_context schedule e).formed

module _ (schedule : Bytes) (Then : File → Outcome → Type 0) (more : File → Outcome) where
  -- where it comes to what follows of each file that it could read to, it comes to it
  reads_to : ((f : File) → read_text schedule_context schedule ≡ read f → Then f (more f)) → OnceRead (read_text schedule_context schedule) 1 Then (once_read 1 (read_text schedule_context schedule) more)
  reads_to each = go (read_text schedule_context schedule) refl
    where
      go : (x : Reading File) → read_text schedule_context schedule ≡ x → OnceRead (read_text schedule_context schedule) 1 Then (once_read 1 x more)
      go (refused n p) e = Promises.unread n p (is_unread schedule_context schedule n p e)
      go (read f) e = Promises.is_read f _ e (each f e)

  abbrev the_outcome :
      ((f : File) → read_text schedule_context schedule ≡ read f → Then f (more f)) → ((f : File) → read_text schedule_context schedule ≡ read f → One (Then f)) →
      TheOutcome (OnceRead (read_text schedule_context schedule) 1 Then)
  the_outcome each once =
      record {
        outcome = once_read 1 (read_text schedule_context schedule) more;
        comes_to = reads_to each;
        only = λ other p. one_read (read_text schedule_context schedule) 1 Then once other _ p (reads_to each);
      }

-- ---- entries
module _ (lines : List Line) (earlier : NamesEarlier lines) (value : ℕ) (has : value < length lines) where
  is_entry : IsEntry lines value (entry_of lines value)
  is_entry =
      record {
        there = entry_high value lines has;
        not_before = entry_low lines earlier value;
        names_it = entry_names value lines;
        none_later = none_later lines earlier value;
      }

  drops_by_entry : (line : ℕ) → T (may_drop lines value line) ↔ (entry_of lines value ≤ line)
  drops_by_entry line =
      let same = drop_by_entry lines earlier value line in
      (λ t. leb→le (entry_of lines value) line (subst T same t), λ most. subst T (sym same) (le→leb (entry_of lines value) line most))

  -- ---- may drop
  module _ (line : ℕ) where
    by_entry : one_if (may_drop lines value line) ≡ one_if (leb (entry_of lines value) line)
    by_entry = ap one_if (drop_by_entry lines earlier value line)

    yes : entry_of lines value ≤ line → one_if (may_drop lines value line) ≡ 1
    yes most = by_entry ∙ ap one_if (le-leb (entry_of lines value) line most)

    answers_hold : Answers lines value line (one_if (may_drop lines value line))
    answers_hold =
        record {
          scan = refl;
          from_entry = by_entry;
          entry_is = is_entry;
          yes_iff = (
            λ e.
                let most = leb-true (entry_of lines value) line (one_is (leb (entry_of lines value) line) (sym by_entry ∙ e)) in
                (most, omega (arith, most, entry_low lines earlier value)),
            λ both. yes both.0,
          );
          named_never = λ none own. yes (let same = entry_unnamed value lines none in omega (arith, same, own));
          before_own = λ less. by_entry ∙ ap one_if (lt-leb (entry_of lines value) line (omega (arith, less, entry_low lines earlier value)));
        }

module _ (value line : ℕ) (f : File) where
  drop_comes_to : NamesEarlier f.lines → DropComesTo value line f (drop_answer value line f.lines)
  unfolding drop_answer
  drop_comes_to earlier = go (ltb value (length f.lines)) (ltb line (length f.lines)) refl refl
    where
      go : (b c : Bool) → ltb value (length f.lines) ≡ b → ltb line (length f.lines) ≡ c
          → DropComesTo value line f (cond (b && c) (tells (one_if (may_drop f.lines value line))) (refuses 4 0 0))
      go true true e i =
          let has = ltb-true value (length f.lines) e in
          Dropping.answers has (ltb-true line (length f.lines) i) _ (answers_hold f.lines earlier value has line)
      go true false e i = Dropping.lacks (λ v l. let past = ltb-false line (length f.lines) i in omega (arith, past, l))
      go false c e i = Dropping.lacks (λ v l. let past = ltb-false value (length f.lines) e in omega (arith, past, v))

  one_drop : One (DropComesTo value line f)
  one_drop o q (Dropping.lacks n) (Dropping.lacks m) = refl
  one_drop o q (Dropping.lacks n) (Dropping.answers v l a x) = absurd (n v l)
  one_drop o q (Dropping.answers v l a x) (Dropping.lacks n) = absurd (n v l)
  one_drop o q (Dropping.answers v l a x) (Dropping.answers w k b y) = ap tells (x.scan ∙ sym y.scan)

abbrev drop_call : (schedule : Bytes) (value line : ℕ) → TheOutcome (OnceRead (read_text schedule_context schedule) 1 (DropComesTo value line))
drop_call schedule value line =
    the_outcome schedule (DropComesTo value line) (λ f. drop_answer value line f.lines) (λ f e. drop_comes_to value line f (earlier_read schedule f e)) (λ f e. one_drop value line f)

pub may_drop_promise : (schedule : Bytes) (value line : ℕ) (r : Reply) → r ≡ reply_of (may_drop_outcome schedule value line) → MayDropPromise schedule value line r
may_drop_promise schedule value line r e =
    record {
      inverse = text_inverse schedule_context (omega arith) schedule;
      call = drop_call schedule value line;
      reply = e;
    }

-- ---- live after
counts_hold : (lines : List Line) (line : ℕ) → Counts lines line (live_after lines line)
counts_hold lines line = record { count_is = refl; answer_no = sym (no_is_live lines line) }

module _ (line : ℕ) (f : File) where
  after_comes_to : AfterComesTo line f (count_after line f.lines)
  unfolding count_after
  after_comes_to = go (ltb line (length f.lines)) refl
    where
      go : (b : Bool) → ltb line (length f.lines) ≡ b → AfterComesTo line f (cond b (tells (live_after f.lines line)) (refuses 4 0 0))
      go true e = Dropping.counts (ltb-true line (length f.lines) e) _ (counts_hold f.lines line)
      go false e = Dropping.lacks (λ l. let past = ltb-false line (length f.lines) e in omega (arith, past, l))

  one_after : One (AfterComesTo line f)
  one_after o q (Dropping.lacks n) (Dropping.lacks m) = refl
  one_after o q (Dropping.lacks n) (Dropping.counts l a x) = absurd (n l)
  one_after o q (Dropping.counts l a x) (Dropping.lacks n) = absurd (n l)
  one_after o q (Dropping.counts l a x) (Dropping.counts k b y) = ap tells (x.count_is ∙ sym y.count_is)

abbrev after_call : (schedule : Bytes) (line : ℕ) → TheOutcome (OnceRead (read_text schedule_context schedule) 1 (AfterComesTo line))
after_call schedule line =
    the_outcome schedule (AfterComesTo line) (λ f. count_after line f.lines) (λ f e. after_comes_to line f) (λ f e. one_after line f)

pub live_after_promise : (schedule : Bytes) (line : ℕ) (r : Reply) → r ≡ reply_of (live_after_outcome schedule line) → LiveAfterPromise schedule line r
live_after_promise schedule line r e =
    record {
      inverse = text_inverse schedule_context (omega arith) schedule;
      call = after_call schedule line;
      reply = e;
    }

-- ---- live peak
one_most : (f : File) → One (PeakComesTo f)
one_most f o q (Dropping.peaks m x) (Dropping.peaks n y) = ap tells (one_peak f.lines m n x y)

abbrev peak_call : (schedule : Bytes) → TheOutcome (OnceRead (read_text schedule_context schedule) 1 PeakComesTo)
peak_call schedule =
    the_outcome schedule PeakComesTo (λ f. tells (peak_of f.lines)) (λ f e. Dropping.peaks (peak_of f.lines) (peak_is f.lines)) (λ f e. one_most f)

pub live_peak_promise : (schedule : Bytes) (r : Reply) → r ≡ reply_of (live_peak_outcome schedule) → LivePeakPromise schedule r
live_peak_promise schedule r e =
    record {
      inverse = text_inverse schedule_context (omega arith) schedule;
      call = peak_call schedule;
      reply = e;
    }

-- ---- live
lists_all : (f : File) → NamesEarlier f.lines → LiveComesTo f (writes (live_bytes f.lines))
lists_all f earlier =
    Dropping.lists (live_bytes f.lines) refl (live_length f.lines)
    (λ v has.
    record {
      entry = entry_back f.lines v has;
      count = count_back f.lines v has;
      entry_is = is_entry f.lines earlier v has;
      drops = λ line there. drops_by_entry f.lines earlier v has line;
      answer_no = sym (no_is_live f.lines v);
    })

one_list : (f : File) → One (LiveComesTo f)
one_list f o q (Dropping.lists w e l x) (Dropping.lists v i m y) = ap writes (e ∙ sym i)

live_writing : (x : Reading File) → Writing (once_read 1 x (λ f. writes (live_bytes f.lines)))
live_writing (refused n p) = refusal n 1 p
live_writing (read f) = text (live_bytes f.lines)

abbrev live_call : (schedule : Bytes) → TheOutcome (OnceRead (read_text schedule_context schedule) 1 LiveComesTo)
live_call schedule =
    the_outcome schedule LiveComesTo (λ f. writes (live_bytes f.lines)) (λ f e. lists_all f (earlier_read schedule f e)) (λ f e. one_list f)

pub live_promise : (schedule out : Bytes) (r : Reply) (after : Bytes) → Replied (live_outcome schedule) out r after → LivePromise schedule out r after
live_promise schedule out r after a =
    record {
      inverse = text_inverse schedule_context (omega arith) schedule;
      call = live_call schedule;
      replies = lent_replies out r after (live_writing (read_text schedule_context schedule)) a;
    }

-- ---- what is promised of a reply is what the worked cases say of it
module _ (schedule : Bytes) (r : Reply) where
  pub may_drop_worked : (value line : ℕ) → MayDropPromise schedule value line r → r ≡ reply_of (may_drop_outcome schedule value line)
  may_drop_worked value line p = p.reply ∙ ap reply_of (sym (p.call.only _ (drop_call schedule value line).comes_to))

  pub live_after_worked : (line : ℕ) → LiveAfterPromise schedule line r → r ≡ reply_of (live_after_outcome schedule line)
  live_after_worked line p = p.reply ∙ ap reply_of (sym (p.call.only _ (after_call schedule line).comes_to))

  pub live_peak_worked : LivePeakPromise schedule r → r ≡ reply_of (live_peak_outcome schedule)
  live_peak_worked p = p.reply ∙ ap reply_of (sym (p.call.only _ (peak_call schedule).comes_to))

  pub live_worked : (out after : Bytes) → LivePromise schedule out r after → Replied (live_outcome schedule) out r after
  live_worked out after p = replied_as (sym (p.call.only _ (live_call schedule).comes_to)) p.replies.replied
