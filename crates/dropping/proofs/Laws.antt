-- The four services, step by step: what each return says, from the tests on the way and what the callees ensure. Assumes nothing.
use Prim.Native.Nat.{ℕ, ◌+◌, ◌*◌, ◌≤◌, ◌<◌}
use native.Mathlib.Nat.{zero-add}
use native.Mathlib.Omega.{arith}
use mathlib.Core.Path.{◌≡◌, refl, sym, ap, ◌∙◌, subst}
use mathlib.Core.Bool.{Bool, true, false, cond, ◌&&◌}
use mathlib.Core.List.{List, ◌++◌}
use borrow.Author.Rules.{rules}
use borrow.Author.Tests.{lt-ltb, le-ltb, le-leb, lt-leb}
use lib.Dec.{leb, ltb}
use lib.ListN.{length, get_or, drop}
use mir.Syntax.{w32, w64}
use mir.Val.{Fits}
use Rattle.fields.specs.Pieces.{Bytes}
use Rattle.model.specs.declared.Line.{Line}
use Rattle.model.specs.Files.{File}
use Rattle.text.specs.Files.{read_text, schedule_context}
use Rattle.text.specs.Tables.{file_of}
use Rattle.tables.specs.declared.Record.{Record}
use Rattle.tables.specs.Records.{lines_held, IsSchedule}
use Rattle.std.specs.Prelude.{Result, Ok, Err}
use Rattle.model.specs.declared.Refusal.{Refusal}
use Rattle.model.specs.Refusals.{number_of}
use Rattle.tables.specs.declared.files.ScheduleTable.{ScheduleTable}
use Rattle.tables.specs.Files.{schedule_held}
use Rattle.reader.specs.Reads.{schedule_told}
use Rattle.spelling.specs.Put.{Put}
use Rattle.services.specs.declared.Reply.{Reply}
use Rattle.services.specs.Outcomes.{Outcome, writes, tells, refuses, reply_of, Replied}
use Rattle.services.specs.Calls.{once_read}
use Rattle.services.proofs.Steps.{once_read_lem, once_refused, replied_as, refusal_replied}
use Rattle.liveness.specs.Live.{may_drop, entry_of, one_if, live_after, live_bytes}
use Rattle.liveness.specs.Kept.{HasEntries, HasCounts, IsLargest, peak_of, pairs_to}
use Rattle.liveness.proofs.Scans.{drop_by_entry, entry_high, live_most}
use Rattle.liveness.proofs.Naming.{table_few, table_lines_lem, table_earlier}
use Rattle.liveness.proofs.Peaks.{largest_peak, one_peak, peak_is}
use Rattle.liveness.proofs.Bytes.{pairs_live, live_length, pairs_length}
use Rattle.dropping.specs.Calls.{drop_answer, count_after}
use Rattle.dropping.proofs.Tests.{and_false}

-- ---- a schedule that was read
module _ (records : List Record) (count : ℕ) (t : IsSchedule records count) where
  abbrev lines : List Line
  lines = lines_held records count

  long : length lines ≡ count
  long = table_lines_lem records count t

  pub few : count ≤ 1792
  few = table_few records count t

  pub four_each : Fits w64 (4 * count)
  four_each = record { fits = omega (arith, few) }

  -- ---- may drop
  module _ (value line : ℕ) where
    answer_as : (b c : Bool) → ltb value (length lines) ≡ b → ltb line (length lines) ≡ c →
        drop_answer value line lines ≡ cond (b && c) (tells (one_if (may_drop lines value line))) (refuses 4 0 0)
    unfolding drop_answer
    answer_as b c e f = rw (e, f)

    pub no_value : (r : Reply) → count ≤ value → r ≡ reply_of (refuses 4 0 0) → r ≡ reply_of (drop_answer value line lines)
    no_value r past e =
        e ∙ ap reply_of (sym (answer_as false (ltb line (length lines)) (le-ltb value (length lines) (omega (arith, long))) refl))

    pub no_line_lem : (r : Reply) → count ≤ line → r ≡ reply_of (refuses 4 0 0) → r ≡ reply_of (drop_answer value line lines)
    no_line_lem r past e =
        let none : drop_answer value line lines ≡ cond (ltb value (length lines) && false) (tells (one_if (may_drop lines value line))) (refuses 4 0 0) =
        answer_as (ltb value (length lines)) false refl (le-ltb line (length lines) (omega (arith, long))) in
        e ∙ ap reply_of (sym (none ∙ ap (λ (b : Bool). cond b (tells (one_if (may_drop lines value line))) (refuses 4 0 0)) (and_false (ltb value (length lines)))))

    module _ (has_value : value < count) (has-line : line < count) (entries : List ℕ) (has : HasEntries lines entries) where
      pub value_place : value < 1792
      value_place = omega (arith, few)

      entry_known : get_or entries value 0 ≡ entry_of lines value
      entry_known = has.entry_is value (omega (arith, long))

      pub entry_wide : Fits w32 (get_or entries value 0)
      entry_wide = let high = entry_high value lines (omega (arith, long)) in record { fits = omega (arith, high, entry_known, long, few) }

      answered_as : (b : Bool) → leb (entry_of lines value) line ≡ b → tells (one_if b) ≡ drop_answer value line lines
      answered_as b e =
          ap (λ (c : Bool). tells (one_if c)) (sym e ∙ sym (drop_by_entry lines (table_earlier records count t) value line))
          ∙ sym (answer_as true true (lt-ltb value (length lines) (omega (arith, long))) (lt-ltb line (length lines) (omega (arith, long))))

      pub answer_yes : (r : Reply) → get_or entries value 0 ≤ line → r ≡ reply_of (tells 1) → r ≡ reply_of (drop_answer value line lines)
      answer_yes r most e = e ∙ ap reply_of (answered_as true (le-leb (entry_of lines value) line (omega (arith, entry_known))))

      pub answer_no : (r : Reply) → line < get_or entries value 0 → r ≡ reply_of (tells 0) → r ≡ reply_of (drop_answer value line lines)
      answer_no r less e = e ∙ ap reply_of (answered_as false (lt-leb (entry_of lines value) line (omega (arith, entry_known))))

  -- ---- live after
  module _ (line : ℕ) where
    after_as : (b : Bool) → ltb line (length lines) ≡ b → count_after line lines ≡ cond b (tells (live_after lines line)) (refuses 4 0 0)
    unfolding count_after
    after_as b e = rw e

    pub no_such_line : (r : Reply) → count ≤ line → r ≡ reply_of (refuses 4 0 0) → r ≡ reply_of (count_after line lines)
    no_such_line r past e = e ∙ ap reply_of (sym (after_as false (le-ltb line (length lines) (omega (arith, long)))))

    module _ (has-line : line < count) (counts : List ℕ) (has : HasCounts lines counts) where
      pub line_place : line < 1792
      line_place = omega (arith, few)

      count_known : get_or counts line 0 ≡ live_after lines line
      count_known = has.count_is line (omega (arith, long))

      pub count_wide : Fits w32 (get_or counts line 0)
      count_wide = record { fits = omega (arith, count_known, live_most lines line, few) }

      pub count_told : (r : Reply) → r ≡ reply_of (tells (get_or counts line 0)) → r ≡ reply_of (count_after line lines)
      count_told r e = e ∙ ap (λ (n : ℕ). reply_of (tells n)) count_known ∙ ap reply_of (sym (after_as true (lt-ltb line (length lines) (omega (arith, long)))))

  -- ---- live peak
  pub peak_told : (counts : List ℕ) (most : ℕ) (r : Reply) → HasCounts lines counts → IsLargest counts count most → r ≡ reply_of (tells most) → r ≡ reply_of (tells (peak_of lines))
  peak_told counts most r has largest e =
      e ∙ ap (λ (n : ℕ). reply_of (tells n)) (one_peak lines most (peak_of lines) (largest_peak lines counts count most has long largest) (peak_is lines))

  -- ---- live
  module _ (out : Bytes) where
    text_long : length (live_bytes lines) ≡ 4 * count
    text_long = live_length lines ∙ ap (λ (n : ℕ). 4 * n) long

    pub out_too_short : (r : Reply) → length out < 4 * count → r ≡ reply_of (refuses 13 0 0) → Replied (writes (live_bytes lines)) out r out
    out_too_short r short e =
        let test : leb (length (live_bytes lines)) (length out) ≡ false = lt-leb (length (live_bytes lines)) (length out) (omega (arith, text_long)) in
        record { reply = rw test e; bytes = rw test }

    module _ (enough : 4 * count ≤ length out) (entries counts : List ℕ) (e : HasEntries lines entries) (c : HasCounts lines counts) (written : ℕ) (after : Bytes)
        (put : Put out 0 (pairs_to entries counts count) written after) where
      bytes_are : pairs_to entries counts count ≡ live_bytes lines
      bytes_are = ap (pairs_to entries counts) (sym long) ∙ pairs_live lines entries counts e c

      pub written_fits : Fits w32 written
      written_fits = record { fits = omega (arith, put.place, pairs_length entries counts count, few) }

      pub all_lent : (r : Reply) → r ≡ reply_of (tells written) → Replied (writes (live_bytes lines)) out r after
      all_lent r told =
          let test : leb (length (live_bytes lines)) (length out) ≡ true = le-leb (length (live_bytes lines)) (length out) (omega (arith, text_long)) in
          let count_is : written ≡ length (live_bytes lines) = omega (arith, put.place, pairs_length entries counts count, text_long) in
          let whole : after ≡ live_bytes lines ++ drop (length (live_bytes lines)) out =
          subst (λ (b : Bytes). after ≡ b ++ drop (0 + length b) out) bytes_are put.bytes ∙ rw (zero-add (length (live_bytes lines))) in
          record { reply = told ∙ ap (λ (n : ℕ). reply_of (tells n)) count_is ∙ rw test; bytes = rw test whole }

pub ruleset table_laws = (
  rules,
  few,
  four_each,
  no_value,
  no_line_lem,
  value_place,
  entry_wide,
  answer_yes,
  answer_no,
  no_such_line,
  line_place,
  count_wide,
  count_told,
  peak_told,
  out_too_short,
  written_fits,
  all_lent,
)

-- ---- its text
module _ (text : Bytes) (more : File → Outcome) (file : Result ScheduleTable Refusal) (q : schedule_told file ≡ read_text schedule_context text) where
  abbrev call : Outcome
  call = once_read 1 (read_text schedule_context text) more

  pub unread : (r : Reply) (x : Refusal) → file ≡ Err x → r ≡ reply_of (refuses (number_of x.fault) 1 x.place) → r ≡ reply_of call
  unread r x is e = e ∙ ap reply_of (once_refused 1 more (number_of x.fault) x.place (sym q ∙ ap schedule_told is))

  pub unread_lent : (out : Bytes) (r : Reply) (x : Refusal) → file ≡ Err x → r ≡ reply_of (refuses (number_of x.fault) 1 x.place) → Replied call out r out
  unread_lent out r x is e =
      replied_as (once_refused 1 more (number_of x.fault) x.place (sym q ∙ ap schedule_told is)) (refusal_replied (number_of x.fault) 1 x.place out r e)

  module _ (t : ScheduleTable) (is : file ≡ Ok t) where
    comes_to : more (file_of (schedule_held t)) ≡ call
    comes_to = once_read_lem 1 more (file_of (schedule_held t)) (sym q ∙ ap schedule_told is)

    pub was_read : (r : Reply) → r ≡ reply_of (more (file_of (schedule_held t))) → r ≡ reply_of call
    was_read r e = e ∙ ap reply_of comes_to

    pub was_lent : (out : Bytes) (r : Reply) (after : Bytes) → Replied (more (file_of (schedule_held t))) out r after → Replied call out r after
    was_lent out r after a = replied_as comes_to a

pub ruleset text_returns = (unread, unread_lent, was_read, was_lent)
