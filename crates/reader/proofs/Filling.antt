-- The loop that fills the records: what holds whenever its test is reached, and what each way on from there keeps. Assumes nothing.
use Prim.Native.Nat.{ℕ, suc, ◌+◌, ◌-◌, ◌≤◌, ◌<◌}
use native.Mathlib.Omega.{arith}
use mathlib.Core.Path.{◌≡◌, refl, sym, ap, ap₂, ◌∙◌, subst}
use mathlib.Core.Bool.{Bool, true, false, cond, not}
use mathlib.Core.List.{List, [], ◌∷◌, ◌++◌, map, map-append}
use borrow.Author.Rules.{rules}
use lib.Dec.{T}
use lib.ListN.{length, drop, set, length-drop, length-map, length-set, drop_of_length-le}
use lib.Seq.{length-take-le, drop-drop}
use Rattle.fields.specs.Pieces.{Bytes}
use Rattle.rows.specs.Lines.{lines_of}
use mathlib.Core.Option
use Rattle.rows.specs.Rows as Rows
use Rattle.rows.specs.Rows.{place_of, Judgement, good, bad, Reading, read, refused, formed}
use Rattle.rows.proofs.RowLaws.{read_is, good_is, bad_good, good_bad}
use Rattle.model.specs.declared.Grammar.TheVariants.{Circuit}
use Rattle.model.specs.declared.Header.{Header}
use Rattle.model.specs.declared.Line.{Line}
use Rattle.model.specs.declared.Word.{Word}
use Rattle.model.specs.Scales.{header_in_range}
use Rattle.model.specs.Words.{has_word}
use Rattle.text.specs.declared.Context.{Context}
use Rattle.text.specs.Tables.{RestFree}
use Rattle.text.specs.Files.{kept_count, too_many}
use Rattle.text.proofs.FileLaws.{has_room, kept_most}
use Rattle.listings.specs.declared.Levels.{Levels}
use Rattle.listings.specs.Listings.{Listed, Listing, ListedWord, word_fields, listed_of}
use Rattle.forms.specs.Along.{line_in, is_closed, after_line, numbers_in}
use Rattle.forms.proofs.TextLaws.{Past, past_line}
use Rattle.tables.specs.Records as Records
use Rattle.tables.specs.declared.Record.{Record}
use Rattle.tables.specs.Records.{line_of, lines_held, free_records}
use Rattle.tables.proofs.Records.{free_long, none_stored, stored_free}
use Rattle.tables.proofs.HeldLines.{stored_lines}
use Rattle.tables.proofs.Words.{record_word}
use Rattle.words.specs.declared.WordAt.{WordAt}
use Rattle.words.specs.Words.{listed_in, held_word, word_found, listed_word, past_word}
use Rattle.words.proofs.WordLaws.{found_listed}
use Rattle.judging.specs.declared.StoredLine.{StoredLine}
use Rattle.std.specs.Prelude.{Result, Ok, Err}
use Rattle.model.specs.declared.Fault.TheVariants.{TooManyLines}
use Rattle.model.specs.declared.Refusal.{Refusal}
use Rattle.model.specs.Refusals.{number_of}
use Rattle.reader.specs.declared.FileTable.{FileTable}
use Rattle.judging.specs.Judging.{line_read, line_to}
use Rattle.lines.specs.Lines.{held_as, tested_as, listed_tests, line_form_of, judgement_held, word_judged, line_judged}
use Rattle.lines.proofs.LineLaws.{kinds_held, kept_held, word_alike, line_by_word, line_past_word}
use Rattle.reader.specs.Reads.{past_limits, kept_with, next_line, rest_from, reading_held, reading_of, Filled}
use Rattle.reader.proofs.LineLaws.{kept_more, too_many_by, no_line_lem, one_line_lem}

-- The loop's invariant: with the lines of the records read and the text from `at` on left, reading comes to what the whole text comes to.
pub record Filling (levels : Levels) (c : Context) (h : Header) (s : Bytes) (start : ℕ) (records : List Record) (count kept at : ℕ) : Type 0 where
  pub ranged : T (header_in_range h)
  pub small : c.limit ≤ 1792
  pub few : count ≤ c.limit
  pub long : length records ≡ 1792
  pub free : RestFree (Records.held h records count)
  -- how many of the lines have a circuit's word
  pub counted : kept ≡ kept_count (lines_held records count)
  pub within : at ≤ length s
  -- the lines that were read, and as they are held
  pub rows : List Listed
  pub stored : lines_held records count ≡ map (held_as levels h) rows
  pub left : rest_from levels c h rows (lines_of (drop at s)) ≡ rest_from levels c h [] (lines_of (drop start s))

-- ---- what an answer says of the line
record RefusedLine (place n p : ℕ) (j : Judgement Line) : Type 0 where
  judged : j ≡ bad n
  where_it_is : p ≡ place

refused_line_lem : (place end : ℕ) (j : Judgement Line) {n p : ℕ} → refused n p ≡ line_to place end j → RefusedLine place n p j
refused_line_lem place end (good x) e = absurd (let z : ◌≡◌ {A = ℕ} 0 1 = cc in omega arith)
refused_line_lem place end (bad m) e = record { judged = cc; where_it_is = cc }

record TakenLine (end m : ℕ) (x : Line) (j : Judgement Line) : Type 0 where
  judged : j ≡ good x
  where_it_ends : m ≡ end

taken_line : (place end : ℕ) (j : Judgement Line) {x : Line} {m : ℕ} → read (x, m) ≡ line_to place end j → TakenLine end m x j
taken_line place end (good y) e =
    record { judged = ap (λ (q : Line × ℕ). good q.0) (sym (read_is e)); where_it_ends = ap (λ (q : Line × ℕ). q.1) (read_is e) }
taken_line place end (bad n) e = absurd (let z : ◌≡◌ {A = ℕ} 0 1 = cc in omega arith)

-- and of the line that is held so
held_bad : (levels : Levels) (h : Header) (j : Judgement Listed) {n : ℕ} → judgement_held levels h j ≡ bad n → j ≡ bad n
held_bad levels h (good x) e = good_bad (held_as levels h x) e
held_bad levels h (bad m) {n} e = let same : m ≡ n = cc in ap bad same

record HeldGood (levels : Levels) (h : Header) (x : Line) (j : Judgement Listed) : Type 0 where
  row : Listed
  judged : j ≡ good row
  held : held_as levels h row ≡ x

held_good : (levels : Levels) (h : Header) (j : Judgement Listed) {x : Line} → judgement_held levels h j ≡ good x → HeldGood levels h x j
held_good levels h (good y) e = record { row = y; judged = refl; held = good_is e }
held_good levels h (bad m) e = bad_good m e

-- a line that is taken has a word of the file, and is closed
taken_word : (levels : Levels) (c : Context) (h : Header) (done : List Line) (v : ListedWord) (t : Bytes) {x : Line} → word_judged levels c.grammar h done v t ≡ good x
    → T (has_word c.grammar (held_word v))
unfolding word_judged
taken_word levels c h done v t {x} e = go (has_word c.grammar (held_word v)) e
  where
    go : (b : Bool)
        → cond b (judgement_held levels h (formed (Option.map (listed_of v) (numbers_in (word_fields v) t)) (listed_tests levels c.grammar h done))) (bad 1) ≡ good x → T b
    go true v = tt
    go false v = absurd (let z : ◌≡◌ {A = ℕ} 0 1 = cc in omega arith)

taken_closed : (levels : Levels) (c : Context) (h : Header) (done : List Line) (t : Bytes) {x : Listed} → line_judged levels c.grammar h done t ≡ good x → is_closed t ≡ true
unfolding line_judged
taken_closed levels c h done t {x} e = go (is_closed t) e
  where
    go : (b : Bool) → cond b (formed ((line_form_of levels).reads (line_in t)) (listed_tests levels c.grammar h done)) (bad 1) ≡ good x → b ≡ true
    go true v = refl
    go false v = absurd (let z : ◌≡◌ {A = ℕ} 0 1 = cc in omega arith)

-- ---- what is said of the records at a return
pub filled_table :
    (limit : ℕ) (h : Header) (records : List Record) (count : ℕ) → count ≤ limit → RestFree (Records.held h records count) → Filled limit (Ok (record { header = h; count = count })) records
filled_table limit h records count few free =
    record {
      few = λ t e. let same : ◌≡◌ {A = FileTable} (record { header = h; count = count }) t = cc in omega (arith, ap (λ (x : FileTable). x.count) same);
      free = λ t e.
          let same : ◌≡◌ {A = FileTable} (record { header = h; count = count }) t = cc in
          subst (λ (x : FileTable). RestFree (Records.held x.header records x.count)) same free;
    }

pub filled_refused : (limit : ℕ) (r : Refusal) (records : List Record) → Filled limit (Err r) records
filled_refused limit r records =
    record {
      few = λ t e. absurd (let z : ◌≡◌ {A = ℕ} 0 1 = cc in omega arith);
      free = λ t e. absurd (let z : ◌≡◌ {A = ℕ} 0 1 = cc in omega arith);
    }

pub begin :
    (levels : Levels) (c : Context) (h : Header) (s : Bytes) (start : ℕ) (records : List Record) → T (header_in_range h) → c.limit ≤ 1792 → start ≤ length s →
    records ≡ free_records → Filling levels c h s start records 0 0 start
begin levels c h s start records ranged small inside free =
    record {
      ranged = ranged;
      small = small;
      few = omega arith;
      long = free_long records free;
      free = none_stored h records free;
      counted = refl;
      within = inside;
      rows = [];
      stored = refl;
      left = refl;
    }

-- the word is told as it is found
pub found_formed : (levels : Levels) (t : Bytes) (at : ℕ) (found : WordAt) → found ≡ word_found (listed_in levels t) (past_word at (listed_in levels t))
    → found ≡ word_found (listed_word found) found.end
found_formed levels t at found is =
    is ∙ (λ i. word_found (is_listed i) (found_end i))
  where
    is_listed : listed_in levels t ≡ listed_word found
    is_listed = sym (ap listed_word is ∙ found_listed (listed_in levels t) (past_word at (listed_in levels t)))

    found_end : past_word at (listed_in levels t) ≡ found.end
    found_end = sym (ap (λ (f : WordAt). f.end) is)

module _ {levels : Levels} {c : Context} {h : Header} {s : Bytes} {start : ℕ} {records : List Record} {count kept at : ℕ}
    (f : Filling levels c h s start records count kept at) where
  lines_held_lem : length (lines_held records count) ≡ count
  lines_held_lem = length-take-le count (Records.lines_of records) (omega (arith, f.free.room, f.few, f.small))

  -- the lines that tests are of
  abbrev tested : List Line
  tested = map (tested_as levels h) f.rows

  rows_held : length f.rows ≡ count
  rows_held = sym (length-map f.rows (held_as levels h)) ∙ ap length (sym f.stored) ∙ lines_held_lem

  tested_held : length tested ≡ count
  tested_held = length-map f.rows (tested_as levels h) ∙ rows_held

  tested_kept : kept_count tested ≡ kept
  tested_kept = kept_held levels h f.rows ∙ ap kept_count (sym f.stored) ∙ sym f.counted

  pub header_ranged : T (header_in_range h)
  header_ranged = f.ranged

  pub rest_free : RestFree (Records.held h records count)
  rest_free = f.free

  pub still_long : (given : List Record) → given ≡ free_records → length records ≡ length given
  still_long given free = f.long ∙ sym (free_long given free)

  pub few_lines : count ≤ c.limit
  few_lines = f.few

  -- no text is left: the table is the file
  pub all_read : length s ≤ at → reading_of (Ok (record { header = h; count = count })) records ≡ reading_held levels (rest_from levels c h [] (lines_of (drop start s)))
  all_read end =
      ap (λ (l : List Line). read (record { header = h; lines = l })) f.stored
      ∙ ap (reading_held levels) (sym (no_line_lem levels c h f.rows) ∙ ap (λ (rest : Bytes). rest_from levels c h f.rows (lines_of rest)) (sym (drop_of_length-le s end)) ∙ f.left)

  module _ (more : at < length s) (found : WordAt) (is : found ≡ word_found (listed_in levels (drop at s)) (past_word at (listed_in levels (drop at s))))
      (over : Bool) (tested-so : over ≡ past_limits c count kept (has_word Circuit found.word)) where
    -- the word that was found, and as it is held
    abbrev v : ListedWord
    v = listed_word found

    is_listed : v ≡ listed_in levels (drop at s)
    is_listed = ap listed_word is ∙ found_listed (listed_in levels (drop at s)) (past_word at (listed_in levels (drop at s)))

    word_held : found.word ≡ held_word v
    word_held = ap (λ (x : WordAt). x.word) is ∙ sym (ap held_word is_listed)

    past : found.end ≡ past_word at v
    past = ap (λ (x : WordAt). x.end) is ∙ sym (ap (past_word at) is_listed)

    limits : too_many c tested (line_in (drop at s)) ≡ over
    limits =
        too_many_by levels c tested (drop at s)
        ∙ (λ i. past_limits c (tested_held i) (tested_kept i) (has_word Circuit (held_word (sym is_listed i))))
        ∙ ap (λ (w : Word). past_limits c count kept (has_word Circuit w)) (sym word_held) ∙ sym tested-so

    abbrev after : Listed → Reading Listing
    after x = rest_from levels c h (f.rows ++ (x ∷ [])) (lines_of (after_line (drop at s)))

    reading : rest_from levels c h [] (lines_of (drop start s)) ≡ Rows.at (place_of count) (next_line levels c h f.rows (drop at s)) after
    reading =
        sym f.left ∙ one_line_lem levels c h f.rows (drop at s) (rw (length-drop at s) (omega arith))
        ∙ ap (λ (n : ℕ). Rows.at (place_of n) (next_line levels c h f.rows (drop at s)) after) rows_held

    comes_to : (j : Judgement Listed) → next_line levels c h f.rows (drop at s) ≡ j
        → reading_held levels (rest_from levels c h [] (lines_of (drop start s))) ≡ reading_held levels (Rows.at (place_of count) j after)
    comes_to j e = ap (reading_held levels) (reading ∙ ap (λ (k : Judgement Listed). Rows.at (place_of count) k after) e)

    -- one line too many
    pub too_many_lem : over ≡ true → reading_of (Err (record { fault = TooManyLines; place = count + 2 })) records ≡ reading_held levels (rest_from levels c h [] (lines_of (drop start s)))
    unfolding next_line
    too_many_lem e = sym (comes_to (bad 3) (rw (limits, e)))

    module _ (within : over ≡ false) (got : Result StoredLine Refusal)
        (told : line_read got ≡ line_to (place_of count) (found.end + length (line_in (drop found.end s)) + 1)
        (word_judged levels c.grammar h (lines_held records count) v (drop found.end s))) where
      abbrev end : ℕ
      end = found.end + length (line_in (drop found.end s)) + 1

      abbrev judged : Judgement Line
      judged = word_judged levels c.grammar h (lines_held records count) v (drop found.end s)

      next_judged : next_line levels c h f.rows (drop at s) ≡ line_judged levels c.grammar h tested (drop at s)
      unfolding next_line
      next_judged = rw (limits, within)

      next_by_word : judgement_held levels h (next_line levels c h f.rows (drop at s)) ≡ judged
      next_by_word =
          ap (judgement_held levels h) next_judged ∙ line_by_word levels c.grammar h tested s at v is_listed found.end past
          ∙ word_alike tested (map (held_as levels h) f.rows) (kinds_held levels h f.rows) levels c.grammar h v (drop found.end s)
          ∙ ap (λ (l : List Line). word_judged levels c.grammar h l v (drop found.end s)) (sym f.stored)

      within_limits : too_many c tested (line_in (drop at s)) ≡ false
      within_limits = limits ∙ within

      -- a line that is refused
      pub line_refused : (k : Refusal) → got ≡ Err k → reading_of (Err k) records ≡ reading_held levels (rest_from levels c h [] (lines_of (drop start s)))
      line_refused k e =
          let line = refused_line_lem (place_of count) end judged (sym (ap line_read e) ∙ told) in
          let next = held_bad levels h (next_line levels c h f.rows (drop at s)) (next_by_word ∙ line.judged) in
          sym (comes_to (bad (number_of k.fault)) next ∙ ap (refused (number_of k.fault)) (sym line.where_it_is))

      module _ (m : StoredLine) (good-line : got ≡ Ok m) where
        abbrev x : Line
        x = line_of m.held

        abbrev e : ℕ
        e = m.end

        line : TakenLine end e x judged
        line = taken_line (place_of count) end judged (sym (ap line_read good-line) ∙ told)

        next : HeldGood levels h x (next_line levels c h f.rows (drop at s))
        next = held_good levels h (next_line levels c h f.rows (drop at s)) (next_by_word ∙ line.judged)

        past_line_feed : e ≡ at + suc (length (line_in (drop at s)))
        past_line_feed =
            let has = taken_word levels c h (lines_held records count) v (drop found.end s) line.judged in
            let same = line_past_word levels c.grammar h (lines_held records count) s at v is_listed found.end past has in
            let ends = line.where_it_ends in
            omega arith

        -- less text is left
        pub text_falls : length s - e < length s - at
        text_falls = omega (arith, past_line_feed)

        closed_text : Past (drop at s)
        closed_text = past_line (drop at s) (taken_closed levels c h tested (drop at s) (sym next_judged ∙ next.judged))

        left_text : after_line (drop at s) ≡ drop e s
        left_text = closed_text.after ∙ drop-drop (suc (length (line_in (drop at s)))) at s ∙ ap (λ (n : ℕ). drop n s) (sym past_line_feed)

        -- there is room for a line that is taken
        below : count < c.limit
        below =
            let room = (has_room c tested (line_in (drop at s)) (subst (λ (u : Bool). T (not u)) (sym within_limits) tt)).few in
            omega (arith, tested_held)

        pub line_room : count < 1792
        line_room = omega (arith, f.small, below)

        pub kept_room : kept < 1792
        kept_room = omega (arith, line_room, lines_held_lem, f.counted, kept_most (lines_held records count))

        module _ (kept' : ℕ) (counted : kept' ≡ kept_with kept (has_word Circuit m.held.word)) where
          lines_more : lines_held (set records count m.held) (count + 1) ≡ lines_held records count ++ (x ∷ [])
          lines_more = stored_lines records count m.held x (omega (arith, line_room, f.long)) refl

          kept_as_lem : kept_count (lines_held records count ++ (x ∷ [])) ≡ kept_with kept (has_word Circuit m.held.word)
          kept_as_lem =
              kept_more (lines_held records count) x
              ∙ ap₂ (λ (k : ℕ) (w : Word). kept_with k (has_word Circuit w)) (sym f.counted) (record_word m.held)

          -- a line that is taken, stored
          pub line_stored : Filling levels c h s start (set records count m.held) (count + 1) kept' e
          line_stored =
              record {
                ranged = f.ranged;
                small = f.small;
                few = omega (arith, below);
                long = length-set records count m.held ∙ f.long;
                free = stored_free h records count m.held f.free;
                counted = counted ∙ sym kept_as_lem ∙ ap kept_count (sym lines_more);
                within = omega (arith, past_line_feed, closed_text.within, length-drop at s);
                rows = f.rows ++ (next.row ∷ []);
                stored =
                    lines_more ∙ ap₂ (λ (l : List Line) (x : Line). l ++ (x ∷ [])) f.stored (sym next.held)
                    ∙ sym (map-append (held_as levels h) f.rows (next.row ∷ []));
                left =
                    ap (λ (t : Bytes). rest_from levels c h (f.rows ++ (next.row ∷ [])) (lines_of t)) (sym left_text)
                    ∙ sym (reading ∙ ap (λ (j : Judgement Listed). Rows.at (place_of count) j after) next.judged);
              }

pub ruleset filling_laws =
    (rules, begin, found_formed, header_ranged, rest_free, still_long, few_lines, all_read, too_many_lem, line_refused, line_room, filled_table, filled_refused)
