-- Listings as an instance of the laws of rows: a listing is of the form just where its lines are as a schedule's; it is read back from its text, and a
-- text that reads to a listing is the listing's text; and which refusals reading has. Assumes nothing.
use Prim.Native.Nat.{ℕ, ◌≤◌}
use native.Mathlib.Omega.{arith}
use mathlib.Core.Path.{◌≡◌, refl, sym, ap, ◌∙◌, subst}
use mathlib.Core.Bool.{Bool, true, false, not, ◌&&◌, ◌||◌}
use mathlib.Core.List.{List, [], ◌∷◌, ◌++◌, map, map-append}
use mathlib.Core.Option.{Option, none, some}
use lib.Dec.{T, leb, le→leb}
use lib.IntN.{ℤ, pos}
use lib.ListN.{length, get_or, length-map, length-append}
use Rattle.fields.specs.Pieces.{Bytes, line_feed, split, same_bytes}
use Rattle.fields.proofs.Each.{none, one}
use Rattle.rows.specs.Fields.{up_to_top}
use Rattle.rows.specs.Forms.{Said, saying, named, worded}
use Rattle.rows.specs.Lines.{Lines, lines, lines_of}
use Rattle.rows.specs.Rows.{read, refused, read_lines, read_file}
use Rattle.rows.proofs.FieldLaws.{Held, number, Fields, no_field, field, Bounded, all_small, all_short}
use Rattle.rows.proofs.FormLaws.{LawfulForm, Letters, letters_are, said_fields, worded_back, worded_law, worded_forth, made_law, made_forth}
use Rattle.rows.proofs.LineLaws.{pieces, split_lines}
use Rattle.rows.proofs.RowLaws as Rows
use Rattle.rows.proofs.RowLaws.{Passes, RowsFormed, no_row, row, Follows, LawfulFormat, ReadsBack, Numbers}
use Rattle.model.specs.declared.Grammar.TheVariants.{Circuit, Schedule}
use Rattle.model.specs.declared.Header.{Header}
use Rattle.model.specs.declared.Line.{Line}
use Rattle.model.specs.declared.Line.TheVariants.{Enc}
use Rattle.model.specs.declared.Word.{Word}
use Rattle.model.specs.Scales.{header_in_range}
use Rattle.model.specs.Words.{ascii, entry, words, has_word}
use Rattle.model.specs.Numbering.{same_word}
use Rattle.model.specs.Files.{File, said, word_of, row_of, is_word, operands, in_range, is_usable, kind_at, every_usable, line_tests, lines_formed, well_formed}
use Rattle.model.proofs.Tests.{and_first, and_both, HeaderFacts, header_facts}
use Rattle.model.proofs.EveryWord.{every_word_lem, same_word_lem, line_said}
use Rattle.model.proofs.Formed.{usable_below}
use Rattle.text.specs.Files.{line_form, kept_count, begins_kept, few_enough, erase_context, format, file_text}
use Rattle.text.specs.Files as Texts
use Rattle.text.proofs.Statements.Refusals as Reasons
use Rattle.text.proofs.Statements.Refusals.{IsNumber, IsRefusal}
use Rattle.text.proofs.WordLaws.{word_letters, word_of_lem, said_held, said_line}
use Rattle.text.proofs.FormLaws.{header_law, header_forth, line_bounded, begins_kept_lem, is_kept_word}
use Rattle.text.proofs.FileLaws.{line_tests_lem, has_room, lawful, rows_are, file_written_read}
use Rattle.listings.specs.Listings.{Listed, line, downscale, Listing, ListedWord, word, ds, word_bytes, word_fields, vocabulary, said_listed, listed_of, listed_form, rising_form, turned}
use Rattle.listings.specs.Listings.{as_schedules, as_lines, listing_format, read_listing, listing_text}
use Rattle.listings.specs.Held.{held_lines, counted_line}
use Rattle.listings.proofs.Turning.{turned_cases, turned_word, level_below, listed_in_range, counted_lines}

-- ---- the header line
rising_letters : Letters (ascii "rising")
rising_letters = letters_are (ascii "rising") tt

pub rising_law : LawfulForm rising_form
rising_law = header_law (ascii "rising") rising_letters

rising_forth : (h : Header) → T (header_in_range h) → rising_form.reads (rising_form.text h) ≡ some h
rising_forth h r = header_forth (ascii "rising") rising_letters h r

-- ---- the words
pub listed_letters : (w : ListedWord) → Letters (word_bytes w)
listed_letters (word w) = word_letters w
listed_letters ds = letters_are (ascii "ds") tt

abbrev is_named : Word → Option ListedWord → Bool
is_named w none = false
is_named w (some (word v)) = same_word v w
is_named w (some ds) = false

named_listed : (w : Word) → T (has_word Schedule w) → named vocabulary vocabulary.words (entry w).bytes ≡ some (word w)
unfolding named same_bytes
named_listed w t =
    go (named vocabulary vocabulary.words (entry w).bytes) (word_of_lem Schedule (λ v. is_named v (named vocabulary vocabulary.words (entry v).bytes)) tt w t)
  where
    go : (o : Option ListedWord) → T (is_named w o) → o ≡ some (word w)
    go none u = absurd u
    go (some (word v)) u = ap (λ (x : Word). some (word x)) (same_word_lem v w u)
    go (some ds) u = absurd u

named_downscale : named vocabulary vocabulary.words (ascii "ds") ≡ some ds
unfolding named same_bytes
named_downscale = refl

-- no word of a schedule
not_a_word : named Texts.vocabulary words (ascii "ds") ≡ none
unfolding named same_bytes
not_a_word = refl

-- ---- a line
listed_said_lem : (w : ListedWord) {ns : List ℤ} → Fields Held (word_fields w) ns → said_listed (listed_of w ns) ≡ saying w ns
listed_said_lem (word w) held = ap (λ (s : Said Word). saying (word s.word) s.numbers) (said_line w held)
listed_said_lem ds (field (number a) no_field) = refl

pub listed_law : LawfulForm listed_form
listed_law =
    made_law (λ s. listed_of s.word s.numbers) said_listed (worded vocabulary) (λ p s e. listed_said_lem s.word (worded_back vocabulary p e).held)
    (worded_law vocabulary listed_letters)

module _ (h : Header) where
  -- the numbers of a line whose level is turned are as small
  turned_bounded : h.top ≤ 60 → (x : Line) → T (in_range h (turned h x)) → Fields (Bounded 60 1792) (row_of (turned h x)).fields (said (turned h x)).numbers
      → Fields (Bounded 60 1792) (row_of x).fields (said x).numbers
  turned_bounded most =
      turned_cases h (λ x. T (in_range h (turned h x)) → Fields (Bounded 60 1792) (row_of (turned h x)).fields (said (turned h x)).numbers
      → Fields (Bounded 60 1792) (row_of x).fields (said x).numbers) (λ x e t. subst (λ (y : Line). Fields (Bounded 60 1792) (row_of y).fields (said y).numbers) e) enc
    where
      enc : (a s e : ℕ) → T (in_range h (turned h (Enc a s e))) → Fields (Bounded 60 1792) (row_of (turned h (Enc a s e))).fields (said (turned h (Enc a s e))).numbers
          → Fields (Bounded 60 1792) (row_of (Enc a s e)).fields (said (Enc a s e)).numbers
      enc a s e t (field b (field c (field d no_field))) =
          let low = level_below h a s e t in
          let level : Bounded 60 1792 up_to_top (pos e) = record { held = number e; bound = omega arith } in
          field b (field c (field level no_field))

  module _ (facts : HeaderFacts h) (before : List Line) (few : length before ≤ 1792) where
    listed_forth : (x : Listed) → T (is_word Schedule (as_schedules h x)) → T (in_range h (as_schedules h x)) → T (every_usable before (operands (as_schedules h x)))
        → listed_form.reads (listed_form.text x) ≡ some x
    listed_forth (line x) w range usable =
        let is_Is_word = subst (λ (v : Word). T (has_word Schedule v)) (turned_word h x) w in
        let small = every_word_lem (λ w. all_small 60 1792 (entry w).fields) tt (word_of x) in
        let bounded = turned_bounded facts.top.most x range (line_bounded h facts before (turned h x) range usable 1792 few) in
        made_forth (λ s. listed_of s.word s.numbers) said_listed (worded vocabulary) (line x) (ap line (line_said x))
        (worded_forth vocabulary listed_letters (said_listed (line x)) (named_listed (word_of x) is_Is_word) (said_held x) (all_short 60 1792 small bounded))
    listed_forth (downscale a) w range usable =
        let low = usable_below before a (and_first (is_usable (kind_at before a)) true usable) in
        made_forth (λ s. listed_of s.word s.numbers) said_listed (worded vocabulary) (downscale a) refl
        (worded_forth vocabulary listed_letters (saying ds (pos a ∷ [])) named_downscale (field (number a) no_field)
        (one (omega arith) none))

  -- the first field of a line's text
  pub begins_listed : (x : Listed) → T (is_word Schedule (as_schedules h x)) → begins_kept (listed_form.text x) ≡ is_word Circuit (as_schedules h x)
  begins_listed (line x) w =
      begins_kept_lem x (subst (λ (v : Word). T (has_word Schedule v)) (turned_word h x) w) ∙ ap (has_word Circuit) (sym (turned_word h x))
  begins_listed (downscale a) w =
      ap (λ (fields : List Bytes). is_kept_word (named Texts.vocabulary words (get_or fields 0 []))) (said_fields (ascii "ds") (listed_letters ds) (pos a ∷ []))
      ∙ ap is_kept_word not_a_word

-- ---- the format is lawful, and reads back what passes
listing_lawful : LawfulFormat listing_format
listing_lawful = record { header = rising_law; line = listed_law }

reads_back : ReadsBack listing_format
reads_back =
    record {
      header = λ h t. rising_forth h t.0;
      line = λ h done x t n.
          let facts = line_tests_lem Schedule h (as_lines h done) (as_schedules h x) n.passes in
          let few = (has_room erase_context (as_lines h done) (listed_form.text x) n.room).few in
          listed_forth h (header_facts h t.0) (as_lines h done) (omega arith) x facts.word facts.range facts.usable;
    }

-- ---- the lines follow one another just where they do as a schedule's: of a line's bytes it counts only whether they begin with a kept word
abbrev room_for : List Line → Bool → Bool
room_for done b = not (leb 1792 (length done) || (leb 256 (kept_count done) && b))

module _ (h : Header) where
  same_beginning : (done : List Line) (x : Listed) → Passes (line_tests Schedule h done (as_schedules h x))
      → begins_kept (listed_form.text x) ≡ begins_kept (line_form.text (as_schedules h x))
  same_beginning done x t =
      let w = (line_tests_lem Schedule h done (as_schedules h x) t).word in
      begins_listed h x w ∙ sym (begins_kept_lem (as_schedules h x) w)

  follows_as : (done : List Listed) (x : Listed) → Follows listing_format h done x → Follows (format erase_context) h (as_lines h done) (as_schedules h x)
  follows_as done x n = record { room = subst (λ (b : Bool). T (room_for (as_lines h done) b)) (same_beginning (as_lines h done) x n.passes) n.room; passes = n.passes }

  follows_listed : (done : List Listed) (x : Listed) → Follows (format erase_context) h (as_lines h done) (as_schedules h x) → Follows listing_format h done x
  follows_listed done x n =
      let same = sym (same_beginning (as_lines h done) x n.passes) in
      record { room = subst (λ (b : Bool). T (room_for (as_lines h done) b)) same n.room; passes = n.passes }

  rows_as : {done xs : List Listed} → RowsFormed listing_format h done xs → RowsFormed (format erase_context) h (as_lines h done) (as_lines h xs)
  rows_as no_row = no_row
  rows_as {done} (row {x = x} {xs = xs} n more) =
      row (follows_as done x n) (subst (λ (l : List Line). RowsFormed (format erase_context) h l (as_lines h xs)) (map-append (as_schedules h) done (x ∷ [])) (rows_as more))

  rows_listed : (done xs : List Listed) → RowsFormed (format erase_context) h (as_lines h done) (as_lines h xs) → RowsFormed listing_format h done xs
  rows_listed done [] r = no_row
  rows_listed done (x ∷ xs) (row n more) =
      row (follows_listed done x n)
      (rows_listed (done ++ (x ∷ [])) xs (subst (λ (l : List Line). RowsFormed (format erase_context) h l (as_lines h xs)) (sym (map-append (as_schedules h) done (x ∷ []))) more))

-- ---- a whole listing
pub record ListingFacts (l : Listing) : Type 0 where
  pub header : T (header_in_range l.header)
  pub formed : T (well_formed Schedule l.header (as_lines l.header l.lines))
  pub few : length l.lines ≤ 1792
  pub kept : kept_count (as_lines l.header l.lines) ≤ 256
  pub counted : map counted_line (held_lines l.header l.lines) ≡ as_lines l.header l.lines

pub listing_facts : (text : Bytes) {l : Listing} → read_listing text ≡ read l → ListingFacts l
listing_facts text {l} e =
    let h = l.header in
    let b = (Rows.file_read_written listing_format listing_lawful text e).formed in
    let are = rows_are erase_context (rows_as h b.rows) (omega arith) (omega arith) in
    let low = are.few in
    let as_long = length-map l.lines (as_schedules h) in
    record {
      header = b.header.0;
      formed = and_both (header_in_range h) (lines_formed Schedule h [] (as_lines h l.lines)) b.header.0 are.formed;
      few = omega arith;
      kept = are.kept;
      counted = counted_lines h (listed_in_range h [] l.lines are.formed);
    }

pub few_enough_lem : (l : Listing) → ListingFacts l → T (few_enough erase_context (as_lines l.header l.lines))
few_enough_lem l facts =
    let xs = as_lines l.header l.lines in
    let few = facts.few in
    let as_long = length-map l.lines (as_schedules l.header) in
    and_both (leb (length xs) 1792) (leb (kept_count xs) 256) (le→leb (length xs) 1792 (omega arith)) (le→leb (kept_count xs) 256 facts.kept)

pub listing_read_written : (text : Bytes) {l : Listing} → read_listing text ≡ read l → listing_text l ≡ text
listing_read_written text e = (Rows.file_read_written listing_format listing_lawful text e).written

pub listing_written_read : (l : Listing) → T (well_formed Schedule l.header (as_lines l.header l.lines))
    → T (few_enough erase_context (as_lines l.header l.lines)) → read_listing (listing_text l) ≡ read l
listing_written_read l t few =
    let h = l.header in
    let schedule : File = record { header = h; lines = as_lines h l.lines } in
    let back = file_written_read erase_context schedule (omega arith) t few in
    let formed = (Rows.file_read_written (format erase_context) (lawful erase_context) (file_text Schedule schedule) back).formed in
    Rows.file_written_read listing_format listing_lawful reads_back l
    (record { header = formed.header; rows = rows_listed h [] l.lines formed.rows; whole = tt })

-- ---- which refusals reading has
numbers : Numbers listing_format IsNumber
numbers =
    record {
      form = Reasons.form;
      many = Reasons.many;
      header = λ h. one Reasons.header none;
      line = λ h done x. one Reasons.form (one Reasons.range (one Reasons.operand (one Reasons.kind none)));
    }

-- a refusal stands at one of the lines
pub listing_refusal : (text : Bytes) {n place : ℕ} → read_listing text ≡ refused n place → IsRefusal text n place
unfolding read_file
listing_refusal text {n} {place} e = go (lines_of text) (ap length (split_lines text)) e
  where
    go : (l : Lines) → length (split line_feed text) ≡ length (pieces l) → read_lines listing_format l ≡ refused n place → IsRefusal text n place
    go (lines ps rest) count v =
        let a = Rows.refusal listing_format IsNumber numbers ps rest v in
        let last = a.most in
        let long = length-append ps (rest ∷ []) in
        record { number = a.number; first = a.least; last = omega arith }

pub listing_refused : (text : Bytes) {n place : ℕ} → read_listing text ≡ refused n place → (n ≡ 11 → ⊥) → (1 ≤ n) × (n ≤ 5)
listing_refused text e other = go (listing_refusal text e).number other
  where
    go : {n : ℕ} → IsNumber n → (n ≡ 11 → ⊥) → (1 ≤ n) × (n ≤ 5)
    go Reasons.form other = (omega arith, omega arith)
    go Reasons.header other = (omega arith, omega arith)
    go Reasons.many other = (omega arith, omega arith)
    go Reasons.operand other = (omega arith, omega arith)
    go Reasons.kind other = (omega arith, omega arith)
    go Reasons.range other = absurd (other refl)
