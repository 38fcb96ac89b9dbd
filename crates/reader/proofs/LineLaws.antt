-- The laws by which the reader goes along a text: a line more, and the end. Assumes nothing.
use Prim.Native.Nat.{ℕ, ◌+◌, ◌≤◌}
use native.Mathlib.Omega.{arith}
use mathlib.Core.Path.{◌≡◌, refl, ap, ◌∙◌}
use mathlib.Core.Bool.{Bool, true, false, cond, ◌&&◌, ◌||◌}
use mathlib.Core.List.{List, [], ◌∷◌, ◌++◌, map}
use mathlib.Core.Option
use mathlib.Core.Option.{Option, none, some}
use lib.Dec.{leb}
use lib.IntN.{ℤ}
use lib.ListN.{length, length-map}
use Rattle.fields.specs.Pieces.{Bytes, tab, split}
use Rattle.rows.specs.Fields.{read_fields}
use Rattle.rows.specs.Forms.{Said, saying, named, read_said}
use Rattle.rows.specs.Lines.{Lines, lines, closed, lines_of}
use Rattle.rows.specs.Rows.{place_of, Judgement, good, bad, Reading, read, refused, Tests, judged, formed, onward, at}
use Rattle.rows.specs.Rows.{read_header, read_line, rows_from, ended, read_lines, read_file}
use Rattle.rows.proofs.MapLaws.{mapped_judgement, mapped_reading, Maps, reads_mapped}
use Rattle.model.specs.declared.Grammar.TheVariants.{Circuit}
use Rattle.model.specs.declared.Header.{Header}
use Rattle.model.specs.declared.Line.{Line}
use Rattle.model.specs.declared.Word.{Word}
use Rattle.model.specs.Words.{entry, words, has_word}
use Rattle.model.specs.Files.{File, line_of, is_word, line_tests}
use Rattle.text.specs.declared.Context.{Context}
use Rattle.text.specs.Files.{vocabulary, line_form, kept_count, begins_kept, too_many, format, read_text}
use Rattle.text.proofs.FileLaws.{kept_append}
use Rattle.text.proofs.FormLaws.{is_kept_word}
use Rattle.listings.specs.declared.Levels.{Levels}
use Rattle.listings.specs.declared.Levels.TheVariants.{Falling, Rising}
use Rattle.listings.specs.Listings.{Listed, line, ListedWord, word, word_fields, listed_of, Listing}
use Rattle.listings.specs.Held.{held_reading}
use Rattle.forms.specs.Along.{line_in, is_closed, after_line, field_in}
use Rattle.forms.proofs.WordLaws.{first_piece}
use Rattle.forms.proofs.TextLaws.{lines_closed, lines_open, line_open}
use Rattle.words.specs.Words.{or_no_word, word_in, vocabulary_of, listed_in, held_word}
use Rattle.words.proofs.WordLaws.{named_listed, listed_kept}
use Rattle.headers.specs.Headers.{header_judged}
use Rattle.lines.specs.Lines.{held_as, tested_as, listed_tests, line_form_of, line_judged}
use Rattle.reader.specs.Reads.{past_limits, kept_with, format_of, next_line, rest_from, reading_held, read_by}

-- ---- kept lines
pub kept_more : (done : List Line) (x : Line) → kept_count (done ++ (x ∷ [])) ≡ kept_with (kept_count done) (is_word Circuit x)
kept_more done x = go (is_word Circuit x) (kept_append done (x ∷ []))
  where
    go : (b : Bool) → kept_count (done ++ (x ∷ [])) ≡ kept_count done + cond b 1 0 → kept_count (done ++ (x ∷ [])) ≡ cond b (kept_count done + 1) (kept_count done)
    go true e = e
    go false e = omega arith

-- whether a line would be kept, by the word that it begins with
begins_by_word : (t : Bytes) → begins_kept (line_in t) ≡ has_word Circuit (word_in t)
unfolding word_in
begins_by_word t = ap (λ (f : Bytes). is_kept_word (named vocabulary words f)) (first_piece t) ∙ go (named vocabulary words (field_in t))
  where
    go : (o : Option Word) → is_kept_word o ≡ has_word Circuit (or_no_word o)
    go none = refl
    go (some w) = refl

pub too_many_by : (levels : Levels) (c : Context) (done : List Line) (t : Bytes)
    → too_many c done (line_in t) ≡ past_limits c (length done) (kept_count done) (has_word Circuit (held_word (listed_in levels t)))
unfolding past_limits
too_many_by levels c done t =
    ap (λ (b : Bool). leb c.limit (length done) || (leb c.keptlimit (kept_count done) && b)) (begins_by_word t ∙ listed_kept levels t)

-- ---- the lines
module _ (levels : Levels) (c : Context) (h : Header) where
  -- no text is left
  pub no_line_lem : (done : List Listed) → rest_from levels c h done (lines_of []) ≡ read (record { header = h; lines = done })
  unfolding lines_of rows_from ended
  no_line_lem done = refl

  -- a line that a line feed closes
  next_closed : (done : List Listed) (t : Bytes) → is_closed t ≡ true → read_line (format_of levels c) h done (line_in t) ≡ next_line levels c h done t
  unfolding next_line line_judged read_line
  next_closed done t e = rw e

  closed_line :
      (done : List Listed) (t : Bytes) → is_closed t ≡ true →
      rest_from levels c h done (lines_of t) ≡ at (place_of (length done)) (next_line levels c h done t) (λ x. rest_from levels c h (done ++ (x ∷ [])) (lines_of (after_line t)))
  unfolding rows_from
  closed_line done t e = ap (rest_from levels c h done) (lines_closed t e) ∙ go (lines_of (after_line t))
    where
      on : (j : Judgement Listed) (ps : List Bytes) (rest : Bytes) →
          onward (at (place_of (length done)) j (λ x. rows_from (format_of levels c) h (done ++ (x ∷ [])) ps)) (λ rows. ended (format_of levels c) h rows rest)
          ≡ at (place_of (length done)) j (λ x. onward (rows_from (format_of levels c) h (done ++ (x ∷ [])) ps) (λ rows. ended (format_of levels c) h rows rest))
      on (good x) ps rest = refl
      on (bad n) ps rest = refl

      go : (l : Lines) → rest_from levels c h done (closed (line_in t) l) ≡ at (place_of (length done)) (next_line levels c h done t) (λ x. rest_from levels c h (done ++ (x ∷ [])) l)
      go (lines ps rest) =
          on (read_line (format_of levels c) h done (line_in t)) ps rest
          ∙ ap (λ (j : Judgement Listed). at (place_of (length done)) j (λ x. rest_from levels c h (done ++ (x ∷ [])) (lines ps rest))) (next_closed done t e)

  -- a line that no line feed closes
  open_line :
      (done : List Listed) (t : Bytes) (more : Listed → Reading Listing) → 1 ≤ length t → is_closed t ≡ false →
      rest_from levels c h done (lines_of t) ≡ at (place_of (length done)) (next_line levels c h done t) more
  unfolding next_line line_judged rows_from ended
  open_line done [] more left e = absurd (omega arith)
  open_line done (b ∷ bs) more left e =
      ap (rest_from levels c h done) (lines_open (b ∷ bs) e) ∙ rw (e, line_open (b ∷ bs) e) (go (too_many c (map (tested_as levels h) done) (b ∷ bs)))
    where
      go : (u : Bool) → refused (cond u 3 1) (place_of (length done)) ≡ at (place_of (length done)) (cond u (bad 3) (bad 1)) more
      go true = refl
      go false = refl

  -- the first line, and then those after it
  pub one_line_lem :
      (done : List Listed) (t : Bytes) → 1 ≤ length t →
      rest_from levels c h done (lines_of t) ≡ at (place_of (length done)) (next_line levels c h done t) (λ x. rest_from levels c h (done ++ (x ∷ [])) (lines_of (after_line t)))
  one_line_lem done t left = go (is_closed t) refl
    where
      go : (b : Bool) → is_closed t ≡ b →
          rest_from levels c h done (lines_of t) ≡ at (place_of (length done)) (next_line levels c h done t) (λ x. rest_from levels c h (done ++ (x ∷ [])) (lines_of (after_line t)))
      go true e = closed_line done t e
      go false e = open_line done t (λ x. rest_from levels c h (done ++ (x ∷ [])) (lines_of (after_line t))) left e

-- ---- the header line
pub header_line :
    (levels : Levels) (c : Context) (t : Bytes) → read_file (format_of levels c) t ≡ at 1 (header_judged levels c.grammar t) (λ h. rest_from levels c h [] (lines_of (after_line t)))
unfolding read_file read_lines header_judged
header_line levels c t = go (is_closed t) refl
  where
    go : (b : Bool) → is_closed t ≡ b
        → read_lines (format_of levels c) (lines_of t) ≡ at 1 (cond b (read_header (format_of levels c) (line_in t)) (bad 1)) (λ h. rest_from levels c h [] (lines_of (after_line t)))
    go true e = ap (read_lines (format_of levels c)) (lines_closed t e) ∙ on (lines_of (after_line t))
      where
        on : (l : Lines) → read_lines (format_of levels c) (closed (line_in t) l) ≡ at 1 (read_header (format_of levels c) (line_in t)) (λ h. rest_from levels c h [] l)
        on (lines ps rest) = refl
    go false e = ap (read_lines (format_of levels c)) (lines_open t e)

-- ---- a whole text
-- where levels fall, the lines are those of the grammar
abbrev make_listed : Said ListedWord → Listed
make_listed s = listed_of s.word s.numbers

abbrev make_line : Said Word → Line
make_line s = line_of s.word s.numbers

abbrev listed_said : Said Word → Said ListedWord
listed_said s = saying (word s.word) s.numbers

listed_reads : (p : Bytes) → (line_form_of Falling).reads p ≡ Option.map line (line_form.reads p)
listed_reads p = go (split tab p)
  where
    after : (fields : List Bytes) (o : Option Word) → elim (Option.map word o) [ none ↦ none | some v ↦ Option.map (saying v) (read_fields (word_fields v) fields) ]
        ≡ Option.map listed_said (elim o [ none ↦ none | some w ↦ Option.map (saying w) (read_fields (entry w).fields fields) ])
    after fields none = refl
    after fields (some w) = numbers (read_fields (entry w).fields fields)
      where
        numbers : (o : Option (List ℤ)) → Option.map (saying (word w)) o ≡ Option.map listed_said (Option.map (saying w) o)
        numbers none = refl
        numbers (some ns) = refl

    made_so : (o : Option (Said Word)) → Option.map make_listed (Option.map listed_said o)
        ≡ Option.map line (Option.map make_line o)
    made_so none = refl
    made_so (some s) = refl

    go : (fields : List Bytes) → Option.map make_listed (read_said (vocabulary_of Falling) fields)
        ≡ Option.map line (Option.map make_line (read_said vocabulary fields))
    go [] = refl
    go (field ∷ fields) =
        ap (Option.map make_listed)
        (ap (λ (o : Option ListedWord). elim o [ none ↦ none | some v ↦ Option.map (saying v) (read_fields (word_fields v) fields) ]) (named_listed Falling words field)
        ∙ after fields (named vocabulary words field))
        ∙ made_so (read_said vocabulary (field ∷ fields))

module _ (c : Context) where
  lines_same : (h : Header) (done : List Line) → map (tested_as Falling h) (map line done) ≡ done
  lines_same h [] = refl
  lines_same h (x ∷ done) = ap (λ (l : List Line). x ∷ l) (lines_same h done)

  judged_line : (ts : Tests) (x : Line) → judged ts (line x) ≡ mapped_judgement line (judged ts x)
  judged_line [] x = refl
  judged_line ((n, true) ∷ more) x = judged_line more x
  judged_line ((n, false) ∷ more) x = refl

  falling_lines : Maps (format c) (format_of Falling c) line
  unfolding read_line ended
  falling_lines = record { header = λ p. refl; line = same_line_lem; end = same_end }
    where
      formed_line : (h : Header) (done : List Line) (o : Option Line)
          → formed (Option.map line o) (listed_tests Falling c.grammar h done) ≡ mapped_judgement line (formed o (line_tests c.grammar h done))
      formed_line h done none = refl
      formed_line h done (some x) = judged_line (line_tests c.grammar h done x) x

      limited : (b : Bool) {j : Judgement Listed} (k : Judgement Line) → j ≡ mapped_judgement line k → cond b (bad 3) j ≡ mapped_judgement line (cond b (bad 3) k)
      limited true k e = refl
      limited false k e = e

      same_line_lem : (h : Header) (done : List Line) (p : Bytes) → read_line (format_of Falling c) h (map line done) p ≡ mapped_judgement line (read_line (format c) h done p)
      same_line_lem h done p =
          ap (λ (l : List Line). cond (too_many c l p) (bad 3) (formed ((line_form_of Falling).reads p) (listed_tests Falling c.grammar h l))) (lines_same h done)
          ∙ limited (too_many c done p) (formed (line_form.reads p) (line_tests c.grammar h done))
          (ap (λ (o : Option Listed). formed o (listed_tests Falling c.grammar h done)) (listed_reads p) ∙ formed_line h done (line_form.reads p))

      same_end : (h : Header) (done : List Line) (rest : Bytes) → ended (format_of Falling c) h (map line done) rest ≡ mapped_reading line (ended (format c) h done rest)
      same_end h done [] = refl
      same_end h done (b ∷ bs) =
          ap (λ (l : List Line). refused (cond (too_many c l (b ∷ bs)) 3 1) (place_of (length (map line done)))) (lines_same h done)
          ∙ ap (λ (n : ℕ). refused (cond (too_many c done (b ∷ bs)) 3 1) (place_of n)) (length-map done line)

held_lines_lem : (h : Header) (xs : List Line) → map (held_as Falling h) (map line xs) ≡ xs
held_lines_lem h [] = refl
held_lines_lem h (x ∷ xs) = ap (λ (l : List Line). x ∷ l) (held_lines_lem h xs)

pub read_by_lem : (levels : Levels) (c : Context) (t : Bytes) → reading_held levels (read_file (format_of levels c) t) ≡ read_by levels c t
read_by_lem Falling c t = ap (reading_held Falling) (reads_mapped (format c) (format_of Falling c) line (falling_lines c) t) ∙ go (read_text c t)
  where
    go : (r : Reading File) → reading_held Falling (mapped_reading line r) ≡ r
    go (read f) = ap (λ (l : List Line). read (record { header = f.header; lines = l })) (held_lines_lem f.header f.lines)
    go (refused n place) = refl
read_by_lem Rising c t = go (read_file (format_of Rising c) t)
  where
    go : (r : Reading Listing) → reading_held Rising r ≡ held_reading r
    go (read l) = refl
    go (refused n place) = refl
