-- Circuits, schedules and schedules for erasing as instances of the laws of rows: a file of the grammar is read back from its text, and a text that
-- reads to a file is the file's text. Assumes nothing.
use Prim.Native.Nat.{suc, ◌+◌, ◌<◌, ◌≤◌}
use native.Mathlib.Omega.{arith}
use mathlib.Core.Path.{◌≡◌, refl, sym, ap, ◌∙◌, subst}
use mathlib.Core.Bool.{Bool, true, false, cond, not, ◌&&◌, ◌||◌}
use mathlib.Core.List.{List, [], ◌∷◌, ◌++◌, append_assoc, append-nil}
use borrow.Author.Tests.{lt-leb}
use lib.Dec.{T, leb, leb→le, le→leb, nleb→lt}
use lib.ListN.{length}
use Rattle.fields.specs.Pieces.{Bytes}
use Rattle.rows.specs.Rows.{good, read_header, read_line, read}
use Rattle.rows.proofs.RowLaws as Rows
use Rattle.rows.proofs.RowLaws.{Passes, RowsFormed, no_row, row, LawfulFormat, ReadsBack}
use Rattle.model.specs.declared.Grammar.TheVariants.{Circuit}
use Rattle.model.specs.declared.Grammar.{Grammar}
use Rattle.model.specs.declared.Header.{Header}
use Rattle.model.specs.declared.Line.{Line}
use Rattle.model.specs.Scales.{header_in_range}
use Rattle.model.specs.Files.{File, word_of, is_word, line_tests, line_formed, lines_formed, well_formed}
use Rattle.model.proofs.Tests.{and_first, and_second, and_both, HeaderFacts, header_facts}
use Rattle.model.proofs.Lists.{length_snoc}
use Rattle.model.proofs.Formed.{LineFacts, line_facts, line_passes, well_header, well_lines}
use Rattle.text.specs.declared.Context.{Context}
use Rattle.text.specs.Files.{header_word, header_form, line_form, kept_count, begins_kept, too_many, few_enough, format, read_text, file_text}
use Rattle.text.proofs.WordLaws.{header_letters, any_word}
use Rattle.text.proofs.FormLaws.{header_law, header_forth, line_law, line_forth, begins_kept_lem}

-- ---- kept lines are counted line by line
pub kept_append : (xs ys : List Line) → kept_count (xs ++ ys) ≡ kept_count xs + kept_count ys
kept_append [] ys = omega arith
kept_append (x ∷ xs) ys = go (is_word Circuit x) (kept_append xs ys)
  where
    go : (b : Bool) → kept_count (xs ++ ys) ≡ kept_count xs + kept_count ys
        → cond b (suc (kept_count (xs ++ ys))) (kept_count (xs ++ ys)) ≡ cond b (suc (kept_count xs)) (kept_count xs) + kept_count ys
    go true ih = omega arith
    go false ih = ih

pub kept_most : (xs : List Line) → kept_count xs ≤ length xs
kept_most [] = omega arith
kept_most (x ∷ xs) = go (is_word Circuit x) (kept_most xs)
  where
    go : (b : Bool) → kept_count xs ≤ length xs → cond b (suc (kept_count xs)) (kept_count xs) ≤ suc (length xs)
    go true ih = omega arith
    go false ih = omega arith

-- ---- the tests that a line passed, as facts
pub line_tests_lem : (g : Grammar) (h : Header) (before : List Line) (x : Line) → Passes (line_tests g h before x) → LineFacts g h before x
line_tests_lem g h before x t = record { word = t.0; range = t.1.0; usable = t.1.1.0; kinds = t.1.1.1.0 }

facts_pass : (g : Grammar) (h : Header) (before : List Line) (x : Line) → LineFacts g h before x → Passes (line_tests g h before x)
facts_pass g h before x f = (f.word, (f.range, (f.usable, (f.kinds, tt))))

module _ (c : Context) where
  -- ---- room for one more line
  pub record Room (done : List Line) (p : Bytes) : Type 0 where
    pub few : length done < c.limit
    pub kept : T (begins_kept p) → kept_count done < c.keptlimit

  pub has_room : (done : List Line) (p : Bytes) → T (not (too_many c done p)) → Room done p
  has_room done p t =
      record {
        few = nleb→lt c.limit (length done) (first (leb c.limit (length done)) (leb c.keptlimit (kept_count done) && begins_kept p) t);
        kept = λ k. nleb→lt c.keptlimit (kept_count done)
            (second (leb c.limit (length done)) (leb c.keptlimit (kept_count done)) (begins_kept p) t k);
      }
    where
      first : (a b : Bool) → T (not (a || b)) → T (not a)
      first true b t = absurd t
      first false b t = tt

      second : (a b d : Bool) → T (not (a || (b && d))) → T d → T (not b)
      second true b d t u = absurd t
      second false true true t u = absurd t
      second false true false t u = absurd u
      second false false d t u = tt

  -- a line of the grammar, by whether erasing keeps it
  room_is : (done : List Line) (x : Line) → T (is_word c.grammar x) → length done < c.limit → kept_count (done ++ (x ∷ [])) ≤ c.keptlimit
      → T (not (too_many c done (line_form.text x)))
  room_is done x w few kept =
      subst (λ (b : Bool). T (not (b || (leb c.keptlimit (kept_count done) && begins_kept (line_form.text x))))) (sym (lt-leb c.limit (length done) few))
      (subst (λ (b : Bool). T (not (leb c.keptlimit (kept_count done) && b))) (sym (begins_kept_lem x (any_word c.grammar (word_of x) w))) (go (is_word Circuit x) refl))
    where
      no_second : (b : Bool) → T (not (b && false))
      no_second true = tt
      no_second false = tt

      go : (b : Bool) → is_word Circuit x ≡ b → T (not (leb c.keptlimit (kept_count done) && b))
      go false e = no_second (leb c.keptlimit (kept_count done))
      go true e =
          let one : kept_count (x ∷ []) ≡ 1 = ap (λ (b : Bool). cond b 1 0) e in
          let all = kept_append done (x ∷ []) in
          subst (λ (b : Bool). T (not (b && true))) (sym (lt-leb c.keptlimit (kept_count done) (omega arith))) tt

  kept_next : (done : List Line) (x : Line) → T (is_word c.grammar x) → Room done (line_form.text x) → kept_count done ≤ c.keptlimit → kept_count (done ++ (x ∷ [])) ≤ c.keptlimit
  kept_next done x w room kept = go (is_word Circuit x) refl
    where
      go : (b : Bool) → is_word Circuit x ≡ b → kept_count (done ++ (x ∷ [])) ≤ c.keptlimit
      go true e =
          let one : kept_count (x ∷ []) ≡ 1 = ap (λ (b : Bool). cond b 1 0) e in
          let more = room.kept (subst T (sym (begins_kept_lem x (any_word c.grammar (word_of x) w) ∙ e)) tt) in
          omega (arith, kept_append done (x ∷ []))
      go false e = let one : kept_count (x ∷ []) ≡ 0 = ap (λ (b : Bool). cond b 1 0) e in omega (arith, kept_append done (x ∷ []))

  -- ---- the format is lawful, and reads back what passes
  pub lawful : LawfulFormat (format c)
  lawful = record { header = header_law (header_word c.grammar) (header_letters c.grammar); line = line_law }

  reads_back : c.limit ≤ 1792 → ReadsBack (format c)
  reads_back most =
      record {
        header = λ h t. header_forth (header_word c.grammar) (header_letters c.grammar) h t.0;
        line = λ h done x t n.
            let facts = line_tests_lem c.grammar h done x n.passes in
            let few = (has_room done (line_form.text x) n.room).few in
            line_forth h (header_facts h t.0) done x facts.range facts.usable (omega arith) (any_word c.grammar (word_of x) facts.word);
      }

  -- ---- lines of the grammar, few enough, are rows that follow one another
  rows_formed : (h : Header) (done xs : List Line) → T (lines_formed c.grammar h done xs) → length done + length xs ≤ c.limit → kept_count (done ++ xs) ≤ c.keptlimit
      → RowsFormed (format c) h done xs
  rows_formed h done [] t few kept = no_row
  rows_formed h done (x ∷ xs) t few kept =
      let g = c.grammar in
      let facts = line_facts g h done x (and_first (line_formed g h done x) (lines_formed g h (done ++ (x ∷ [])) xs) t) in
      let all : (done ++ (x ∷ [])) ++ xs ≡ done ++ (x ∷ xs) = append_assoc done (x ∷ []) xs in
      let count = kept_append (done ++ (x ∷ [])) xs in
      let same = ap kept_count all in
      let longer = length_snoc done x in
      row (record { room = room_is done x facts.word (omega arith) (omega arith); passes = facts_pass g h done x facts })
      (rows_formed h (done ++ (x ∷ [])) xs (and_second (line_formed g h done x) (lines_formed g h (done ++ (x ∷ [])) xs) t) (omega arith) (omega arith))

  pub record RowsAre (h : Header) (done xs : List Line) : Type 0 where
    pub formed : T (lines_formed c.grammar h done xs)
    pub few : length done + length xs ≤ c.limit
    pub kept : kept_count (done ++ xs) ≤ c.keptlimit

  pub rows_are : {h : Header} {done xs : List Line} → RowsFormed (format c) h done xs → length done ≤ c.limit → kept_count done ≤ c.keptlimit → RowsAre h done xs
  rows_are {done = done} no_row few kept = record { formed = tt; few = omega arith; kept = subst (λ (l : List Line). kept_count l ≤ c.keptlimit) (sym (append-nil done)) kept }
  rows_are {h} {done} (row {x = x} {xs = xs} n more) few kept =
      let g = c.grammar in
      let facts = line_tests_lem g h done x n.passes in
      let room = has_room done (line_form.text x) n.room in
      let longer = length_snoc done x in
      let low = room.few in
      let rest = rows_are more (omega arith) (kept_next done x facts.word room kept) in
      let left = rest.few in
      record {
        formed = and_both (line_formed g h done x) (lines_formed g h (done ++ (x ∷ [])) xs) (line_passes g h done x facts) rest.formed;
        few = omega arith;
        kept = subst (λ (l : List Line). kept_count l ≤ c.keptlimit) (append_assoc done (x ∷ []) xs) rest.kept;
      }

  -- ---- one line, and the header line
  pub record LineBack (h : Header) (before : List Line) (p : Bytes) (x : Line) : Type 0 where
    pub facts : LineFacts c.grammar h before x
    pub room : Room before p
    pub written : line_form.text x ≡ p

  pub line_read_written : (h : Header) (before : List Line) (p : Bytes) {x : Line} → read_line (format c) h before p ≡ good x → LineBack h before p x
  line_read_written h before p {x} e =
      let b = Rows.line_read_written (format c) lawful h before p e in
      record {
        facts = line_tests_lem c.grammar h before x b.follows.passes;
        room = subst (Room before) b.written (has_room before (line_form.text x) b.follows.room);
        written = b.written;
      }

  pub record HeaderBack (p : Bytes) (h : Header) : Type 0 where
    pub facts : HeaderFacts h
    pub written : (header_form c.grammar).text h ≡ p

  pub header_read_written : (p : Bytes) {h : Header} → read_header (format c) p ≡ good h → HeaderBack p h
  header_read_written p {h} e =
      let b = Rows.header_read_written (format c) lawful p e in
      record { facts = header_facts h b.passes.0; written = b.written }

-- ---- a whole file
pub file_written_read : (c : Context) (f : File) → c.limit ≤ 1792 → T (well_formed c.grammar f.header f.lines) → T (few_enough c f.lines)
    → read_text c (file_text c.grammar f) ≡ read f
file_written_read c f most t few =
    let length_fits = leb→le (length f.lines) c.limit (and_first (leb (length f.lines) c.limit) (leb (kept_count f.lines) c.keptlimit) few) in
    let kept_fits = leb→le (kept_count f.lines) c.keptlimit (and_second (leb (length f.lines) c.limit) (leb (kept_count f.lines) c.keptlimit) few) in
    Rows.file_written_read (format c) (lawful c) (reads_back c most) f
    (record {
      header = (well_header c.grammar f.header f.lines t, tt);
      rows = rows_formed c f.header [] f.lines (well_lines c.grammar f.header f.lines t) (omega arith) kept_fits;
      whole = tt;
    })

pub record FileBack (c : Context) (text : Bytes) (f : File) : Type 0 where
  pub formed : T (well_formed c.grammar f.header f.lines)
  pub few : T (few_enough c f.lines)
  pub written : file_text c.grammar f ≡ text

pub file_read_written : (c : Context) (text : Bytes) {f : File} → read_text c text ≡ read f → FileBack c text f
file_read_written c text {f} e =
    let b = Rows.file_read_written (format c) (lawful c) text e in
    let are = rows_are c b.formed.rows (omega arith) (omega arith) in
    record {
      formed = and_both (header_in_range f.header) (lines_formed c.grammar f.header [] f.lines) b.formed.header.0 are.formed;
      few = and_both (leb (length f.lines) c.limit) (leb (kept_count f.lines) c.keptlimit) (le→leb (length f.lines) c.limit (let low = are.few in omega arith))
          (le→leb (kept_count f.lines) c.keptlimit are.kept);
      written = b.written;
    }
