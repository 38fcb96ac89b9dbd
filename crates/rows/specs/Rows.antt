-- Every file is rows: a header line, then one closed line after another, each read with the rows before it at hand.
use Rattle.std.specs.Prelude.{ℕ, ◌+◌, Bool, cond, List, [], ◌∷◌, ◌++◌, map, length}
use Rattle.std.proofs.Math.Option.{Option, none, some}
use Rattle.fields.specs.Pieces.{Bytes}
use Rattle.rows.specs.Forms.{Form}
use Rattle.rows.specs.Lines.{Lines, lines, lines_of, text_of}

-- "A value number counts the lines after the header from 0. A place counts all text lines from 1, so value n stands at place n + 2."
abbrev pub place_of : ℕ → ℕ
place_of n = n + 2

-- What a line comes to: a row, or a refusal's number. Its place is where it stands.
pub data Judgement (A : Type 0) : Type 0 where
  good : A → Judgement A
  bad : ℕ → Judgement A

-- What a text comes to: what was read, or a refusal's number and place.
pub data Reading (A : Type 0) : Type 0 where
  read : A → Reading A
  refused : ℕ → ℕ → Reading A

-- tests in the order in which they are asked, each with the number of the refusal where it fails
abbrev pub Tests : Type 0
Tests = List (ℕ × Bool)

module _ {A : Type 0} where
  -- the number of the first test that fails
  abbrev pub judged : Tests → A → Judgement A
  judged [] x = good x
  judged ((n, passes) ∷ more) x = cond passes (judged more x) (bad n)

  -- "1 text not of the form.", before all tests
  abbrev pub formed : Option A → (A → Tests) → Judgement A
  formed none tests = bad 1
  formed (some x) tests = judged (tests x) x

-- what was read is handed on, and a refusal stays, at the place that it has or at this place
abbrev pub onward : {A B : Type 0} → Reading A → (A → Reading B) → Reading B
onward (read x) more = more x
onward (refused n place) more = refused n place

abbrev pub at : {A B : Type 0} → ℕ → Judgement A → (A → Reading B) → Reading B
at place (good x) more = more x
at place (bad n) more = refused n place

-- A kind of file, whose header line gives an H and each line an A: the two forms; the tests after each form, a line's with the rows before
-- it at hand; which line is one too many; and whether no line is missing at the end.
pub record Format (H A : Type 0) : Type 0 where
  pub header : Form H
  pub header_tests : H → Tests
  pub line : Form A
  pub line_tests : H → List A → A → Tests
  pub too_many : H → List A → Bytes → Bool
  pub whole : H → List A → Bool

-- A file: what its header line gives, and its lines.
pub record File (H A : Type 0) : Type 0 where
  pub header : H
  pub lines : List A

module _ {H A : Type 0} (f : Format H A) where
  abbrev pub read_header : Bytes → Judgement H
  read_header p = formed (f.header.reads p) f.header_tests

  -- one closed line: "per line 3, 1, …"
  unfoldable pub read_line : H → List A → Bytes → Judgement A
  read_line h done p = cond (f.too_many h done p) (bad 3) (formed (f.line.reads p) (f.line_tests h done))

  -- closed lines, after the rows `done`
  unfoldable pub rows_from : H → List A → List Bytes → Reading (List A)
  rows_from h done [] = read done
  rows_from h done (p ∷ ps) = at (place_of (length done)) (read_line h done p) (λ x. rows_from h (done ++ (x ∷ [])) ps)

  -- what stands after the last line feed: nothing, where no line is missing; else a line that is not closed, 1, or one too many, 3
  unfoldable pub ended : H → List A → Bytes → Reading (File H A)
  ended h done [] = cond (f.whole h done) (read (record { header = h; lines = done })) (refused 1 (place_of (length done)))
  ended h done (b ∷ bs) = refused (cond (f.too_many h done (b ∷ bs)) 3 1) (place_of (length done))

  -- the header line, which must be there, and what follows it
  unfoldable pub read_lines : Lines → Reading (File H A)
  read_lines (lines [] rest) = refused 1 1
  read_lines (lines (p ∷ ps) rest) = at 1 (read_header p) (λ h. onward (rows_from h [] ps) (λ rows. ended h rows rest))

  -- a whole text
  unfoldable pub read_file : Bytes → Reading (File H A)
  read_file text = read_lines (lines_of text)

-- the text of a file whose header line and lines have these forms
unfoldable pub file_text : {H A : Type 0} → Form H → Form A → File H A → Bytes
file_text header line file = text_of (header.text file.header ∷ map line.text file.lines)
