-- A text has at most 72 bytes a line and 97 in its header line, whatever numbers these have. Assumes nothing.
use Rattle.std.specs.Prelude.{Option, Some, None}
use Prim.Native.Nat.{ℕ, ◌+◌, ◌*◌, ◌≤◌}
use native.Mathlib.Omega.{arith}
use mathlib.Core.Bool.{◌&&◌}
use mathlib.Core.List.{List, [], ◌∷◌, map}
use lib.Dec.{leb, leb→le}
use lib.IntN.{pos}
use lib.ListN.{length, length-map}
use Rattle.fields.specs.Pieces.{Bytes}
use Rattle.fields.proofs.Each.{Each, none, one}
use Rattle.rows.specs.Forms.{said_text}
use Rattle.rows.specs.Lines.{text_of}
use Rattle.rows.specs.Rows as Rows
use Rattle.rows.proofs.FieldLaws.{fields_length}
use Rattle.rows.proofs.LengthLaws as Lengths
use Rattle.rows.proofs.LengthLaws.{said_most, text_length}
use Rattle.model.specs.declared.Line.{Line}
use Rattle.model.specs.Scales.{headroom_numbers, header_numbers}
use Rattle.model.specs.Words.{entry}
use Rattle.model.specs.Files.{File, word_of, row_of, said}
use Rattle.model.proofs.Tests.{and_first, and_second}
use Rattle.model.proofs.EveryWord.{every_word_lem}
use Rattle.text.specs.Files.{header_under, line_form, text_under}
use Rattle.text.proofs.WordLaws.{said_held}

-- ---- lines: a word has at most 5 bytes and 3 fields
line_most : (x : Line) → length (line_form.text x) ≤ 71
line_most x =
    let test = every_word_lem (λ w. leb (length (entry w).bytes) 5 && leb (length (entry w).fields) 3) tt (word_of x) in
    let bytes = leb→le (length (row_of x).bytes) 5 (and_first (leb (length (row_of x).bytes) 5) (leb (length (row_of x).fields) 3) test) in
    let fields = leb→le (length (row_of x).fields) 3 (and_second (leb (length (row_of x).bytes) 5) (leb (length (row_of x).fields) 3) test) in
    let count = fields_length (said_held x) in
    let most = said_most (row_of x).bytes (said x).numbers in
    omega arith

lines_most : (xs : List Line) → Each (λ p. length p ≤ 71) (map line_form.text xs)
lines_most [] = none
lines_most (x ∷ xs) = one (line_most x) (lines_most xs)

-- ---- the file: a header has at most four numbers
numbers_few : (given : Option ℕ) → length (headroom_numbers given) ≤ 1
numbers_few None = omega arith
numbers_few (Some bits) = omega arith

pub text_most : (word : Bytes) (f : File) → length word ≤ 8 → length (text_under word f) ≤ 97 + 72 * length f.lines
unfolding Rows.file_text
text_most word f short =
    let numbers = said_most word (header_numbers f.header) in
    let few = numbers_few f.header.headroom in
    let lines = Lengths.text_most 71 (lines_most f.lines) in
    let count = length-map f.lines line_form.text in
    omega (arith, text_length ((header_under word).text f.header) (map line_form.text f.lines))

-- the line with which the program refuses
pub two_numbers_most : (word : Bytes) (a b : ℕ) → length (text_of (said_text word (pos a ∷ pos b ∷ []) ∷ [])) ≤ length word + 45
unfolding text_of
two_numbers_most word a b =
    let most = said_most word (pos a ∷ pos b ∷ []) in
    omega (arith, text_length (said_text word (pos a ∷ pos b ∷ [])) [])
