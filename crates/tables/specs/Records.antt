-- A table's records as the code holds them: a word and three numbers of 16 bits each, the word's fields, 0 where it has none; a constant number
-- takes two. A record of no word holds no line: it is free.
use Rattle.std.specs.Prelude.{ℕ, ◌+◌, ◌*◌, ◌/◌, ◌%◌, Bool, cond, not, ◌&&◌, List, [], ◌∷◌, map, ℤ, pos, ◌+ℤ◌, ◌-ℤ◌, get_or, take, replicate}
use Rattle.ints.specs.Parts.{positive}
use Rattle.model.specs.declared.Header.{Header}
use Rattle.model.specs.declared.Line.{Line}
use Rattle.model.specs.declared.Grammar.TheVariants.{Circuit, Schedule}
use Rattle.model.specs.declared.Word.{Word}
use Rattle.model.specs.declared.Word.TheVariants.{Const, Rot, NoWord}
use Rattle.model.specs.Words.{has_word}
use Rattle.model.specs.Numbering.{order, same_word}
use Rattle.model.specs.Files as Files
use Rattle.model.specs.Files.{said, nth, word_of}
use Rattle.text.specs.Tables.{Table, TableFormed}
use Rattle.tables.specs.declared.Record.{Record}

-- a rotation's amount is held as a number that is not below zero: 32,768 more
unfoldable pub amount_from : ℕ → ℤ
amount_from n = pos n -ℤ pos 32768

unfoldable pub amount_to : ℤ → ℕ
amount_to t = positive (t +ℤ pos 32768)

-- the words' numbers: in document 01's order from 1; 0 is no word's
abbrev pub word_number : Word → ℕ
word_number w = cond (has_word Schedule w) (order w + 1) 0

-- "striking out the encode, rescale, modswitch and upscale lines": whether a word is a schedule's own, and whether a line's is
abbrev pub struck_word : Word → Bool
struck_word w = has_word Schedule w && not (has_word Circuit w)

abbrev pub is_struck : Line → Bool
is_struck x = struck_word (word_of x)

-- a word's first field, by the first two numbers after it: a constant number has 32 bits and is held as its lower 16, then its higher
abbrev pub first_held : Word → ℕ → ℕ → ℤ
first_held w a b = pos (cond (same_word w Const) (a + 65536 * b) a)

-- its second field, by the second of those numbers
abbrev pub second_held : Word → ℕ → ℤ
second_held w b = cond (same_word w Rot) (amount_from b) (pos b)

-- the line of a word and the three numbers after it
abbrev pub line_with : Word → ℕ → ℕ → ℕ → Line
line_with w a b c = Files.line_of w (first_held w a b ∷ second_held w b ∷ pos c ∷ [])

-- the record of a word and three numbers, and the record that holds a line
abbrev pub record_with : Word → ℕ → ℕ → ℕ → Record
record_with w a b c = record { word = w; first = a; second = b; third = c }

abbrev pub record_of : Line → Record
record_of x =
    let w = word_of x in
    let ns = (said x).numbers in
    let first = nth ns 0 in
    let second = cond (same_word w Rot) (amount_to (get_or ns 1 (pos 0))) (nth ns 1) in
    cond (same_word w Const) (record_with w (first % 65536) (first / 65536) 0) (record_with w first second (nth ns 2))

-- the line that a record holds
unfoldable pub line_of : Record → Line
line_of r = line_with r.word r.first r.second r.third

abbrev pub lines_of : List Record → List Line
lines_of records = map line_of records

-- the lines of the first `count` records
abbrev pub lines_held : List Record → ℕ → List Line
lines_held records count = take count (lines_of records)

-- "a table of 1,792 line records, all free"
abbrev pub free_record : Record
free_record = record_with NoWord 0 0 0

abbrev pub free_records : List Record
free_records = replicate 1792 free_record

-- the table of these records, of which so many are used
abbrev pub held : Header → List Record → ℕ → Table
held header records count = record { header = header; lines = lines_of records; count = count }

-- the records of a well-formed schedule, under some header
pub record IsSchedule (records : List Record) (count : ℕ) : Type 0 where
  pub header : Header
  pub formed : TableFormed Schedule (held header records count)
