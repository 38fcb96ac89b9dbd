-- What the code uses: the line that a text begins with, in a file that counts levels so.
use Rattle.std.specs.Prelude.{Result, Ok, Err, ℕ, Bool, false, cond, ◌||◌, List, eqb, ℤ, pos, ◌-ℤ◌}
use Rattle.std.proofs.Math.Option.{map}
use Rattle.std.specs.Int.Signed.{lt_z}
use Rattle.fields.specs.Pieces.{Bytes}
use Rattle.rows.specs.Forms.{Form, worded, made}
use Rattle.rows.specs.Rows.{Judgement, good, bad, Tests, formed}
use Rattle.model.specs.declared.Grammar.{Grammar}
use Rattle.model.specs.declared.Fault.TheVariants.{NumberOutOfRange}
use Rattle.model.specs.declared.Header.{Header}
use Rattle.model.specs.declared.Line.{Line}
use Rattle.model.specs.declared.Line.TheVariants.{Rs}
use Rattle.model.specs.declared.Refusal.{Refusal}
use Rattle.model.specs.Words.{has_word}
use Rattle.model.specs.Files.{line_tests}
use Rattle.listings.specs.declared.Levels.{Levels}
use Rattle.listings.specs.declared.Levels.TheVariants.{Falling, Rising}
use Rattle.listings.specs.Listings.{Listed, line, downscale, ListedWord, word_fields, said_listed, listed_of, as_schedules}
use Rattle.listings.specs.Held.{held_line}
use Rattle.forms.specs.Along.{line_in, is_closed, numbers_in}
use Rattle.forms.specs.declared.FieldsAsked.{FieldsAsked}
use Rattle.forms.specs.Asked.{Asked, described}
use Rattle.words.specs.declared.WordRow.{WordRow}
use Rattle.words.specs.Words.{vocabulary_of, held_word}

-- ---- a line that was read
-- as a table holds it, and the schedule's line that its tests are of
abbrev pub held_as : Levels → Header → Listed → Line
held_as Rising h x = held_line h x
held_as Falling h (line x) = x
held_as Falling h (downscale a) = Rs a 0

abbrev pub tested_as : Levels → Header → Listed → Line
tested_as Rising h x = as_schedules h x
tested_as Falling h (line x) = x
tested_as Falling h (downscale a) = Rs a 1

abbrev pub listed_tests : Levels → Grammar → Header → List Line → Listed → Tests
listed_tests levels g h done x = line_tests g h done (tested_as levels h x)

abbrev pub line_form_of : Levels → Form Listed
line_form_of levels = made (λ s. listed_of s.word s.numbers) said_listed (worded (vocabulary_of levels))

-- as it is held, by its tests
abbrev pub judgement_held : Levels → Header → Judgement Listed → Judgement Line
judgement_held levels h (good x) = good (held_as levels h x)
judgement_held levels h (bad n) = bad n

-- ---- its numbers as the code reads them
-- whether a line with so many fields has a level that is counted up
unfoldable pub turns_level : Levels → ℕ → Bool
turns_level Falling fields = false
turns_level Rising fields = eqb fields 3

-- what a word's row asks of its fields, in a file with this top level
abbrev pub fields_asked : Bool → WordRow → ℕ → FieldsAsked
fields_asked turns row top =
    record { count = row.fields; operands = row.operands; least = cond turns (pos 0) row.least; largest = row.largest; third = top }

abbrev pub asked_by : Bool → WordRow → ℕ → List Asked
asked_by turns row top = described (fields_asked turns row top)

-- the third number as it is held, in a line with this place
unfoldable pub level_held : ℕ → Bool → ℕ → ℤ → ℤ → Result ℤ Refusal
level_held place turns top second third =
    cond turns
    (cond (lt_z second (pos 1) || lt_z (pos top -ℤ third) (pos 1)) (Err (record { fault = NumberOutOfRange; place = place })) (Ok (pos top -ℤ third)))
    (Ok third)

-- ---- the line
-- one whose word ends here, after lines that are held: 1 where the file has no such word
unfoldable pub word_judged : Levels → Grammar → Header → List Line → ListedWord → Bytes → Judgement Line
word_judged levels g h done v t =
    cond (has_word g (held_word v))
    (judgement_held levels h (formed (map (listed_of v) (numbers_in (word_fields v) t)) (listed_tests levels g h done))) (bad 1)

-- the line that a text begins with, after lines that tests are of: 1 where no line feed closes it
unfoldable pub line_judged : Levels → Grammar → Header → List Line → Bytes → Judgement Listed
line_judged levels g h done t = cond (is_closed t) (formed ((line_form_of levels).reads (line_in t)) (listed_tests levels g h done)) (bad 1)
