-- Document 01, "The two files" and "Refused", on texts: circuits, schedules and schedules for erasing, as formats of rows.
use Rattle.std.specs.Prelude.{ℕ, suc, Bool, true, false, cond, ◌&&◌, ◌||◌, List, [], ◌∷◌, leb, ℤ, length, get_or, Option, Some, None}
use Rattle.std.proofs.Math.Option.{none, some}
use Rattle.fields.specs.Pieces.{Bytes, tab, split}
use Rattle.rows.specs.Forms.{Form, titled, either, Vocabulary, named, worded, made}
use Rattle.rows.specs.Rows as Rows
use Rattle.rows.specs.Rows.{Reading, Format, read_file}
use Rattle.model.specs.declared.Grammar.{Grammar}
use Rattle.model.specs.declared.Grammar.TheVariants.{Circuit, Schedule}
use Rattle.model.specs.declared.Header.{Header}
use Rattle.model.specs.declared.Line.{Line}
use Rattle.model.specs.declared.Word.{Word}
use Rattle.model.specs.Scales.{three_fields, header_fields, header_numbers, header_in_range}
use Rattle.model.specs.Words.{ascii, entry, words, has_word}
use Rattle.model.specs.Files.{File, limit, nth, said, line_of, is_word, line_tests}
use Rattle.text.specs.declared.Context.{Context}

-- ---- the header line: "Circuit: header `circuit F W L`", "Schedule: header `schedule F W L`", and H after L where it is given
abbrev pub header_word : Grammar → Bytes
header_word Circuit = ascii "circuit"
header_word Schedule = ascii "schedule"

-- document 02, Job 3: "three numbers mean none"
abbrev pub headroom_of : List ℤ → Option ℕ
headroom_of ns = cond (leb (length ns) 3) None (Some (nth ns 3))

abbrev pub header_of : List ℤ → Header
header_of ns = record { factor = nth ns 0; waterline = nth ns 1; top = nth ns 2; headroom = headroom_of ns }

abbrev pub header_under : Bytes → Form Header
header_under word = made header_of header_numbers (either (titled word three_fields) (titled word header_fields))

abbrev pub header_form : Grammar → Form Header
header_form g = header_under (header_word g)

-- ---- a line: any word of the table; a word that the file does not have fails the line's first test
abbrev pub vocabulary : Vocabulary Word
vocabulary = record { words = words; bytes = λ w. (entry w).bytes; fields = λ w. (entry w).fields }

abbrev pub line_form : Form Line
line_form = made (λ s. line_of s.word s.numbers) said (worded vocabulary)

-- ---- limits
-- how many lines have a circuit's word
abbrev pub kept_count : List Line → ℕ
kept_count [] = 0
kept_count (x ∷ xs) = cond (is_word Circuit x) (suc (kept_count xs)) (kept_count xs)

-- "whose first field is a circuit word": up to the first tab, or all of the line
abbrev pub begins_kept : Bytes → Bool
begins_kept p = elim (named vocabulary words (get_or (split tab p) 0 [])) [ none ↦ false | some w ↦ has_word Circuit w ]

-- "3 more lines than allowed (erase: also the 257th line whose first field is a circuit word, a kept line)"
abbrev pub too_many : Context → List Line → Bytes → Bool
too_many c done p = leb c.limit (length done) || (leb c.keptlimit (kept_count done) && begins_kept p)

-- no more lines than allowed
abbrev pub few_enough : Context → List Line → Bool
few_enough c lines = leb (length lines) c.limit && leb (kept_count lines) c.keptlimit

-- ---- the three kinds of reading
abbrev pub circuit_context : Context
circuit_context = record { grammar = Circuit; limit = limit Circuit; keptlimit = limit Circuit }

abbrev pub schedule_context : Context
schedule_context = record { grammar = Schedule; limit = limit Schedule; keptlimit = limit Schedule }

-- for erasing: a 257th line that would be kept is refused
abbrev pub erase_context : Context
erase_context = record { grammar = Schedule; limit = limit Schedule; keptlimit = limit Circuit }

-- "per line 3, 1, 2 or 11, 4, 5"
abbrev pub format : Context → Format Header Line
format c =
    record {
      header = header_form c.grammar;
      header_tests = λ h. (2, header_in_range h) ∷ [];
      line = line_form;
      line_tests = line_tests c.grammar;
      too_many = λ h done p. too_many c done p;
      whole = λ h lines. true;
    }

-- what a whole text reads to, and the text of a file
abbrev pub read_text : Context → Bytes → Reading File
read_text c text = read_file (format c) text

abbrev pub text_under : Bytes → File → Bytes
text_under word file = Rows.file_text (header_under word) line_form file

abbrev pub file_text : Grammar → File → Bytes
file_text g file = text_under (header_word g) file
