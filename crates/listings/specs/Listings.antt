-- Document 02, Job 2, on texts: "The header word is `rising`, the rest a schedule's grammar", and one word more, "a `ds A` line,
-- downscale".
use Rattle.std.specs.Prelude.{ℕ, ◌-◌, true, List, [], ◌∷◌, ◌++◌, map, ℤ, pos}
use Rattle.ints.specs.Parts.{positive}
use Rattle.fields.specs.Pieces.{Bytes}
use Rattle.rows.specs.Fields.{Holds, operand, ranged, up_to_top, amount}
use Rattle.rows.specs.Forms.{Form, Said, saying, Vocabulary, worded, made}
use Rattle.rows.specs.Rows as Rows
use Rattle.rows.specs.Rows.{Reading, Format, read_file}
use Rattle.model.specs.declared.Grammar.TheVariants.{Schedule}
use Rattle.model.specs.declared.Header.{Header}
use Rattle.model.specs.declared.Line.{Line}
use Rattle.model.specs.declared.Line.TheVariants.{Rs}
use Rattle.model.specs.declared.Word.{Word}
use Rattle.model.specs.Scales.{header_in_range}
use Rattle.model.specs.Words.{ascii, entry, words}
use Rattle.model.specs.Files.{nth, said, line_of, word_of, row_of, line_tests}
use Rattle.text.specs.Files.{header_under, too_many, erase_context}

-- ---- lines
-- A line of a listing: one of a schedule's lines, in which the level of an `enc` counts up from 0; or `ds A`.
pub data Listed : Type 0 where
  line : Line → Listed
  downscale : ℕ → Listed

-- A listing: its header's numbers and its lines.
abbrev pub Listing : Type 0
Listing = Rows.File Header Listed

-- the words: those of a schedule, and `ds`
pub data ListedWord : Type 0 where
  word : Word → ListedWord
  ds : ListedWord

abbrev pub word_bytes : ListedWord → Bytes
word_bytes (word w) = (entry w).bytes
word_bytes ds = ascii "ds"

abbrev pub word_fields : ListedWord → List Holds
word_fields (word w) = (entry w).fields
word_fields ds = operand ∷ []

abbrev pub vocabulary : Vocabulary ListedWord
vocabulary = record { words = map word words ++ (ds ∷ []); bytes = word_bytes; fields = word_fields }

-- a line's word and the numbers in the fields after it, and the line of these
abbrev pub said_listed : Listed → Said ListedWord
said_listed (line x) = saying (word (word_of x)) (said x).numbers
said_listed (downscale a) = saying ds (pos a ∷ [])

abbrev pub listed_of : ListedWord → List ℤ → Listed
listed_of (word w) ns = line (line_of w ns)
listed_of ds ns = downscale (nth ns 0)

abbrev pub listed_form : Form Listed
listed_form = made (λ s. listed_of s.word s.numbers) said_listed (worded vocabulary)

abbrev pub rising_form : Form Header
rising_form = header_under (ascii "rising")

-- ---- levels counted the other way
-- "In `enc`, level E becomes L − E": the number of a field that holds a level, and each other as it is
abbrev pub turned_number : ℕ → Holds → ℤ → ℤ
turned_number top operand n = n
turned_number top (ranged low high) n = n
turned_number top up_to_top n = pos (top - positive n)
turned_number top (amount most) n = n

abbrev pub turned_numbers : ℕ → List Holds → List ℤ → List ℤ
turned_numbers top [] ns = []
turned_numbers top (f ∷ fs) [] = []
turned_numbers top (f ∷ fs) (n ∷ ns) = turned_number top f n ∷ turned_numbers top fs ns

-- a line of a listing as a schedule's, and one of a schedule as a listing's
abbrev pub turned : Header → Line → Line
turned h x = line_of (word_of x) (turned_numbers h.top (row_of x).fields (said x).numbers)

-- ---- reading
-- A line is read as a schedule's that has the same operands, ranges and kind. "the written level runs from 0 to L − 1": E does just where
-- L − E, cut off at 0, is from 1 to L. A `ds A` takes a ciphertext and is one, as an `rs A 1` does.
abbrev pub as_schedules : Header → Listed → Line
as_schedules h (line x) = turned h x
as_schedules h (downscale a) = Rs a 1

abbrev pub as_lines : Header → List Listed → List Line
as_lines h xs = map (as_schedules h) xs

-- "Either way a 257th kept line is 3, as in erase": a `ds` is no kept word
abbrev pub listing_format : Format Header Listed
listing_format =
    record {
      header = rising_form;
      header_tests = λ h. (2, header_in_range h) ∷ [];
      line = listed_form;
      line_tests = λ h done x. line_tests Schedule h (as_lines h done) (as_schedules h x);
      too_many = λ h done p. too_many erase_context (as_lines h done) p;
      whole = λ h lines. true;
    }

-- what a whole text reads to, and the text of a listing
abbrev pub read_listing : Bytes → Reading Listing
read_listing text = read_file listing_format text

abbrev pub listing_text : Listing → Bytes
listing_text file = Rows.file_text rising_form listed_form file
