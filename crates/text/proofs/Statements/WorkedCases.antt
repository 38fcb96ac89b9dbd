-- Texts of a few lines and what they read to, the limits of numbers on both sides, and where a text has two faults the one that is told. The first two
-- are written byte by byte. The program `storedtexts` tries more such texts on the code, all byte by byte.
use Rattle.std.specs.Prelude.{Some, None}
use Prim.Native.Nat.{ℕ}
use mathlib.Core.Path.{◌≡◌}
use mathlib.Core.List.{List, [], ◌∷◌, ◌++◌, map}
use lib.IntN.{pos, negsuc}
use lib.ListN.{replicate}
use Rattle.fields.specs.Pieces.{Bytes, tab, join}
use Rattle.fields.specs.Numbers.{decimal, amount_text}
use Rattle.model.specs.declared.Grammar.{Grammar}
use Rattle.model.specs.declared.Grammar.TheVariants.{Circuit, Schedule}
use Rattle.model.specs.declared.Header.{Header}
use Rattle.model.specs.declared.Line as Lines
use Rattle.model.specs.declared.Line.{Line}
use Rattle.model.specs.declared.Word.{Word}
use Rattle.model.specs.declared.Word.TheVariants.{In, Const, Neg, Rot, Add, Mul, Out, Enc, Rs, Ms, Us}
use Rattle.model.specs.Words.{entry}
use Rattle.model.specs.Files.{File}
use Rattle.rows.specs.Lines.{text_of}
use Rattle.rows.specs.Rows.{Reading, read, refused, rows_from}
use Rattle.text.specs.declared.Context.{Context}
use Rattle.text.specs.Files.{header_word, line_form, format, read_text, file_text, circuit_context, schedule_context, erase_context}

-- fields as a closed line, and a word's bytes
abbrev fields_text : List Bytes → Bytes
fields_text fields = text_of (join tab fields ∷ [])

abbrev word_text : Word → Bytes
word_text w = (entry w).bytes

abbrev header : Grammar → Bytes
header g = fields_text (header_word g ∷ decimal 60 ∷ decimal 20 ∷ decimal 2 ∷ [])

abbrev numbers : Header
numbers = record { factor = 60; waterline = 20; top = 2; headroom = None }

-- after the header `circuit 60 20 2`, and after `schedule 60 20 2`
abbrev circuit : Bytes → Reading File
circuit lines = read_text circuit_context (header Circuit ++ lines)

abbrev schedule : Bytes → Reading File
schedule lines = read_text schedule_context (header Schedule ++ lines)

abbrev erasing : Bytes → Reading File
erasing lines = read_text erase_context (header Schedule ++ lines)

abbrev file : List Line → Reading File
file lines = read (record { header = numbers; lines = lines })

abbrev in_line : Bytes
in_line = fields_text (word_text In ∷ [])

abbrev const_line : Bytes
const_line = fields_text (word_text Const ∷ decimal 0 ∷ [])

-- the fields `01` and `-0`
abbrev leading_zero : Bytes
leading_zero = 48 ∷ 49 ∷ []

abbrev minus_zero : Bytes
minus_zero = 45 ∷ 48 ∷ []

-- a line of fields after `in`, and after `const 0`
abbrev after_in : List Bytes → Bytes
after_in fields = in_line ++ fields_text fields

abbrev after_const : List Bytes → Bytes
after_const fields = const_line ++ fields_text fields

abbrev headed : ℕ → ℕ → ℕ → Reading File
headed f w l = read_text circuit_context (fields_text (header_word Circuit ∷ decimal f ∷ decimal w ∷ decimal l ∷ []))

abbrev with_header : ℕ → ℕ → ℕ → Reading File
with_header f w l = read (record { header = record { factor = f; waterline = w; top = l; headroom = None }; lines = [] })

-- with a fourth field
abbrev headed_with : Bytes → Reading File
headed_with field = read_text circuit_context (fields_text (header_word Circuit ∷ decimal 60 ∷ decimal 20 ∷ decimal 2 ∷ field ∷ []))

abbrev with_headroom : ℕ → Reading File
with_headroom bits = read (record { header = record { factor = 60; waterline = 20; top = 2; headroom = Some bits }; lines = [] })

-- 256 lines that are kept
abbrev kept_lines_lem : Bytes
kept_lines_lem = text_of (map line_form.text (replicate 256 Lines.TheVariants.In))

-- so many lines that are struck
abbrev struck_lines : ℕ → List Line
struck_lines n = replicate n (Lines.TheVariants.Ms 0 1)

-- one line more, `const 0`, after so many lines that are struck: reading all of them would take most of the check's time
abbrev one_more_lem : Context → ℕ → Reading (List Line)
one_more_lem c n = rows_from (format c) numbers (struck_lines n) (join tab (word_text Const ∷ decimal 0 ∷ []) ∷ [])

pub record Statement : Type 0 where
  -- `circuit 60 20 2 / in /` and `circuit 60 20 2 / neg 0 /`
  pub bytes_read : read_text circuit_context (99 ∷ 105 ∷ 114 ∷ 99 ∷ 117 ∷ 105 ∷ 116 ∷ 9 ∷ 54 ∷ 48 ∷ 9 ∷ 50 ∷ 48 ∷ 9 ∷ 50 ∷ 10 ∷ 105 ∷ 110 ∷ 10 ∷ []) ≡ file
      (Lines.TheVariants.In ∷ [])
  pub bytes_refused : read_text circuit_context (99 ∷ 105 ∷ 114 ∷ 99 ∷ 117 ∷ 105 ∷ 116 ∷ 9 ∷ 54 ∷ 48 ∷ 9 ∷ 50 ∷ 48 ∷ 9 ∷ 50 ∷ 10 ∷ 110 ∷ 101 ∷ 103 ∷ 9 ∷ 48 ∷ 10 ∷ []) ≡ refused 4 2
  -- ---- the header
  pub empty : read_text circuit_context [] ≡ refused 1 1
  pub header_alone : circuit [] ≡ file []
  pub header_of_schedule : read_text circuit_context (header Schedule) ≡ refused 1 1
  pub header_unclosed : read_text circuit_context (join tab (header_word Circuit ∷ decimal 60 ∷ decimal 20 ∷ decimal 2 ∷ [])) ≡ refused 1 1
  pub header_least : headed 1 1 1 ≡ with_header 1 1 1
  pub header_most : headed 60 60 60 ≡ with_header 60 60 60
  pub factor_zero : headed 0 20 2 ≡ refused 2 1
  pub factor_over : headed 61 20 2 ≡ refused 2 1
  pub waterline_zero : headed 60 0 2 ≡ refused 2 1
  pub waterline_over : headed 60 61 2 ≡ refused 2 1
  pub top_zero : headed 60 20 0 ≡ refused 2 1
  pub top_over : headed 60 20 61 ≡ refused 2 1
  pub header_form_first : read_text circuit_context (fields_text (header_word Circuit ∷ decimal 61 ∷ decimal 20 ∷ leading_zero ∷ [])) ≡ refused 1 1
  pub header_two_numbers : read_text circuit_context (fields_text (header_word Circuit ∷ decimal 60 ∷ decimal 20 ∷ [])) ≡ refused 1 1
  -- document 02, Job 3: "a fourth number H, …, from 1 to 60"
  pub headroom_least : headed_with (decimal 1) ≡ with_headroom 1
  pub headroom_most : headed_with (decimal 60) ≡ with_headroom 60
  pub headroom_zero : headed_with (decimal 0) ≡ refused 2 1
  pub headroom_over : headed_with (decimal 61) ≡ refused 2 1
  pub headroom_empty : headed_with [] ≡ refused 1 1
  pub headroom_zero_first : headed_with leading_zero ≡ refused 1 1
  pub headroom_form_first : read_text circuit_context (fields_text (header_word Circuit ∷ decimal 61 ∷ decimal 20 ∷ decimal 2 ∷ [] ∷ [])) ≡ refused 1 1
  pub headroom_others_ranged : read_text circuit_context (fields_text (header_word Circuit ∷ decimal 61 ∷ decimal 20 ∷ decimal 2 ∷ decimal 5 ∷ [])) ≡ refused 2 1
  pub headroom_schedule : read_text schedule_context (fields_text (header_word Schedule ∷ decimal 60 ∷ decimal 20 ∷ decimal 2 ∷ decimal 5 ∷ [])) ≡ with_headroom 5
  pub header_five_numbers : read_text circuit_context (fields_text (header_word Circuit ∷ decimal 60 ∷ decimal 20 ∷ decimal 2 ∷ decimal 5 ∷ decimal 5 ∷ [])) ≡ refused 1 1
  pub headroom_written : file_text Circuit (record { header = record { factor = 60; waterline = 20; top = 2; headroom = Some 5 }; lines = [] })
      ≡ fields_text (header_word Circuit ∷ decimal 60 ∷ decimal 20 ∷ decimal 2 ∷ decimal 5 ∷ [])
  pub none_written : file_text Circuit (record { header = numbers; lines = [] }) ≡ header Circuit
  pub header_then_line : read_text circuit_context (fields_text (header_word Circuit ∷ decimal 61 ∷ decimal 20 ∷ decimal 2 ∷ []) ++ fields_text []) ≡ refused 2 1
  -- ---- the form of a line
  pub unclosed : circuit (word_text In) ≡ refused 1 2
  pub no_word : circuit (fields_text (header_word Circuit ∷ [])) ≡ refused 1 2
  pub carriage_return : circuit (word_text In ++ (13 ∷ 10 ∷ [])) ≡ refused 1 2
  pub empty_line : circuit (after_in []) ≡ refused 1 3
  pub tab_after : circuit (fields_text (word_text In ∷ [] ∷ [])) ≡ refused 1 2
  pub tab_doubled : circuit (after_in (word_text Neg ∷ [] ∷ decimal 0 ∷ [])) ≡ refused 1 3
  pub field_missing : circuit (after_in (word_text Neg ∷ [])) ≡ refused 1 3
  pub field_too_many : circuit (after_in (word_text Neg ∷ decimal 0 ∷ decimal 0 ∷ [])) ≡ refused 1 3
  pub zero_first : circuit (after_in (word_text Neg ∷ leading_zero ∷ [])) ≡ refused 1 3
  pub plus_first : circuit (after_in (word_text Neg ∷ (43 ∷ 49 ∷ []) ∷ [])) ≡ refused 1 3
  pub minus_first : circuit (after_in (word_text Neg ∷ amount_text (negsuc 0) ∷ [])) ≡ refused 1 3
  pub twelve_digits : circuit (after_in (word_text Neg ∷ replicate 12 49 ∷ [])) ≡ refused 1 3
  pub eleven_digits : circuit (after_in (word_text Neg ∷ replicate 11 49 ∷ [])) ≡ refused 4 3
  pub twelve_with_minus : circuit (after_in (word_text Rot ∷ decimal 0 ∷ (45 ∷ replicate 11 49) ∷ [])) ≡ refused 1 3
  pub eleven_with_minus : circuit (after_in (word_text Rot ∷ decimal 0 ∷ (45 ∷ replicate 10 49) ∷ [])) ≡ refused 11 3
  pub minus_before_zero : circuit (after_in (word_text Rot ∷ decimal 0 ∷ minus_zero ∷ [])) ≡ refused 1 3
  pub schedule_word : circuit (after_in (word_text Rs ∷ decimal 0 ∷ decimal 1 ∷ [])) ≡ refused 1 3
  -- ---- ranges
  -- document 02, Job 1: "A constant number runs from 0 to 4294967295." Document 01: "A field that is no number gives 1, as does one over 11 bytes."
  pub constant_seventeen_bits : circuit (fields_text (word_text Const ∷ decimal 65536 ∷ [])) ≡ file (Lines.TheVariants.Const 65536 ∷ [])
  pub constant_most : circuit (fields_text (word_text Const ∷ decimal 4294967295 ∷ [])) ≡ file (Lines.TheVariants.Const 4294967295 ∷ [])
  pub constant_over : circuit (fields_text (word_text Const ∷ decimal 4294967296 ∷ [])) ≡ refused 11 2
  pub constant_eleven_digits : circuit (fields_text (word_text Const ∷ decimal 99999999999 ∷ [])) ≡ refused 11 2
  pub constant_twelve_digits : circuit (fields_text (word_text Const ∷ decimal 100000000000 ∷ [])) ≡ refused 1 2
  pub turn_most : circuit (after_in (word_text Rot ∷ decimal 0 ∷ amount_text (pos 32767) ∷ [])) ≡ file (Lines.TheVariants.In ∷ Lines.TheVariants.Rot 0 (pos 32767) ∷ [])
  pub turn_over : circuit (after_in (word_text Rot ∷ decimal 0 ∷ amount_text (pos 32768) ∷ [])) ≡ refused 11 3
  pub turn_least : circuit (after_in (word_text Rot ∷ decimal 0 ∷ amount_text (negsuc 32766) ∷ [])) ≡ file (Lines.TheVariants.In ∷ Lines.TheVariants.Rot 0 (negsuc 32766) ∷ [])
  pub turn_below : circuit (after_in (word_text Rot ∷ decimal 0 ∷ amount_text (negsuc 32767) ∷ [])) ≡ refused 11 3
  pub encoded_least : schedule (after_const (word_text Enc ∷ decimal 0 ∷ decimal 1 ∷ decimal 1 ∷ [])) ≡ file (Lines.TheVariants.Const 0 ∷ Lines.TheVariants.Enc 0 1 1 ∷ [])
  pub encoded_most : schedule (after_const (word_text Enc ∷ decimal 0 ∷ decimal 3600 ∷ decimal 2 ∷ [])) ≡ file (Lines.TheVariants.Const 0 ∷ Lines.TheVariants.Enc 0 3600 2 ∷ [])
  pub scale_zero : schedule (after_const (word_text Enc ∷ decimal 0 ∷ decimal 0 ∷ decimal 1 ∷ [])) ≡ refused 11 3
  pub scale_over : schedule (after_const (word_text Enc ∷ decimal 0 ∷ decimal 3601 ∷ decimal 1 ∷ [])) ≡ refused 11 3
  pub level_zero : schedule (after_const (word_text Enc ∷ decimal 0 ∷ decimal 20 ∷ decimal 0 ∷ [])) ≡ refused 11 3
  pub level_over : schedule (after_const (word_text Enc ∷ decimal 0 ∷ decimal 20 ∷ decimal 3 ∷ [])) ≡ refused 11 3
  pub rescales_none : schedule (after_in (word_text Rs ∷ decimal 0 ∷ decimal 0 ∷ [])) ≡ refused 11 3
  pub rescales_most : schedule (after_in (word_text Rs ∷ decimal 0 ∷ decimal 60 ∷ [])) ≡ file (Lines.TheVariants.In ∷ Lines.TheVariants.Rs 0 60 ∷ [])
  pub rescales_over : schedule (after_in (word_text Rs ∷ decimal 0 ∷ decimal 61 ∷ [])) ≡ refused 11 3
  pub modswitches_none : schedule (after_in (word_text Ms ∷ decimal 0 ∷ decimal 0 ∷ [])) ≡ refused 11 3
  pub modswitches_most : schedule (after_in (word_text Ms ∷ decimal 0 ∷ decimal 60 ∷ [])) ≡ file (Lines.TheVariants.In ∷ Lines.TheVariants.Ms 0 60 ∷ [])
  pub modswitches_over : schedule (after_in (word_text Ms ∷ decimal 0 ∷ decimal 61 ∷ [])) ≡ refused 11 3
  pub bits_none : schedule (after_in (word_text Us ∷ decimal 0 ∷ decimal 0 ∷ [])) ≡ refused 11 3
  pub bits_most : schedule (after_in (word_text Us ∷ decimal 0 ∷ decimal 3600 ∷ [])) ≡ file (Lines.TheVariants.In ∷ Lines.TheVariants.Us 0 3600 ∷ [])
  pub bits_over : schedule (after_in (word_text Us ∷ decimal 0 ∷ decimal 3601 ∷ [])) ≡ refused 11 3
  pub form_before_range : schedule (after_const (word_text Enc ∷ decimal 0 ∷ decimal 3601 ∷ leading_zero ∷ [])) ≡ refused 1 3
  pub range_before_operand : circuit (fields_text (word_text Rot ∷ decimal 0 ∷ amount_text (pos 32768) ∷ [])) ≡ refused 11 2
  -- ---- operands and kinds
  pub operand_itself : circuit (after_in (word_text Neg ∷ decimal 1 ∷ [])) ≡ refused 4 3
  pub operand_out : circuit (after_in (word_text Out ∷ decimal 0 ∷ []) ++ fields_text (word_text Neg ∷ decimal 1 ∷ [])) ≡ refused 4 4
  pub constant_negated : circuit (after_const (word_text Neg ∷ decimal 0 ∷ [])) ≡ refused 5 3
  pub two_constants : circuit (after_const (word_text Mul ∷ decimal 0 ∷ decimal 0 ∷ [])) ≡ refused 5 3
  pub constant_second : circuit (in_line ++ after_const (word_text Add ∷ decimal 0 ∷ decimal 1 ∷ []))
      ≡ file (Lines.TheVariants.In ∷ Lines.TheVariants.Const 0 ∷ Lines.TheVariants.Add 0 1 ∷ [])
  pub operand_before_kind : circuit (after_const (word_text Mul ∷ decimal 0 ∷ decimal 1 ∷ [])) ≡ refused 4 3
  pub bare_constant : schedule (in_line ++ after_const (word_text Mul ∷ decimal 0 ∷ decimal 1 ∷ [])) ≡ refused 5 4
  pub ciphertext_encoded : schedule (after_in (word_text Enc ∷ decimal 0 ∷ decimal 20 ∷ decimal 2 ∷ [])) ≡ refused 5 3
  pub first_line_told : circuit (after_in (word_text Neg ∷ decimal 5 ∷ []) ++ fields_text []) ≡ refused 4 3
  -- ---- how many lines
  pub lines_256 : circuit kept_lines_lem ≡ file (replicate 256 Lines.TheVariants.In)
  pub lines_257 : circuit (kept_lines_lem ++ (45 ∷ [])) ≡ refused 3 258
  -- a schedule's limit, and the same in erasing: our own rows, worked by hand. Value 1791 is the 1,792nd line; value 1792 stands at place 1794.
  pub lines_1792 : one_more_lem schedule_context 1791 ≡ read (struck_lines 1791 ++ (Lines.TheVariants.Const 0 ∷ []))
  pub lines_1793 : one_more_lem schedule_context 1792 ≡ refused 3 1794
  pub erased_1792 : one_more_lem erase_context 1791 ≡ read (struck_lines 1791 ++ (Lines.TheVariants.Const 0 ∷ []))
  pub erased_1793 : one_more_lem erase_context 1792 ≡ refused 3 1794
  pub kept_257 : erasing (kept_lines_lem ++ (fields_text (word_text Ms ∷ decimal 0 ∷ decimal 1 ∷ []) ++ in_line)) ≡ refused 3 259
  pub kept_not_of_form : erasing (kept_lines_lem ++ fields_text (word_text In ∷ decimal 5 ∷ [])) ≡ refused 3 258
  pub kept_unclosed : erasing (kept_lines_lem ++ word_text In) ≡ refused 3 258
  pub struck_257 : erasing (kept_lines_lem ++ fields_text (word_text Ms ∷ decimal 0 ∷ decimal 1 ∷ [])) ≡ file (replicate 256 Lines.TheVariants.In ++ (Lines.TheVariants.Ms 0 1 ∷ []))
  pub struck_unclosed : erasing (kept_lines_lem ++ word_text Ms) ≡ refused 1 258
