-- Worked cases: texts of one small format and what they read to, which of two faults is told, and what stands at the end. Assumes nothing.
use Prim.Native.Nat.{ℕ}
use mathlib.Core.Path.{◌≡◌, refl}
use mathlib.Core.Bool.{Bool, true}
use mathlib.Core.List.{List, [], ◌∷◌, ◌++◌}
use mathlib.Core.Option.{none, some}
use lib.Dec.{leb, ltb}
use lib.IntN.{ℤ, pos, negsuc}
use lib.ListN.{length, get_or}
use Rattle.ints.specs.Parts.{positive}
use Rattle.fields.specs.Pieces.{Bytes, tab, line_feed, split, same_bytes}
use Rattle.fields.specs.Numbers.{digits_of, number_of, amount_of}
use Rattle.rows.specs.Fields.{Holds, operand, ranged, amount, read_fields, all_in_range}
use Rattle.rows.specs.Wordless.{wordless}
use Rattle.rows.specs.Forms.{titled, Vocabulary, Said, named, worded}
use Rattle.rows.specs.Lines.{lines_of}
use Rattle.rows.specs.Rows.{Reading, read, refused, Format, File, read_line, rows_from, ended, read_lines, read_file}

-- ---- the format: a header `h N`, N from 1 to 9, then one to three lines: `v`, or `t A T`, with A an earlier line and T from -5 to 5
pub data Letter : Type 0 where
  v : Letter
  t : Letter

abbrev letter_bytes : Letter → Bytes
letter_bytes v = 118 ∷ []
letter_bytes t = 116 ∷ []

abbrev letter_fields : Letter → List Holds
letter_fields v = []
letter_fields t = operand ∷ amount 5 ∷ []

abbrev letters : Vocabulary Letter
letters = record { words = v ∷ t ∷ []; bytes = letter_bytes; fields = letter_fields }

-- an operand, where there is one, names an earlier line
abbrev is_earlier : List (Said Letter) → Letter → List ℤ → Bool
is_earlier done v ns = true
is_earlier done t ns = ltb (positive (get_or ns 0 (pos 0))) (length done)

abbrev small : Format (List ℤ) (Said Letter)
small =
    record {
      header = titled (104 ∷ []) (ranged 1 9 ∷ []);
      header_tests = λ h. (2, all_in_range 0 (ranged 1 9 ∷ []) h) ∷ [];
      line = worded letters;
      line_tests = λ h done x. (11, all_in_range 0 (letter_fields x.word) x.numbers) ∷ (4, is_earlier done x.word x.numbers) ∷ [];
      too_many = λ h done p. leb 3 (length done);
      whole = λ h rows. leb 1 (length rows);
    }

abbrev reading : Bytes → Reading (File (List ℤ) (Said Letter))
reading text = read_file small text

-- ---- texts: `h 5`, the line `v`, and a line `t` with two fields of one byte each
abbrev headed : Bytes
headed = 104 ∷ tab ∷ 53 ∷ line_feed ∷ []

abbrev v_line : Bytes
v_line = 118 ∷ line_feed ∷ []

abbrev t_line : ℕ → ℕ → Bytes
t_line a b = 116 ∷ tab ∷ a ∷ tab ∷ b ∷ line_feed ∷ []

abbrev said : Letter → List ℤ → Said Letter
said w ns = record { word = w; numbers = ns }

pub record Statement : Type 0 where
  pub one_row : reading (headed ++ v_line) ≡ read (record { header = pos 5 ∷ []; lines = said v [] ∷ [] })
  pub two_rows : reading (headed ++ v_line ++ t_line 48 52) ≡ read (record { header = pos 5 ∷ []; lines = said v [] ∷ said t (pos 0 ∷ pos 4 ∷ []) ∷ [] })
  pub below_zero : reading (headed ++ v_line ++ (116 ∷ tab ∷ 48 ∷ tab ∷ 45 ∷ 53 ∷ line_feed ∷ []))
      ≡ read (record { header = pos 5 ∷ []; lines = said v [] ∷ said t (pos 0 ∷ negsuc 4 ∷ []) ∷ [] })
  -- the header line
  pub nothing : reading [] ≡ refused 1 1
  pub header_unclosed : reading (104 ∷ tab ∷ 53 ∷ []) ≡ refused 1 1
  pub header_other : reading (v_line ++ v_line) ≡ refused 1 1
  pub header_range : reading (104 ∷ tab ∷ 48 ∷ line_feed ∷ []) ≡ refused 2 1
  -- a line missing, one too many, and one that is not closed
  pub missing : reading headed ≡ refused 1 2
  pub too_many_lem : reading (headed ++ v_line ++ v_line ++ v_line ++ v_line) ≡ refused 3 5
  pub too_many_first : reading (headed ++ v_line ++ v_line ++ v_line ++ (120 ∷ line_feed ∷ [])) ≡ refused 3 5
  pub too_many_unclosed : reading (headed ++ v_line ++ v_line ++ v_line ++ (118 ∷ [])) ≡ refused 3 5
  pub unclosed : reading (headed ++ v_line ++ (118 ∷ [])) ≡ refused 1 3
  -- the form before all tests, and the tests in their order
  pub no_word : reading (headed ++ (120 ∷ line_feed ∷ [])) ≡ refused 1 2
  pub field_missing : reading (headed ++ (116 ∷ tab ∷ 48 ∷ line_feed ∷ [])) ≡ refused 1 2
  pub field_left_over : reading (headed ++ (118 ∷ tab ∷ 48 ∷ line_feed ∷ [])) ≡ refused 1 2
  pub form_first : reading (headed ++ t_line 55 120) ≡ refused 1 2
  pub range_first : reading (headed ++ t_line 55 54) ≡ refused 11 2
  pub operand_then : reading (headed ++ t_line 55 53) ≡ refused 4 2
  pub line_first : reading (headed ++ t_line 48 53 ++ (120 ∷ line_feed ∷ [])) ≡ refused 4 2
  -- lines without a word
  pub number_alone : (wordless (ranged 1 9 ∷ [])).reads (53 ∷ []) ≡ some (pos 5 ∷ [])
  pub number_after_word : (wordless (ranged 1 9 ∷ [])).reads (104 ∷ tab ∷ 53 ∷ []) ≡ none

pub worked : Statement
unfolding split same_bytes digits_of number_of amount_of read_fields named lines_of read_line rows_from ended read_lines read_file
worked =
    record {
      one_row = refl;
      two_rows = refl;
      below_zero = refl;
      nothing = refl;
      header_unclosed = refl;
      header_other = refl;
      header_range = refl;
      missing = refl;
      too_many_lem = refl;
      too_many_first = refl;
      too_many_unclosed = refl;
      unclosed = refl;
      no_word = refl;
      field_missing = refl;
      field_left_over = refl;
      form_first = refl;
      range_first = refl;
      operand_then = refl;
      line_first = refl;
      number_alone = refl;
      number_after_word = refl;
    }
