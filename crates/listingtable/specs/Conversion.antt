-- The conversion of a listing that a table holds, as the code has it: line by line, with the schedule's lines that stand for those before.
use Rattle.std.specs.Prelude.{ℕ, suc, ◌+◌, ◌-◌, ◌≤◌, ◌<◌, cond, List, ◌≡◌, T, length, get_or, take, Result, Ok, Err}
use Rattle.rows.specs.Rows.{place_of}
use Rattle.model.specs.declared.Fault.TheVariants.{TooManyLines}
use Rattle.model.specs.declared.Refusal.{Refusal}
use Rattle.model.specs.declared.Grammar.TheVariants.{Schedule}
use Rattle.model.specs.declared.Header.{Header}
use Rattle.model.specs.declared.Line.{Line}
use Rattle.model.specs.declared.Line.TheVariants.{Free}
use Rattle.model.specs.Scales.{header_in_range}
use Rattle.model.specs.Files.{limit, is_word}
use Rattle.listings.specs.Held.{is_downscale, convert_held}
use Rattle.tables.specs.declared.Record.{Record}
use Rattle.tables.specs.Records.{line_of, lines_of, lines_held}
use Rattle.operands.specs.Operands.{first_operand, second_operand, with_operands}
use Rattle.listingtable.specs.declared.Becomes.{Becomes}
use Rattle.listingtable.specs.declared.Becomes.TheVariants.{One, Two}

-- ---- a line
-- what is asked of line i before it is converted
pub record LineReady (h : Header) (listing : List Record) (scales : List ℕ) (i : ℕ) : Type 0 where
  pub ranged : T (header_in_range h)
  pub there : i < length listing
  pub word : T (is_word Schedule (get_or (lines_of listing) i Free))
  pub first : first_operand (get_or (lines_of listing) i Free) < 1792
  pub second : second_operand (get_or (lines_of listing) i Free) < 1792
  pub below :
      T (is_downscale (get_or (lines_of listing) i Free)) →
      get_or scales (first_operand (get_or (lines_of listing) i Free)) 0 < h.waterline + h.factor

-- what a line becomes: a line; or an upscale of this value by these bits and a rescale of that
pub data LineBecomes : Type 0 where
  one_line : Line → LineBecomes
  two_lines : ℕ → ℕ → LineBecomes

-- what the code has made of it, by the record where it is one line
abbrev pub becomes_lines : Becomes → LineBecomes
becomes_lines (One r) = one_line (line_of r)
becomes_lines (Two a bits) = two_lines a bits

-- a line by the scales of the lines before it and the lines that stand for them
abbrev pub converted_by : Header → List ℕ → List ℕ → Line → LineBecomes
converted_by h scales names x =
    let first = get_or names (first_operand x) 0 in
    cond (is_downscale x) (two_lines first (h.waterline + h.factor - get_or scales (first_operand x) 0))
    (one_line (with_operands x first (get_or names (second_operand x) 0)))

-- ---- all lines
-- the schedule's lines stand in the first records
pub record HoldsConverted (h : Header) (scale : ℕ → ℕ) (lines : List Line) (n : ℕ) (records : List Record) : Type 0 where
  pub held : lines_held records n ≡ convert_held h scale lines
  pub long : length (convert_held h scale lines) ≡ n
  pub few : n ≤ limit Schedule

-- the lines before the one at fault fit, and with it they do not
pub record NoRoom (h : Header) (scale : ℕ → ℕ) (lines : List Line) (r : Refusal) : Type 0 where
  pub line_number : ℕ
  pub fault_is : r.fault ≡ TooManyLines
  pub place_is : r.place ≡ place_of line_number
  pub below : line_number < length lines
  pub before : length (convert_held h scale (take line_number lines)) ≤ limit Schedule
  pub with_it : limit Schedule < length (convert_held h scale (take (suc line_number) lines))

abbrev pub ConvertedTo : Header → (ℕ → ℕ) → List Line → Result ℕ Refusal → List Record → Type 0
ConvertedTo h scale lines (Ok n) records = HoldsConverted h scale lines n records
ConvertedTo h scale lines (Err r) records = NoRoom h scale lines r
