-- How long a line, the header line and a file can be. Assumes nothing.
use Prim.Native.Nat.{ℕ, ◌*◌, ◌≤◌}
use mathlib.Core.List.{List, [], ◌∷◌}
use mathlib.Core.Path.{◌≡◌, refl, ap}
use native.Mathlib.Omega.{arith}
use lib.ListN.{length, take, length-append}
use Rattle.std.proofs.lemmas.List.{length-take}
use Rattle.fields.specs.Pieces.{Bytes, line_feed}
use Rattle.model.specs.declared.Line.{Line}
use Rattle.model.specs.declared.Header.{Header}
use Rattle.std.specs.Prelude.{Option, Some, None}
use Rattle.rows.specs.Lines.{text_of}
use Rattle.text.specs.Files.{header_under, line_form, text_under}
use Rattle.text.specs.Tables.{file_of}
use Rattle.tables.specs.declared.Record.{Record}
use Rattle.tables.specs.Records.{lines_of, held}
use Rattle.spelling.proofs.Fields.{line_end}
use Rattle.spelling.proofs.Lengths.{numbered_most}
use Rattle.linefields.proofs.Lengths.{line_most}
use Rattle.writer.proofs.Lines.{line_text, header_text, lines_text, text_to, whole_text}

-- ---- lines
pub closed_most : (x : Line) → length (line_text x) ≤ 72
closed_most x = omega (arith, line_most x, ap length (line_end (line_form.text x)), length-append (line_form.text x) (line_feed ∷ []))

lines_most : (xs : List Line) → length (lines_text xs) ≤ 72 * length xs
unfolding text_of
lines_most [] = omega arith
lines_most (x ∷ xs) = omega (arith, line_most x, lines_most xs, length-append (line_form.text x) (line_feed ∷ lines_text xs))

-- ---- the header line
module _ (word : Bytes) (l : length word ≤ 8) where
  pub numbers_most : (h : Header) (r : Option ℕ) → h.headroom ≡ r → length ((header_under word).text h) ≤ 92
  numbers_most h None e = rw e (omega (arith, numbered_most word (h.factor ∷ h.waterline ∷ h.top ∷ [])))
  numbers_most h (Some bits) e = rw e (omega (arith, numbered_most word (h.factor ∷ h.waterline ∷ h.top ∷ bits ∷ [])))

  pub header_most : (h : Header) → length (header_text word h) ≤ 93
  header_most h =
      let text : Bytes = (header_under word).text h in
      omega (arith, numbers_most h h.headroom refl, ap length (line_end text), length-append text (line_feed ∷ []))

  -- ---- a file
  pub file_most :
      (h : Header) (records : List Record) (count : ℕ) → count ≤ 1792 →
      length (text_under word (file_of (held h records count))) ≤ 129117
  file_most h records count few =
      let whole = ap length (whole_text word h records count) in
      omega (arith, whole, length-append (header_text word h) (text_to records count), header_most h, lines_most (take count (lines_of records)), length-take count (lines_of records))
