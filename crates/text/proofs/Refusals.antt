-- Which refusals reading gives, and that what follows does not change them: instances of the laws of rows. Assumes nothing.
use Prim.Native.Nat.{ℕ}
use native.Mathlib.Omega.{arith}
use mathlib.Core.Path.{◌≡◌, sym, ap, ◌∙◌}
use mathlib.Core.List.{List, [], ◌∷◌, ◌++◌}
use lib.ListN.{length, length-append}
use Rattle.fields.specs.Pieces.{Bytes, line_feed, split}
use Rattle.fields.proofs.Each.{none, one}
use Rattle.rows.specs.Lines.{Lines, lines, lines_of}
use Rattle.rows.specs.Rows.{bad, refused, read_header, read_line, read_lines, read_file}
use Rattle.rows.proofs.LineLaws.{closed_lines, pieces, split_lines}
use Rattle.rows.proofs.RowLaws as Rows
use Rattle.rows.proofs.RowLaws.{Numbers}
use Rattle.model.specs.declared.Header.{Header}
use Rattle.model.specs.declared.Line.{Line}
use Rattle.text.specs.declared.Context.{Context}
use Rattle.text.specs.Files.{format, read_text}
use Rattle.text.proofs.Statements.Refusals.{IsNumber, form, header, many, operand, kind, range, IsRefusal}

numbers : (c : Context) → Numbers (format c) IsNumber
numbers c = record { form = form; many = many; header = λ h. one header none; line = λ h done x. one form (one range (one operand (one kind none))) }

pub line_number : (c : Context) (h : Header) (before : List Line) (p : Bytes) {n : ℕ} → read_line (format c) h before p ≡ bad n → IsNumber n
line_number c h before p e = Rows.line_number (format c) IsNumber (numbers c) h before p e

pub header_number : (c : Context) (p : Bytes) {n : ℕ} → read_header (format c) p ≡ bad n → IsNumber n
header_number c p e = Rows.header_number (format c) IsNumber (numbers c) p e

-- no refusal has number 0, so that an answer's 0 can stand for a file
pub not_zero : {n : ℕ} → IsNumber n → n ≡ 0 → ⊥
not_zero form e = omega arith
not_zero header e = omega arith
not_zero many e = omega arith
not_zero operand e = omega arith
not_zero kind e = omega arith
not_zero range e = omega arith

-- a refusal stands at one of the lines
pub refusal : (c : Context) (text : Bytes) (n p : ℕ) → read_text c text ≡ refused n p → IsRefusal text n p
unfolding read_file
refusal c text n p e = go (lines_of text) (ap length (split_lines text)) e
  where
    go : (l : Lines) → length (split line_feed text) ≡ length (pieces l) → read_lines (format c) l ≡ refused n p → IsRefusal text n p
    go (lines ps rest) count v =
        let a = Rows.refusal (format c) IsNumber (numbers c) ps rest v in
        let last = a.most in
        let long = length-append ps (rest ∷ []) in
        record { number = a.number; first = a.least; last = omega arith }

-- no line can be missing, so a refusal of closed lines is one of theirs
pub stays : (c : Context) (text more : Bytes) (n p : ℕ) → read_text c (text ++ (line_feed ∷ [])) ≡ refused n p → read_text c ((text ++ (line_feed ∷ [])) ++ more) ≡ refused n p
unfolding read_file
stays c text more n p e =
    let b = closed_lines text in
    Rows.stays (format c) (text ++ (line_feed ∷ [])) more (b.first ∷ b.more) b.are
    (Rows.closed_refused (format c) (λ h rows. tt) b.first b.more (ap (read_lines (format c)) (sym b.are) ∙ e))
