-- A circuit's text is the text of no other file: whatever well-formed lines, of any number, are written so are the ones that the text reads to.
-- Assumes nothing.
use Prim.Native.Nat.{ℕ, suc, ◌≤◌}
use native.Mathlib.Omega.{arith}
use mathlib.Core.Path.{◌≡◌, sym, ap, ◌∙◌}
use lib.Dec.{T, leb, leb→le, le→leb}
use lib.ListN.{length, length-map}
use Rattle.fields.specs.Pieces.{Bytes}
use Rattle.rows.specs.Lines.{Lines, lines, lines_of}
use Rattle.rows.specs.Rows.{read}
use Rattle.rows.proofs.RowLaws.{read_is, file_lines}
use Rattle.model.specs.Files.{File, well_formed}
use Rattle.model.proofs.Tests.{and_first, and_both}
use Rattle.text.specs.declared.Context.{Context}
use Rattle.text.specs.Files.{line_form, kept_count, format, read_text, file_text}
use Rattle.text.proofs.FileLaws.{kept_most, lawful, file_written_read, file_read_written}

abbrev count : Lines → ℕ
count (lines ps rest) = length ps

-- a text has as many closed lines as its file, and the header line
file_count : (c : Context) (f : File) → count (lines_of (file_text c.grammar f)) ≡ suc (length f.lines)
file_count c f = ap count (file_lines (format c) (lawful c) f) ∙ ap suc (length-map f.lines line_form.text)

pub text_of_one : (c : Context) → c.limit ≤ 1792 → c.limit ≤ c.keptlimit → (text : Bytes) {f : File} → read_text c text ≡ read f
    → (k : File) → T (well_formed c.grammar k.header k.lines) → file_text c.grammar k ≡ text → k ≡ f
text_of_one c most kept text {f} reads k formed is =
    let b = file_read_written c text reads in
    let few = leb→le (length f.lines) c.limit (and_first (leb (length f.lines) c.limit) (leb (kept_count f.lines) c.keptlimit) b.few) in
    let same = sym (file_count c k) ∙ ap (λ (s : Bytes). count (lines_of s)) (is ∙ sym b.written) ∙ file_count c f in
    let low = kept_most k.lines in
    let fits = and_both (leb (length k.lines) c.limit) (leb (kept_count k.lines) c.keptlimit) (le→leb (length k.lines) c.limit (omega arith))
    (le→leb (kept_count k.lines) c.keptlimit (omega arith)) in
    read_is (sym (file_written_read c k most formed fits) ∙ ap (read_text c) is ∙ reads)
