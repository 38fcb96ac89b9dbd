-- The first 4,400 bytes of a text decide its reading as a circuit. Assumes nothing.
-- Good lines among them take at most 4,372, so 28 bytes are left, or more: too many for a line of the form, whatever follows.
use Prim.Native.Nat.{◌*◌, ◌≤◌}
use native.Mathlib.Decide.{dec_le}
use native.Mathlib.Omega.{arith}
use mathlib.Core.Path.{◌≡◌, refl, sym, ap, ◌∙◌, subst}
use mathlib.Core.List.{List, [], ◌∷◌, ◌++◌, map}
use lib.ListN.{length, take, drop, length-append, take-append-drop}
use lib.Seq.{take_all, length-take-le}
use Rattle.fields.specs.Pieces.{Bytes}
use Rattle.rows.specs.Lines.{Lines, lines, lines_of, text_of}
use Rattle.rows.specs.Rows.{place_of, Judgement, at, onward, refused, rows_from, ended, read_lines}
use Rattle.rows.proofs.LengthLaws.{text_length}
use Rattle.rows.proofs.LineLaws.{bytes_before, before_first, before_rest, whole_text, text_lines}
use Rattle.rows.proofs.RowLaws.{RowsFormed, no_row, row, after_rows, first_decide, rows_read_written}
use Rattle.model.specs.declared.Grammar.TheVariants.{Circuit}
use Rattle.model.specs.declared.Header.{Header}
use Rattle.model.specs.declared.Line.{Line}
use Rattle.model.proofs.Tests.{HeaderFacts}
use Rattle.text.specs.Files.{line_form, circuit_context, read_text}
use Rattle.text.proofs.FileLaws.{line_tests_lem, has_room, lawful, rows_are, header_read_written}
use Rattle.text.proofs.Lengths.{circuits, refused_with, unclosed_number, long_line, good_length, header_length, long_header}

-- ---- how many bytes good lines take, with their line feeds
module _ (h : Header) (facts : HeaderFacts h) where
  lines_total : {done xs : List Line} → RowsFormed circuits h done xs → length (text_of (map line_form.text xs)) ≤ 17 * length xs
  unfolding text_of
  lines_total no_row = omega arith
  lines_total {done} (row {x = x} {xs = xs} n more) =
      let few = (has_room circuit_context done (line_form.text x) n.room).few in
      let most = good_length h facts done (omega arith) x (line_tests_lem Circuit h done x n.passes) in
      let rest = lines_total more in
      omega (arith, text_length (line_form.text x) (map line_form.text xs))

-- ---- 28 bytes or more after good lines are refused, closed or not
module _ (h : Header) (rows : List Line) where
  unclosed : (p : Bytes) → 1 ≤ length p → ended circuits h rows p ≡ refused (refused_with rows) (place_of (length rows))
  unfolding ended
  unclosed [] some = absurd (omega arith)
  unclosed (b ∷ bs) some = ap (λ n. refused n (place_of (length rows))) (unclosed_number rows (b ∷ bs))

  rest_decides : (rest : Bytes) (more : Lines) → 28 ≤ length rest → after_rows circuits h rows (bytes_before rest more) ≡ ended circuits h rows rest
  unfolding rows_from
  rest_decides rest (lines [] u) long =
      let all = length-append rest u in
      ap (after_rows circuits h rows) (before_rest rest u) ∙ unclosed (rest ++ u) (omega arith) ∙ sym (unclosed rest (omega arith))
  rest_decides rest (lines (q ∷ qs) u) long =
      let all = length-append rest q in
      ap (after_rows circuits h rows) (before_first rest q qs u)
      ∙ ap (λ (j : Judgement Line). onward (at (place_of (length rows)) j (λ x. rows_from circuits h (rows ++ (x ∷ [])) qs)) (λ d. ended circuits h d u))
      (long_line h rows (rest ++ q) (omega arith))
      ∙ sym (unclosed rest (omega arith))

-- a header line of 56 bytes or more is refused, closed or not
header_decides : (rest : Bytes) (more : Lines) → 56 ≤ length rest → read_lines circuits (bytes_before rest more) ≡ refused 1 1
unfolding read_lines
header_decides rest (lines [] u) long = ap (read_lines circuits) (before_rest rest u)
header_decides rest (lines (q ∷ qs) u) long =
    let all = length-append rest q in
    ap (read_lines circuits) (before_first rest q qs u)
    ∙ ap (λ (j : Judgement Header). at 1 j (λ h. after_rows circuits h [] (lines qs u))) (long_header (rest ++ q) (omega arith))

-- ---- the whole text
decide : (s t : Bytes) → length s ≡ 4400 → (l : Lines) → lines_of s ≡ l → read_text circuit_context (s ++ t) ≡ read_text circuit_context s
unfolding text_of
decide s t long (lines qs rest) e =
    let whole : length (text_of qs ++ rest) ≡ 4400 = ap (λ (l : Lines). length (whole_text l)) (sym e) ∙ ap length (text_lines s) ∙ long in
    let parts = length-append (text_of qs) rest in
    first_decide circuits s t e
    (λ none. let nothing = ap (λ (ps : List Bytes). length (text_of ps)) none in header_decides rest (lines_of t) (omega arith))
    (λ p ps h rows some q r.
    let head = header_read_written circuit_context p q in
    let back = rows_read_written circuits (lawful circuit_context) h [] ps r in
    let formed = subst (RowsFormed circuits h []) back.are back.formed in
    let few = (rows_are circuit_context formed (omega arith) (omega arith)).few in
    let most = lines_total h head.facts formed in
    let written = ap (λ (xs : List Line). length (text_of (map line_form.text xs))) (sym back.are) ∙ ap (λ (ps : List Bytes). length (text_of ps)) back.written in
    let first = header_length h head.facts in
    let header = ap length head.written in
    let all = ap (λ (ps : List Bytes). length (text_of ps)) some in
    let line = text_length p ps in
    rest_decides h rows rest (lines_of t) (omega arith))

pub decided : (s : Bytes) → read_text circuit_context s ≡ read_text circuit_context (take 4400 s)
decided s =
    elim (dec_le (length s) 4400) [
      | yes all ↦ ap (read_text circuit_context) (sym (take_all 4400 s all))
      | no long ↦ ap (read_text circuit_context) (sym (take-append-drop 4400 s))
          ∙ decide (take 4400 s) (drop 4400 s) (length-take-le 4400 s (omega arith)) (lines_of (take 4400 s)) refl
    ]
