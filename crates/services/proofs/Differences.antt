-- Two circuits differ first at the text line at which their texts differ first. Assumes nothing.
use Prim.Native.Nat.{ℕ, zero, suc, ◌+◌, ◌≤◌}
use native.Mathlib.Omega.{arith}
use mathlib.Core.Path.{◌≡◌, refl, sym, ap, ap₂, ◌∙◌, subst, subst₂}
use mathlib.Core.List.{List, [], ◌∷◌, ◌++◌, map, nil≢cons, head-eq_of_cons-eq, tail-eq_of_cons-eq}
use mathlib.Core.Option.{none, some}
use lib.Dec.{T}
use lib.ListN.{length, take}
use Rattle.fields.specs.Pieces.{Bytes, line_feed, split, same_bytes}
use Rattle.fields.proofs.DigitLaws.{some_is, none_some}
use Rattle.model.specs.declared.Grammar.TheVariants.{Circuit, Schedule}
use Rattle.model.specs.declared.Header.{Header}
use Rattle.model.specs.declared.Line.{Line}
use Rattle.model.specs.Scales.{header_in_range}
use Rattle.model.specs.Files.{File, limit, word_of, line_formed, lines_formed, well_formed}
use Rattle.model.specs.Services.{erase, erase_file}
use Rattle.model.proofs.Tests.{and_first, and_second, HeaderFacts, header_facts}
use Rattle.model.proofs.Lists.{length_snoc}
use Rattle.model.proofs.Formed.{LineFacts, line_facts, well_header, well_lines}
use Rattle.model.proofs.Statements.Check as Check
use Rattle.model.proofs.Theorems as Model
use Rattle.rows.specs.Forms.{named}
use Rattle.rows.proofs.LineLaws as Lines
use Rattle.rows.proofs.LineLaws.{split_lines}
use Rattle.rows.proofs.RowLaws.{file_lines}
use Rattle.text.specs.Files.{header_word, header_form, line_form, circuit_context, format, file_text}
use Rattle.text.proofs.WordLaws.{any_word, header_letters}
use Rattle.text.proofs.FormLaws.{header_forth, line_forth}
use Rattle.text.proofs.FileLaws.{lawful}
use Rattle.services.specs.Promises.{TextsDifferAt}

-- ---- the texts between the line feeds
abbrev header_piece : Header → Bytes
header_piece h = (header_form Circuit).text h

abbrev piece : Line → Bytes
piece x = line_form.text x

abbrev pieces : List Line → List Bytes
pieces [] = [] ∷ []
pieces (x ∷ xs) = piece x ∷ pieces xs

pieces_are : (xs : List Line) → map line_form.text xs ++ ([] ∷ []) ≡ pieces xs
pieces_are [] = refl
pieces_are (x ∷ xs) = ap (λ (ps : List Bytes). piece x ∷ ps) (pieces_are xs)

file_split : (f : File) → split line_feed (file_text Circuit f) ≡ header_piece f.header ∷ pieces f.lines
file_split f =
    split_lines (file_text Circuit f) ∙ ap Lines.pieces (file_lines (format circuit_context) (lawful circuit_context) f)
    ∙ ap (λ (ps : List Bytes). header_piece f.header ∷ ps) (pieces_are f.lines)

-- ---- one text is one line's
same_header_lem : (h k : Header) → T (header_in_range h) → T (header_in_range k) → header_piece h ≡ header_piece k → h ≡ k
same_header_lem h k t u e = some_is (sym (forth h t) ∙ ap (header_form Circuit).reads e ∙ forth k u)
  where
    forth : (h : Header) → T (header_in_range h) → (header_form Circuit).reads ((header_form Circuit).text h) ≡ some h
    forth = header_forth (header_word Circuit) (header_letters Circuit)

empty_unread : line_form.reads [] ≡ none
unfolding split named same_bytes
empty_unread = refl

module _ (h : Header) (H : HeaderFacts h) where
  read_back : (before : List Line) (x : Line) → LineFacts Circuit h before x → length before ≤ 1792 → line_form.reads (piece x) ≡ some x
  read_back before x f few = line_forth h H before x f.range f.usable few (any_word Circuit (word_of x) f.word)

  not_empty : (before : List Line) (x : Line) → LineFacts Circuit h before x → length before ≤ 1792 → piece x ≡ [] → ⊥
  not_empty before x f few e = none_some (sym empty_unread ∙ ap line_form.reads (sym e) ∙ read_back before x f few)

  same_line_lem : (before : List Line) (x y : Line) → LineFacts Circuit h before x → LineFacts Circuit h before y → length before ≤ 1792 → piece x ≡ piece y → x ≡ y
  same_line_lem before x y f g few e = some_is (sym (read_back before x f few) ∙ ap line_form.reads e ∙ read_back before y g few)

  -- the first line and the others
  first_line : (before : List Line) (x : Line) (xs : List Line) → T (lines_formed Circuit h before (x ∷ xs)) → LineFacts Circuit h before x
  first_line before x xs t = line_facts Circuit h before x (and_first (line_formed Circuit h before x) (lines_formed Circuit h (before ++ (x ∷ [])) xs) t)

  other_lines : (before : List Line) (x : Line) (xs : List Line) → T (lines_formed Circuit h before (x ∷ xs)) → T (lines_formed Circuit h (before ++ (x ∷ [])) xs)
  other_lines before x xs t = and_second (line_formed Circuit h before x) (lines_formed Circuit h (before ++ (x ∷ [])) xs) t

  -- texts that agree so far are of lines that agree so far
  same_lines : (n : ℕ) (xs ys before : List Line) → T (lines_formed Circuit h before xs) → T (lines_formed Circuit h before ys) → length before + length xs ≤ 1792
      → take (suc n) (pieces xs) ≡ take (suc n) (pieces ys) → take (suc n) xs ≡ take (suc n) ys
  same_lines n [] [] before t u few e = refl
  same_lines n [] (y ∷ ys) before t u few e = absurd (not_empty before y (first_line before y ys u) (omega arith) (sym (head-eq_of_cons-eq e)))
  same_lines n (x ∷ xs) [] before t u few e = absurd (not_empty before x (first_line before x xs t) (omega arith) (head-eq_of_cons-eq e))
  same_lines zero (x ∷ xs) (y ∷ ys) before t u few e =
      ap (λ (z : Line). z ∷ []) (same_line_lem before x y (first_line before x xs t) (first_line before y ys u) (omega arith) (head-eq_of_cons-eq e))
  same_lines (suc n) (x ∷ xs) (y ∷ ys) before t u few e =
      let same = same_line_lem before x y (first_line before x xs t) (first_line before y ys u) (omega arith) (head-eq_of_cons-eq e) in
      let longer = length_snoc before x in
      ap₂ ◌∷◌ same
      (same_lines n xs ys (before ++ (x ∷ [])) (other_lines before x xs t)
      (subst (λ (z : Line). T (lines_formed Circuit h (before ++ (z ∷ [])) ys)) (sym same) (other_lines before y ys u)) (omega arith) (tail-eq_of_cons-eq e))

-- lines that agree so far have texts that agree so far
same_pieces : (n : ℕ) (xs ys : List Line) → take n xs ≡ take n ys → take n (pieces xs) ≡ take n (pieces ys)
same_pieces zero xs ys e = refl
same_pieces (suc n) [] [] e = refl
same_pieces (suc n) [] (y ∷ ys) e = absurd (nil≢cons e)
same_pieces (suc n) (x ∷ xs) [] e = absurd (nil≢cons (sym e))
same_pieces (suc n) (x ∷ xs) (y ∷ ys) e = ap₂ ◌∷◌ (ap piece (head-eq_of_cons-eq e)) (same_pieces n xs ys (tail-eq_of_cons-eq e))

-- ---- the first difference
module _ (c k : File) (t : T (well_formed Circuit c.header c.lines)) (u : T (well_formed Circuit k.header k.lines)) where
  C : HeaderFacts c.header
  C = header_facts c.header (well_header Circuit c.header c.lines t)

  abbrev Differ : ℕ → Type 0
  Differ p = TextsDifferAt (header_piece c.header ∷ pieces c.lines) (header_piece k.header ∷ pieces k.lines) p

  differ_headers : {p : ℕ} → (c.header ≡ k.header → ⊥) → p ≡ 1 → Differ p
  differ_headers f e =
      record {
        line = 0;
        place_is = e;
        before = refl;
        with_it = λ q. f (same_header_lem c.header k.header (well_header Circuit c.header c.lines t) (well_header Circuit k.header k.lines u) (head-eq_of_cons-eq q));
      }

  differ_lines : {p : ℕ} → length c.lines ≤ limit Circuit → c.header ≡ k.header → Check.FirstDifference c.lines k.lines p → Differ p
  differ_lines few e d =
      let first = well_lines Circuit c.header c.lines t in
      let second = subst (λ (h : Header). T (lines_formed Circuit h [] k.lines)) (sym e) (well_lines Circuit k.header k.lines u) in
      record {
        line = suc d.line;
        place_is = d.place_is ∙ omega arith;
        before = ap₂ ◌∷◌ (ap header_piece e) (same_pieces d.line c.lines k.lines d.before);
        with_it = λ q. d.with_it (same_lines c.header C d.line c.lines k.lines [] first second (omega arith) (tail-eq_of_cons-eq q));
      }

-- a circuit and another that a schedule erases to
pub differ_texts : (c s : File) → T (well_formed Circuit c.header c.lines) → T (well_formed Schedule s.header s.lines) → length c.lines ≤ limit Circuit
    → {p : ℕ} → Check.OtherCircuit c s p → TextsDifferAt (split line_feed (file_text Circuit c)) (split line_feed (file_text Circuit (erase_file s))) p
differ_texts c s t u few {p} o = subst₂ (λ (xs ys : List Bytes). TextsDifferAt xs ys p) (sym (file_split c)) (sym (file_split (erase_file s))) (go o)
  where
    formed : T (well_formed Circuit s.header (erase s.lines))
    formed = (Model.erasing s.header s.lines u).formed

    go : Check.OtherCircuit c s p → TextsDifferAt (header_piece c.header ∷ pieces c.lines) (header_piece s.header ∷ pieces (erase s.lines)) p
    go (Check.other_header f e) = differ_headers c (erase_file s) t formed f e
    go (Check.other_lines e d) = differ_lines c (erase_file s) t formed few e d
