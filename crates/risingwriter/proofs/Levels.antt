-- Levels turned in the records of a table: one record, and the loop over all. Assumes nothing.
use Prim.Native.Nat.{ℕ, ◌+◌, ◌≤◌, ◌<◌}
use native.Mathlib.Omega.{arith}
use mathlib.Core.Path.{◌≡◌, refl, sym, ap, ◌∙◌, subst}
use mathlib.Core.List.{List, [], ◌∷◌, ◌++◌, map, map-append}
use borrow.Author.Rules.{rules}
use lib.Dec.{T}
use lib.ListN.{length, get_or, set, length-set}
use lib.Seq.{take-suc, get_or-take, get_or-set_other, length-take-le}
use native.Mathlib.Numerals.{add-one}
use mir.Syntax.{w16}
use mir.Val.{Fits}
use Rattle.rows.specs.Fields.{within}
use Rattle.model.specs.declared.Grammar.TheVariants.{Schedule}
use Rattle.model.specs.declared.Header.{Header}
use Rattle.model.specs.declared.Line.{Line}
use Rattle.model.specs.declared.Line.TheVariants as Lines
use Rattle.model.specs.declared.Line.TheVariants.{Free}
use Rattle.model.specs.declared.Word.TheVariants.{Enc}
use Rattle.model.specs.Scales.{header_in_range}
use Rattle.model.specs.Files.{in_range}
use Rattle.model.proofs.Tests.{and_second, within_facts, header_facts}
use Rattle.model.proofs.Formed.{well_header, well_lines, formed_index}
use Rattle.text.specs.Tables.{TableFormed}
use Rattle.listings.specs.Listings.{turned}
use Rattle.tables.specs.declared.Record.{Record}
use Rattle.tables.specs.Records.{free_record, line_of, lines_of, lines_held, held}
use Rattle.tables.proofs.HeldLines.{formed_few, formed_long, lines_set, stored_lines}
use Rattle.tables.proofs.Words.{record_held}

-- ---- a record
pub level_most : (h : Header) (r : Record) → r.word ≡ Enc → T (in_range h (line_of r)) → r.third ≤ h.top
unfolding line_of
level_most h r e t =
    let f : T (in_range h (Lines.Enc r.first r.second r.third)) = rw e at t in
    (within_facts 1 h.top r.third (and_second (within 1 3600 r.second) (within 1 h.top r.third) f)).most

pub top_fits : (h : Header) → T (header_in_range h) → Fits w16 h.top
top_fits h t = record { fits = omega (arith, (header_facts h t).top.most) }

pub ruleset record_laws = (rules, level_most, top_fits)

-- ---- the loop: the first i records hold turned lines, and the others what they held
pub record Turning (h : Header) (given records : List Record) (count i : ℕ) : Type 0 where
  pub formed : TableFormed Schedule (held h given count)
  pub most : i ≤ count
  pub long : length records ≡ length given
  pub done : lines_held records i ≡ map (turned h) (lines_held given i)
  pub rest : (j : ℕ) → i ≤ j → get_or (lines_of records) j Free ≡ get_or (lines_of given) j Free

pub turning_start : (h : Header) (records : List Record) (count : ℕ) → TableFormed Schedule (held h records count) → Turning h records records count 0
turning_start h records count formed = record { formed = formed; most = omega arith; long = refl; done = refl; rest = λ j u. refl }

module _ (h : Header) (given records : List Record) (count i : ℕ) (t : Turning h given records count i) where
  pub header_ranged : T (header_in_range h)
  header_ranged = well_header Schedule h (lines_held given count) t.formed.lines

  pub still_long : length records ≡ 1792
  still_long = t.long ∙ formed_long Schedule h given count t.formed

  -- no line is left
  pub all_turned : count ≤ i → lines_held records count ≡ map (turned h) (lines_held given count)
  all_turned end = let all : i ≡ count = omega (arith, t.most) in subst (λ (n : ℕ). lines_held records n ≡ map (turned h) (lines_held given n)) all t.done

  module _ (more : i < count) where
    pub there : i < length records
    there = omega (arith, still_long, formed_few Schedule h given count t.formed)

    pub index_room : i < 1792
    index_room = omega (arith, formed_few Schedule h given count t.formed)

    line_is : line_of (get_or records i free_record) ≡ get_or (lines_of given) i Free
    line_is = record_held records i ∙ t.rest i (omega arith)

    pub line_ranged : T (in_range h (line_of (get_or records i free_record)))
    line_ranged =
        let lines = lines_held given count in
        let long : length lines ≡ count = length-take-le count (lines_of given) (omega (arith, t.formed.room, formed_few Schedule h given count t.formed)) in
        let facts = formed_index Schedule h lines (well_lines Schedule h lines t.formed.lines) i (omega arith) in
        subst (λ (x : Line). T (in_range h x)) (get_or-take count (lines_of given) i Free more ∙ sym line_is) facts.range

    pub turning_more : (r : Record) → line_of r ≡ turned h (line_of (get_or records i free_record)) → Turning h given (set records i r) count (i + 1)
    turning_more r is =
        let x = get_or (lines_of given) i Free in
        let line : line_of r ≡ turned h x = is ∙ ap (turned h) line_is in
        let next : lines_held given (i + 1) ≡ lines_held given i ++ (x ∷ []) =
        rw (add-one i) (take-suc (lines_of given) i Free (omega (arith, t.formed.room, formed_few Schedule h given count t.formed))) in
        record {
          formed = t.formed;
          most = omega arith;
          long = length-set records i r ∙ t.long;
          done =
              stored_lines records i r (turned h x) there line ∙ ap (λ (l : List Line). l ++ (turned h x ∷ [])) t.done
              ∙ sym (map-append (turned h) (lines_held given i) (x ∷ []))
              ∙ ap (map (turned h)) (sym next);
          rest = λ j u.
              ap (λ (l : List Line). get_or l j Free) (lines_set records i r) ∙ get_or-set_other (lines_of records) i j (line_of r) Free (λ e. omega arith) ∙ t.rest j (omega arith);
        }

pub ruleset turning_laws = (rules, turning_start, header_ranged, still_long, all_turned, index_room, there, line_ranged, turning_more)
