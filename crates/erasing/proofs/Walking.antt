-- The walk over a schedule's lines that erasing and comparing share: what holds of the origins whenever a loop's test is reached, and what
-- is left to erase after one line more. Assumes nothing.
use Prim.Native.Nat.{ℕ, suc, ◌+◌, ◌≤◌, ◌<◌}
use native.Mathlib.Numerals.{add-one}
use native.Mathlib.Omega.{arith}
use mathlib.Core.Path.{◌≡◌, refl, sym, ap, ◌∙◌, subst}
use mathlib.Core.Bool.{Bool, true, false, cond}
use mathlib.Core.List.{List, [], ◌∷◌, ◌++◌}
use mathlib.Core.Logic.{⊎_elim}
use borrow.Author.Rules.{rules}
use lib.Dec.{T}
use lib.ListN.{length, get_or, take, drop, set, replicate, length-set, length-replicate, get_or-replicate, get_or-eq_default}
use lib.Seq.{length-take-le, take-suc-set, get_or-take}
use Rattle.model.specs.declared.Grammar.TheVariants.{Schedule}
use Rattle.model.specs.declared.Line.{Line}
use Rattle.model.specs.declared.Line.TheVariants.{Free}
use Rattle.model.specs.Files.{is_word, operands}
use Rattle.model.specs.Services.{Fate, kept, made_from, renumbered, erase_from}
use Rattle.model.proofs.Tests.{below_or_not}
use Rattle.model.proofs.Formed.{LineFacts, formed_index, well_lines}
use Rattle.text.proofs.Tables.{table_length}
use Rattle.tables.specs.declared.Record.{Record}
use Rattle.tables.specs.Records.{free_record, line_of, lines_of, lines_held, held, is_struck, IsSchedule}
use Rattle.operands.specs.Operands.{first_operand, second_operand, with_operands}
use Rattle.operands.proofs.Operands.{operand_below}
use Rattle.tables.proofs.Words.{record_held}
use Rattle.tables.proofs.HeldLines.{formed_few, formed_long, records_long, next_line_lem, no_line_lem}
use Rattle.erasing.specs.declared.Erased.{Erased}
use Rattle.erasing.specs.declared.Erased.TheVariants.{Kept, Struck}
use Rattle.erasing.specs.Lines.{LineErased, kept_as, struck_from, erased_to, erased_by}
use Rattle.erasing.proofs.LineLaws.{line_kept, line_struck, renamed_is, origin_held}

-- ---- a line of a schedule: its operands are lines before it
module _ (schedule : List Record) (count : ℕ) (formed : IsSchedule schedule count) (i : ℕ) (inside : i < count) where
  abbrev there : Line
  there = get_or (lines_of schedule) i Free

  abbrev held_lines : List Line
  held_lines = lines_held schedule count

  all_long : length held_lines ≡ count
  all_long = table_length Schedule (held formed.header schedule count) formed.formed

  table_few : count ≤ 1792
  table_few = formed_few Schedule formed.header schedule count formed.formed

  pub line_there : i < length schedule
  line_there = omega (arith, table_few, formed_long Schedule formed.header schedule count formed.formed)

  before_long : length (take i held_lines) ≡ i
  before_long = length-take-le i held_lines (omega (arith, all_long))

  facts : LineFacts Schedule formed.header (take i held_lines) there
  facts =
      subst (LineFacts Schedule formed.header (take i held_lines)) (get_or-take count (lines_of schedule) i Free inside)
      (formed_index Schedule formed.header held_lines (well_lines Schedule formed.header held_lines formed.formed.lines) i (omega (arith, all_long)))

  pub word_known : T (is_word Schedule there)
  word_known = facts.word

  named_below : (most : ℕ) → i ≤ most → 0 < most → (j : ℕ) → get_or (operands there) j 0 < most
  named_below most few some j = operand_below (take i held_lines) most (omega (arith, before_long)) some (operands there) facts.usable j

  named : (j : ℕ) → get_or (operands there) j 0 < 1792
  named j = named_below 1792 (omega (arith, table_few)) (omega arith) j

  pub first_small : first_operand there < 1792
  unfolding first_operand
  first_small = named 0

  pub second_small : second_operand there < 1792
  unfolding second_operand
  second_small = named 1

  -- by the line of its record
  abbrev here : Line
  here = line_of (get_or schedule i free_record)

  pub word_here : T (is_word Schedule here)
  word_here = rw (record_held schedule i) word_known

  module _ (a : ℕ) where
    pub first_there : a ≡ first_operand here → a < 1792
    first_there first = rw (first, record_held schedule i) first_small

    pub second_there : a ≡ second_operand here → a < 1792
    second_there second = rw (second, record_held schedule i) second_small

pub ruleset line_laws = (rules, record_held, line_there, word_known, word_here, first_there, second_there)

-- i lines are read, of which `at` are kept; the first i origins are theirs, and before the first line every origin is 0
pub record Walking (schedule : List Record) (count : ℕ) (origins : List ℕ) (at i : ℕ) : Type 0 where
  pub formed : IsSchedule schedule count
  pub long : length schedule ≡ 1792
  pub few : count ≤ 1792
  pub most : i ≤ count
  pub fewer : at ≤ i
  pub wide : length origins ≡ 1792
  pub fresh : i ≡ 0 → origins ≡ replicate 1792 0

-- what is left to erase
abbrev pub rest_of : List Record → ℕ → List ℕ → ℕ → ℕ → List Line
rest_of schedule count origins at i = erase_from (take i origins) at (drop i (lines_held schedule count))

pub walk_start : (schedule : List Record) (count : ℕ) → IsSchedule schedule count → Walking schedule count (replicate 1792 0) 0 0
walk_start schedule count formed =
    record {
      formed = formed;
      long = formed_long Schedule formed.header schedule count formed.formed;
      few = formed_few Schedule formed.header schedule count formed.formed;
      most = omega arith;
      fewer = omega arith;
      wide = length-replicate {A = ℕ} 1792 0;
      fresh = λ e. refl;
    }

module _ (schedule : List Record) (count : ℕ) (origins : List ℕ) (at i : ℕ) (w : Walking schedule count origins at i) where
  abbrev lines : List Line
  lines = lines_held schedule count

  abbrev line : Line
  line = get_or (lines_of schedule) i Free

  -- every line is read
  pub none_left : count ≤ i → rest_of schedule count origins at i ≡ []
  none_left end = ap (erase_from (take i origins) at) (no_line_lem (lines_of schedule) count (records_long schedule w.long) w.few i end)

  pub few_kept : at ≤ count
  few_kept = omega (arith, w.fewer, w.most)

  pub place_fits : at ≤ 1792
  place_fits = omega (arith, few_kept, w.few)

  module _ (inside : i < count) where
    pub walk_on : (o at' : ℕ) → at' ≤ i + 1 → Walking schedule count (set origins i o) at' (i + 1)
    walk_on o at' l =
        record {
          formed = w.formed;
          long = w.long;
          few = w.few;
          most = omega arith;
          fewer = l;
          wide = length-set origins i o ∙ w.wide;
          fresh = λ e. absurd (omega arith);
        }

    -- ---- the operands of line i are lines before it, so their origins are there
    origins_long : length (take i origins) ≡ i
    origins_long = length-take-le i origins (omega (arith, w.wide, w.few))

    origin_is : (j : ℕ) → get_or origins (get_or (operands line) j 0) 0 ≡ get_or (take i origins) (get_or (operands line) j 0) at
    origin_is j =
        let a = get_or (operands line) j 0 in
        ⊎_elim
        (λ some.
        let l = named_below schedule count w.formed i inside i (omega arith) some j in
        sym (get_or-take i origins a 0 l) ∙ origin_held (take i origins) a at (omega (arith, origins_long)))
        (λ none.
        let e : i ≡ 0 = omega arith in
        ap (λ (l : List ℕ). get_or l a 0) (w.fresh e)
        ∙ get_or-replicate 1792 a 0 0 (named schedule count w.formed i inside j)
        ∙ sym (get_or-eq_default (take i origins) at (omega (arith, origins_long)) ∙ (omega (arith, w.fewer))))
        (below_or_not 0 i)

    -- ---- what is left after line i
    abbrev by_erased : LineErased → List Line
    by_erased (kept_as y) = y ∷ rest_of schedule count (set origins i at) (at + 1) (i + 1)
    by_erased (struck_from o) = rest_of schedule count (set origins i o) at (i + 1)

    abbrev by_fate : Fate → List Line
    by_fate fate =
        elim fate [
          | kept ↦ renumbered (take i origins) at line ∷ erase_from (take i origins ++ (at ∷ [])) (suc at) (drop (i + 1) lines)
          | made_from a ↦ erase_from (take i origins ++ (get_or (take i origins) a at ∷ [])) at (drop (i + 1) lines)
        ]

    origins_before : (o : ℕ) → take (i + 1) (set origins i o) ≡ take i origins ++ (o ∷ [])
    origins_before o = rw (add-one i, take-suc-set origins i o (omega (arith, w.wide, w.few)))

    next : rest_of schedule count origins at i ≡ by_erased (erased_by origins line)
    unfolding first_operand second_operand
    next = rw (next_line_lem (lines_of schedule) count (records_long schedule w.long) w.few i inside) (go (is_struck line) refl)
      where
        go : (b : Bool) → is_struck line ≡ b → erase_from (take i origins) at (line ∷ drop (i + 1) lines)
            ≡ by_erased
            (cond b (struck_from (get_or origins (first_operand line) 0))
            (kept_as (with_operands line (get_or origins (first_operand line) 0) (get_or origins (second_operand line) 0))))
        go true e = ap by_fate (line_struck line e) ∙ rw (origins_before (get_or origins (first_operand line) 0), origin_is 0)
        go false e =
            ap by_fate (line_kept line e)
            ∙ rw (origins_before at, add-one at, origin_is 0, origin_is 1, renamed_is (λ a. get_or (take i origins) a at) line)

    -- what the code makes of it
    module _ (r : Erased) (told : erased_to r ≡ erased_by origins line) where
      pub rest_kept :
          (k : Record) → r ≡ Kept k →
          rest_of schedule count origins at i ≡ line_of k ∷ rest_of schedule count (set origins i at) (at + 1) (i + 1)
      rest_kept k e = next ∙ ap by_erased (sym told ∙ ap erased_to e)

      pub rest_struck : (o : ℕ) → r ≡ Struck o → rest_of schedule count origins at i ≡ rest_of schedule count (set origins i o) at (i + 1)
      rest_struck o e = next ∙ ap by_erased (sym told ∙ ap erased_to e)
