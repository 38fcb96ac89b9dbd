-- The entries beside a table: what holds after the first i lines, and what one line more makes of it. Assumes nothing.
use Prim.Native.Nat.{ℕ, ◌+◌, ◌≤◌, ◌<◌}
use native.Mathlib.Numerals.{add-one}
use native.Mathlib.Omega.{arith}
use mathlib.Core.Path.{◌≡◌, refl, sym, ap, ◌∙◌, subst}
use mathlib.Core.Bool.{Bool, true, false, cond, ◌||◌}
use mathlib.Core.List.{List, [], ◌∷◌, ◌++◌}
use mathlib.Core.Logic.{⊎_elim}
use borrow.Author.Rules.{rules}
use borrow.Author.Tests.{eqb-true, eqb-false}
use lib.Dec.{T, eqb}
use lib.ListN.{length, get_or, take, set, length-set}
use lib.Seq.{length-take-le, take_all, take-suc, get_or-take, get_or-set_same, get_or-set_other}
use mir.Syntax.{w16}
use mir.Val.{Fits}
use Rattle.model.specs.declared.Grammar.TheVariants.{Schedule}
use Rattle.model.specs.declared.Line.{Line}
use Rattle.model.specs.declared.Line.TheVariants.{Free}
use Rattle.model.specs.Files.{operands, is_usable, kind_at, every_usable}
use Rattle.model.proofs.Formed.{usable_below, well_lines, formed_index}
use Rattle.model.proofs.Tests.{and_first, and_second, below_or_not}
use Rattle.operands.specs.declared.OperandsOf.{OperandsOf}
use Rattle.operands.specs.declared.OperandsOf.TheVariants.{One, Two}
use Rattle.operands.specs.Operands.{operands_in}
use Rattle.tables.specs.declared.Record.{Record}
use Rattle.tables.specs.Records.{lines_of, lines_held, IsSchedule}
use Rattle.tables.proofs.HeldLines.{formed_few, formed_long, records_long}
use Rattle.liveness.specs.Live.{is_among, names, entry_of}
use Rattle.liveness.specs.Kept.{set_all, AllBelow, HasEntries}
use Rattle.liveness.proofs.Scans.{NamesEarlier, names_earlier, entry_snoc, entry_first}

-- ---- one number at several places
below_as : (m n : ℕ) (places : List ℕ) → m ≡ n → AllBelow m places → AllBelow n places
below_as m n places e b = subst (λ (k : ℕ). AllBelow k places) e b

pub all_length : (numbers places : List ℕ) (n : ℕ) → length (set_all numbers places n) ≡ length numbers
all_length numbers [] n = refl
all_length numbers (a ∷ places) n = all_length (set numbers a n) places n ∙ length-set numbers a n

set_all_lem : (numbers places : List ℕ) (n v : ℕ) → AllBelow (length numbers) places → get_or (set_all numbers places n) v 0 ≡ cond (is_among places v) n (get_or numbers v 0)
set_all_lem numbers [] n v b = refl
set_all_lem numbers (a ∷ places) n v b =
    set_all_lem (set numbers a n) places n v (below_as (length numbers) (length (set numbers a n)) places (sym (length-set numbers a n)) b.1) ∙ go (eqb a v) refl
  where
    both : (c : Bool) → cond c n n ≡ n
    both true = refl
    both false = refl

    go : (c : Bool) → eqb a v ≡ c → cond (is_among places v) n (get_or (set numbers a n) v 0) ≡ cond (c || is_among places v) n (get_or numbers v 0)
    go true e =
        let same : v ≡ a = sym (eqb-true a v e) in
        ap (λ (m : ℕ). cond (is_among places v) n m) (ap (λ (k : ℕ). get_or (set numbers a n) k 0) same ∙ get_or-set_same numbers a n 0 b.0) ∙ both (is_among places v)
    go false e =
        ap (λ (m : ℕ). cond (is_among places v) n m) (get_or-set_other numbers a v n 0 (λ same. eqb-false a v e (sym same)))

-- ---- the values that a line names
module _ (entries : List ℕ) (w : OperandsOf) (wide : length entries ≡ 1792) (b : AllBelow 1792 (operands_in w)) where
  pub one_place : (a : ℕ) → w ≡ One a → a < 1792
  one_place a e = (subst (λ (o : OperandsOf). AllBelow 1792 (operands_in o)) e b).0

  pub first_place : (a c : ℕ) → w ≡ Two a c → a < 1792
  first_place a c e = (subst (λ (o : OperandsOf). AllBelow 1792 (operands_in o)) e b).0

  pub second_place : (a c : ℕ) → w ≡ Two a c → c < 1792
  second_place a c e = (subst (λ (o : OperandsOf). AllBelow 1792 (operands_in o)) e b).1.0

module _ (entries : List ℕ) (w : OperandsOf) (i : ℕ) where
  pub one_named : (a : ℕ) → w ≡ One a → set entries a i ≡ set_all entries (operands_in w) i
  one_named a e = rw e

  pub two_named : (a c : ℕ) → w ≡ Two a c → set (set entries a i) c i ≡ set_all entries (operands_in w) i
  two_named a c e = rw e

pub ruleset name_laws = (rules, one_place, first_place, second_place, one_named, two_named)

-- ---- a table of a schedule
module _ (records : List Record) (count : ℕ) (t : IsSchedule records count) where
  pub table_few : count ≤ 1792
  table_few = formed_few Schedule t.header records count t.formed

  pub table_long : length records ≡ 1792
  table_long = formed_long Schedule t.header records count t.formed

  pub table_lines_lem : length (lines_held records count) ≡ count
  table_lines_lem = length-take-le count (lines_of records) (omega (arith, records_long records table_long, table_few))

  pub table_earlier : NamesEarlier (lines_held records count)
  table_earlier = names_earlier t.header (lines_held records count) t.formed.lines

-- ---- the loop
pub record Naming (records : List Record) (count : ℕ) (entries : List ℕ) (i : ℕ) : Type 0 where
  pub table : IsSchedule records count
  pub few : count ≤ 1792
  pub wide : length entries ≡ 1792
  pub within : i ≤ count
  pub known : (v : ℕ) → v < i → get_or entries v 0 ≡ entry_of (take i (lines_held records count)) v

pub naming_start : (records : List Record) (count : ℕ) (entries : List ℕ) → IsSchedule records count → length entries ≡ 1792 → Naming records count entries 0
naming_start records count entries t wide = record { table = t; few = table_few records count t; wide = wide; within = omega arith; known = λ v l. absurd (omega arith) }

module _ (records : List Record) (count : ℕ) (entries : List ℕ) (i : ℕ) (k : Naming records count entries i) where
  abbrev lines : List Line
  lines = lines_held records count

  lines_long : length lines ≡ count
  lines_long = table_lines_lem records count k.table

  -- no line is left
  pub naming_done : count ≤ i → HasEntries lines entries
  naming_done end =
      record {
        wide = k.wide;
        entry_is = λ v inside.
            k.known v (omega (arith, inside, lines_long)) ∙ ap (λ (l : List Line). entry_of l v) (take_all i lines (omega (arith, lines_long)));
      }

  module _ (more : i < count) where
    pub room : i < 1792
    room = omega (arith, k.few)

    pub number_fits : Fits w16 i
    number_fits = record { fits = omega (arith, room) }

    pub record_there : i < length records
    record_there = omega (arith, room, table_long records count k.table)

    inside : i < length lines
    inside = omega (arith, lines_long)

    line_is : get_or lines i Free ≡ get_or (lines_of records) i Free
    line_is = get_or-take count (lines_of records) i Free more

    before_long : length (take i lines) ≡ i
    before_long = length-take-le i lines (omega (arith, lines_long))

    module _ (x : Line) (is : x ≡ get_or (lines_of records) i Free) (w : OperandsOf) (named : operands_in w ≡ operands x) where
      usable : T (every_usable (take i lines) (operands_in w))
      usable =
          subst (λ (ns : List ℕ). T (every_usable (take i lines) ns)) (ap operands (line_is ∙ sym is) ∙ sym named)
          (formed_index Schedule k.table.header lines (well_lines Schedule k.table.header lines k.table.formed.lines) i inside).usable

      all_below_lem : (ns : List ℕ) → T (every_usable (take i lines) ns) → AllBelow 1792 ns
      all_below_lem [] u = tt
      all_below_lem (a ∷ ns) u =
          let below = usable_below (take i lines) a (and_first (is_usable (kind_at (take i lines) a)) (every_usable (take i lines) ns) u) in
          (omega (arith, below, before_long, room), all_below_lem ns (and_second (is_usable (kind_at (take i lines) a)) (every_usable (take i lines) ns) u))

      pub names_below : AllBelow 1792 (operands_in w)
      names_below = all_below_lem (operands_in w) usable

      pub line_named : (after : List ℕ) → after ≡ set_all (set entries i i) (operands_in w) i → Naming records count after (i + 1)
      unfolding names
      line_named after e =
          record {
            table = k.table;
            few = k.few;
            wide = ap length e ∙ all_length (set entries i i) (operands_in w) i ∙ length-set entries i i ∙ k.wide;
            within = omega arith;
            known = λ v l. ap (λ (a : List ℕ). get_or a v 0) e ∙ now_known v l;
          }
        where
          wide_then : 1792 ≡ length (set entries i i)
          wide_then = sym (length-set entries i i ∙ k.wide)

          -- before the line names anything: its own entry is its number
          own_known : (v : ℕ) → v < i + 1 → get_or (set entries i i) v 0 ≡ entry_of (take i lines) v
          own_known v l =
              ⊎_elim (λ less. get_or-set_other entries i v i 0 (λ same. omega arith) ∙ k.known v less)
              (λ most.
              let same : v ≡ i = omega arith in
              ap (λ (a : ℕ). get_or (set entries i i) a 0) same ∙ get_or-set_same entries i i 0 (omega (arith, room, k.wide))
              ∙ sym (entry_first lines (table_earlier records count k.table) i (omega (arith, lines_long)))
              ∙ ap (λ (a : ℕ). entry_of (take i lines) a) (sym same))
              (below_or_not v i)

          lines_then : take (i + 1) lines ≡ take i lines ++ (x ∷ [])
          lines_then = ap (λ (n : ℕ). take n lines) (add-one i) ∙ take-suc lines i Free inside ∙ ap (λ (y : Line). take i lines ++ (y ∷ [])) (line_is ∙ sym is)

          now_known : (v : ℕ) → v < i + 1 → get_or (set_all (set entries i i) (operands_in w) i) v 0 ≡ entry_of (take (i + 1) lines) v
          now_known v l =
              set_all_lem (set entries i i) (operands_in w) i v (below_as 1792 (length (set entries i i)) (operands_in w) wide_then names_below)
              ∙ ap (λ (ns : List ℕ). cond (is_among ns v) i (get_or (set entries i i) v 0)) named
              ∙ ap (λ (m : ℕ). cond (is_among (operands x) v) i m) (own_known v l)
              ∙ ap (λ (m : ℕ). cond (is_among (operands x) v) m (entry_of (take i lines) v)) (sym before_long)
              ∙ sym (ap (λ (ls : List Line). entry_of ls v) lines_then ∙ entry_snoc v (take i lines) x)

pub ruleset naming_laws = (rules, naming_start, naming_done, room, number_fits, record_there, names_below, line_named)
