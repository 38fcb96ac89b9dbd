-- A table that holds a listing, by what is known of the schedule's lines that it would have with counts: each line's facts. A schedule's table is
-- such a table, and its lines are held to the check's rules. Assumes nothing.
use Prim.Native.Nat.{ℕ, suc, ◌≤◌, ◌<◌}
use native.Mathlib.Omega.{arith}
use mathlib.Core.Path.{◌≡◌, refl, sym, ap, ◌∙◌, subst}
use mathlib.Core.Bool.{Bool, cond}
use mathlib.Core.List.{List, [], ◌∷◌, ◌++◌, map}
use mathlib.Core.Logic.{⊎_elim}
use borrow.Author.Tests.{ne_eqb}
use lib.Dec.{T, eqb, leb→le, le→leb}
use lib.ListN.{length, get_or, take, length-map, get_or-map}
use lib.Seq.{length-take-le, get_or-take}
use Rattle.model.specs.declared.Answer.TheVariants.{Done, Refused}
use Rattle.model.specs.declared.Found.{Found}
use Rattle.model.specs.declared.Grammar.TheVariants.{Schedule}
use Rattle.model.specs.declared.Header.{Header}
use Rattle.model.specs.declared.Line.{Line}
use Rattle.model.specs.declared.Line.TheVariants.{In, Const, Neg, Rot, Add, Mul, Out, Enc, Rs, Ms, Us, Free}
use Rattle.rows.specs.Rows.{place_of}
use Rattle.model.specs.Scales.{header_in_range}
use Rattle.model.specs.Files.{is_word, operands, every_usable, line_formed, lines_formed, well_formed}
use Rattle.model.specs.Machine.{Step, goes, stops, Run, finished, stopped, Machine, and_then, held_by, step, count_in, run_from}
use Rattle.model.specs.Answers.{on_ciphertext, check_machine, rules_answer}
use Rattle.model.proofs.Tests.{and_first, and_second, by_test, below_or_not, within_facts}
use Rattle.model.proofs.Formed.{LineFacts, line_facts, well_header, well_lines, formed_index}
use Rattle.text.specs.Tables.{Table, table_lines, TableFormed}
use Rattle.text.proofs.Tables.{table_length}
use Rattle.listings.specs.Held.{counted_line, counted_table, downscaled, held_machine, held_answer}
use Rattle.tables.specs.declared.Record.{Record}
use Rattle.tables.specs.Records.{line_of, lines_of, lines_held, held}
use Rattle.operands.proofs.Operands.{operand_below}
use Rattle.linerules.proofs.LineLaws.{rescale_counted}

-- ---- a line with a count
-- what does not depend on a rescale's count is the same of the line with a count
pub same_counted : {A : Type 0} (f : Line → A) → ((a c d : ℕ) → f (Rs a c) ≡ f (Rs a d)) → (x : Line) → f (counted_line x) ≡ f x
same_counted f e In = refl
same_counted f e (Const k) = refl
same_counted f e (Neg a) = refl
same_counted f e (Rot a t) = refl
same_counted f e (Add a b) = refl
same_counted f e (Mul a b) = refl
same_counted f e (Out a) = refl
same_counted f e (Enc a s l) = refl
same_counted f e (Rs a c) = by_test (λ (y : Line). f y ≡ f (Rs a c)) (eqb c 0) (Rs a 1) (Rs a c) (λ t. e a 1 c) (λ t. refl)
same_counted f e (Ms a c) = refl
same_counted f e (Us a b) = refl
same_counted f e Free = refl

pub counted_operands : (x : Line) → operands (counted_line x) ≡ operands x
counted_operands x = same_counted operands (λ a c d. refl) x

-- ---- the table of a listing
module _ (h : Header) (records : List Record) (count : ℕ) (f : TableFormed Schedule (counted_table (held h records count))) where
  pub counted_few : count ≤ 1792
  counted_few = leb→le count 1792 f.few

  pub lines_room : length (lines_of records) ≡ 1792
  lines_room = sym (length-map (lines_of records) counted_line) ∙ f.room

  pub records_room : length records ≡ 1792
  records_room = sym (length-map records line_of) ∙ lines_room

  pub lines_long : length (lines_held records count) ≡ count
  lines_long = length-take-le count (lines_of records) (omega (arith, lines_room, counted_few))

  -- its lines with counts
  abbrev pub counted : List Line
  counted = table_lines (counted_table (held h records count))

  pub header_formed : T (header_in_range h)
  header_formed = well_header Schedule h counted f.lines

  module _ (i : ℕ) (inside : i < count) where
    pub counted_is : get_or counted i Free ≡ counted_line (get_or (lines_of records) i Free)
    counted_is = get_or-take count (map counted_line (lines_of records)) i Free inside ∙ get_or-map counted_line (lines_of records) i Free

    counted_long : length counted ≡ count
    counted_long = length-take-le count (map counted_line (lines_of records)) (omega (arith, f.room, counted_few))

    pub counted_facts : LineFacts Schedule h (take i counted) (counted_line (get_or (lines_of records) i Free))
    counted_facts =
        subst (LineFacts Schedule h (take i counted)) counted_is
        (formed_index Schedule h counted (well_lines Schedule h counted f.lines) i (omega (arith, counted_long)))

    pub before_long : length (take i counted) ≡ i
    before_long = length-take-le i counted (omega (arith, counted_long))

    pub word_formed : T (is_word Schedule (get_or (lines_of records) i Free))
    word_formed = subst T (same_counted (is_word Schedule) (λ a c d. refl) (get_or (lines_of records) i Free)) counted_facts.word

    -- what it names stands before it, and 0 is named where it names nothing
    pub named_below : (most : ℕ) → i ≤ most → 0 < most → (j : ℕ) → get_or (operands (get_or (lines_of records) i Free)) j 0 < most
    named_below most few some j =
        let x = get_or (lines_of records) i Free in
        operand_below (take i counted) most (omega (arith, before_long)) some (operands x)
        (subst (λ (names : List ℕ). T (every_usable (take i counted) names)) (counted_operands x) counted_facts.usable) j

-- ---- the table of a schedule
-- a line of a schedule has a count
formed_counted : (h : Header) (before : List Line) (x : Line) → LineFacts Schedule h before x → counted_line x ≡ x
formed_counted h before In c = refl
formed_counted h before (Const k) c = refl
formed_counted h before (Neg a) c = refl
formed_counted h before (Rot a t) c = refl
formed_counted h before (Add a b) c = refl
formed_counted h before (Mul a b) c = refl
formed_counted h before (Out a) c = refl
formed_counted h before (Enc a s l) c = refl
formed_counted h before (Rs a k) c = rescale_counted a k (λ none. let least = (within_facts 1 60 k c.range).least in omega arith)
formed_counted h before (Ms a k) c = refl
formed_counted h before (Us a b) c = refl
formed_counted h before Free c = refl

same_lines : (l : List Line) → ((i : ℕ) → counted_line (get_or l i Free) ≡ get_or l i Free) → map counted_line l ≡ l
same_lines [] e = refl
same_lines (x ∷ l) e = λ j. e 0 j ∷ same_lines l (λ i. e (suc i)) j

module _ (t : Table) (f : TableFormed Schedule t) where
  line_counted : (i : ℕ) → counted_line (get_or t.lines i Free) ≡ get_or t.lines i Free
  line_counted i = ⊎_elim inside past (below_or_not i t.count)
    where
      inside : i < t.count → counted_line (get_or t.lines i Free) ≡ get_or t.lines i Free
      inside below =
          let line_is = get_or-take t.count t.lines i Free below in
          let facts =
          formed_index Schedule t.header (table_lines t) (well_lines Schedule t.header (table_lines t) f.lines) i (omega (arith, table_length Schedule t f)) in
          subst (λ (x : Line). counted_line x ≡ x) line_is (formed_counted t.header (take i (table_lines t)) (get_or (table_lines t) i Free) facts)

      past : t.count ≤ i → counted_line (get_or t.lines i Free) ≡ get_or t.lines i Free
      past over = rw (f.rest i (le→leb t.count i over))

  pub counted_same : counted_table t ≡ t
  counted_same = ap (λ (l : List Line). record { header = t.header; lines = l; count = t.count }) (same_lines t.lines line_counted)

  pub schedule_counted : TableFormed Schedule (counted_table t)
  schedule_counted = subst (TableFormed Schedule) (sym counted_same) f

-- ---- the rules of a schedule are the check's
module _ (h : Header) where
  same_step :
      (before : List Line) (x : Line) → LineFacts Schedule h before x → (ins : ℕ) (found : List Found) →
      step (held_machine h) ins found x ≡ step (check_machine h) ins found x
  same_step before In c ins found = refl
  same_step before (Const k) c ins found = refl
  same_step before (Neg a) c ins found = refl
  same_step before (Rot a t) c ins found = refl
  same_step before (Add a b) c ins found = refl
  same_step before (Mul a b) c ins found = refl
  same_step before (Out a) c ins found = refl
  same_step before (Enc a s l) c ins found = refl
  same_step before (Rs a k) c ins found =
      ap (λ (b : Bool). and_then (held_by (check_machine h) found a) (λ x. cond b (on_ciphertext (downscaled h) x) ((check_machine h).rs x k)))
      (ne_eqb k 0 (λ none. let least = (within_facts 1 60 k c.range).least in omega arith))
  same_step before (Ms a k) c ins found = refl
  same_step before (Us a b) c ins found = refl
  same_step before Free c ins found = refl

  same_run :
      (xs before : List Line) → T (lines_formed Schedule h before xs) → (ins : ℕ) (found : List Found) →
      run_from (held_machine h) ins found xs ≡ run_from (check_machine h) ins found xs
  same_run [] before t ins found = refl
  same_run (x ∷ xs) before t ins found =
      ap (onward (held_machine h)) (same_step before x (line_facts Schedule h before x (and_first (line_formed Schedule h before x) rest t)) ins found)
      ∙ go (step (check_machine h) ins found x)
      (λ v. same_run xs (before ++ (x ∷ [])) (and_second (line_formed Schedule h before x) rest t) (count_in x ins) (found ++ (v ∷ [])))
    where
      rest : Bool
      rest = lines_formed Schedule h (before ++ (x ∷ [])) xs

      onward : Machine Found ℕ → Step Found ℕ → Run Found ℕ
      onward m s = elim s [ goes v ↦ run_from m (count_in x ins) (found ++ (v ∷ [])) xs | stops e ↦ stopped (length found) e ]

      go :
          (s : Step Found ℕ) → ((v : Found) → onward (held_machine h) (goes v) ≡ onward (check_machine h) (goes v)) →
          onward (held_machine h) s ≡ onward (check_machine h) s
      go (goes v) same = same v
      go (stops e) same = refl

  -- what the rules say of a schedule
  pub schedule_answer : (lines : List Line) → T (well_formed Schedule h lines) → held_answer h lines ≡ rules_answer h lines
  schedule_answer lines t =
      ap (λ (r : Run Found ℕ). elim r [ finished found ↦ Done | stopped i n ↦ Refused n (place_of i) ])
      (same_run lines [] (well_lines Schedule h lines t) 0 [])
