-- The loop that compares a circuit with an erasure: what holds whenever its test is reached, and what each way on from there says.
-- Assumes nothing.
use Prim.Native.Nat.{ℕ, suc, ◌+◌, ◌≤◌, ◌<◌}
use native.Mathlib.Numerals.{add-one}
use native.Mathlib.Omega.{arith}
use mathlib.Core.Path.{◌≡◌, refl, sym, ap, ◌∙◌}
use mathlib.Core.Bool.{Bool, true, false, cond, true≢false}
use mathlib.Core.List.{List, [], ◌∷◌}
use mathlib.Core.Logic.{⊎_elim}
use borrow.Author.Rules.{rules}
use borrow.Author.Tests.{not-true, not-false}
use lib.ListN.{length, get_or, drop, set, replicate}
use lib.Seq.{drop-drop}
use Rattle.model.specs.declared.Header.{Header}
use Rattle.model.specs.declared.Grammar.TheVariants.{Circuit, Schedule}
use Rattle.model.specs.declared.Line.{Line}
use Rattle.model.specs.declared.Line.TheVariants.{Free}
use Rattle.model.specs.declared.Answer.{Answer}
use Rattle.model.specs.declared.Answer.TheVariants.{Refused}
use Rattle.rows.specs.Rows.{place_of}
use Rattle.model.specs.Services.{erase}
use Rattle.model.specs.Answers.{same_line, same_header, compared, rules_answer, check}
use Rattle.model.proofs.Tests.{below_or_not}
use Rattle.text.specs.Tables.{TableFormed, file_of}
use Rattle.tables.specs.declared.Record.{Record}
use Rattle.tables.specs.Records.{free_record, line_of, lines_of, lines_held, held}
use Rattle.tables.proofs.Words.{record_held}
use Rattle.tables.proofs.HeldLines.{formed_few, formed_long, records_long, next_line_lem, no_line_lem}
use Rattle.std.specs.Prelude.{Result, Err}
use Rattle.model.specs.declared.Fault.TheVariants.{AnotherCircuit}
use Rattle.model.specs.declared.Refusal.{Refusal}
use Rattle.erasing.specs.Comparing.{after_compared, begin_with}
use Rattle.erasing.specs.declared.Erased.{Erased}
use Rattle.erasing.specs.declared.Erased.TheVariants.{Kept, Struck}
use Rattle.erasing.specs.Lines.{erased_to, erased_by}
use Rattle.erasing.proofs.Walking.{Walking, rest_of, walk_start, none_left, place_fits, walk_on, rest_kept, rest_struck}

-- ---- a circuit's next line
module _ (circuit : List Record) (size at : ℕ) (long : length circuit ≡ 1792) (few : size ≤ 1792) where
  pub circuit_ends : (x : Line) → size ≤ at → false ≡ begin_with (drop at (lines_held circuit size)) x
  circuit_ends x l = rw (no_line_lem (lines_of circuit) size (records_long circuit long) few at l)

  pub circuit_goes_on :
      (x : Line) (b : Bool) → at < size → b ≡ same_line (line_of (get_or circuit at free_record)) x → b ≡ begin_with (drop at (lines_held circuit size)) x
  circuit_goes_on x b l told = rw (next_line_lem (lines_of circuit) size (records_long circuit long) few at l, ← record_held circuit at) told

pub ruleset next_laws = (rules, formed_few, formed_long, circuit_ends, circuit_goes_on)

-- one line of an erasure more
compared_next :
    (n : ℕ) (xs ys : List Line) (y : Line) (rules : Answer) →
    compared n xs (y ∷ ys) rules ≡ cond (begin_with xs y) (compared (suc n) (drop 1 xs) ys rules) (Refused 12 (place_of n))
compared_next n [] ys y rules = refl
compared_next n (x ∷ xs) ys y rules = refl

-- ---- the loop
module _ (circuit : List Record) (size : ℕ) (schedule : List Record) (count : ℕ) where
  -- what a check says where the headers are the same, by what the rules say
  abbrev pub line_verdict : Answer → Answer
  line_verdict rules = compared 0 (lines_held circuit size) (erase (lines_held schedule count)) rules

  -- The loop's invariant: the circuit's first lines are those that erasing keeps of the schedule's first i, and what is left compares as
  -- the whole does.
  pub record Comparing (origins : List ℕ) (at i : ℕ) : Type 0 where
    pub walk : Walking schedule count origins at i
    pub long : length circuit ≡ 1792
    pub few : size ≤ 1792
    pub within : at ≤ size
    pub left : (rules : Answer) → compared at (drop at (lines_held circuit size)) (rest_of schedule count origins at i) rules ≡ line_verdict rules

  -- the circuit's lines from `at` on against other lines
  abbrev ahead : ℕ → List Line → Answer → Answer
  ahead at ys rules = compared at (drop at (lines_held circuit size)) ys rules

  pub compare_start :
      (header other : Header) → TableFormed Circuit (held header circuit size) → TableFormed Schedule (held other schedule count) → Comparing (replicate 1792 0) 0 0
  compare_start header other formed other-formed =
      record {
        walk = walk_start schedule count (record { header = other; formed = other-formed });
        long = formed_long Circuit header circuit size formed;
        few = formed_few Circuit header circuit size formed;
        within = omega arith;
        left = λ rules. refl;
      }

  module _ (origins : List ℕ) (at i : ℕ) (c : Comparing origins at i) where
    module _ (inside : i < count) (e : Erased) (told : erased_to e ≡ erased_by origins (get_or (lines_of schedule) i Free)) where
      -- a line that is struck
      pub struck_passed :
          (o : ℕ) → e ≡ Struck o → (origins' : List ℕ) (at' : ℕ) → origins' ≡ set origins i o → at' ≡ at → Comparing origins' at' (i + 1)
      struck_passed o is origins' at' q n =
          rw (q, n)
          (record {
            walk = walk_on schedule count origins at i c.walk inside o at (omega (arith, c.walk.fewer));
            long = c.long;
            few = c.few;
            within = c.within;
            left = λ rules.
                ap (λ (l : List Line). ahead at l rules) (sym (rest_struck schedule count origins at i c.walk inside e told o is)) ∙ c.left rules;
          })

      -- a line that stays
      module _
          (k : Record) (is : e ≡ Kept k) (r : Bool)
          (tested : r ≡ begin_with (drop at (lines_held circuit size)) (line_of k)) where
        abbrev onward : List Line
        onward = rest_of schedule count (set origins i at) (at + 1) (i + 1)

        next : (rules : Answer) → cond r (compared (suc at) (drop 1 (drop at (lines_held circuit size))) onward rules) (Refused 12 (place_of at)) ≡ line_verdict rules
        next rules =
            rw tested
            (sym (compared_next at (drop at (lines_held circuit size)) onward (line_of k) rules)
            ∙ ap (λ (l : List Line). ahead at l rules) (sym (rest_kept schedule count origins at i c.walk inside e told k is))
            ∙ c.left rules)

        pub line_differs :
            r ≡ false → (answer : Refusal) → answer ≡ record { fault = AnotherCircuit; place = place_of at } → (rules : Answer) →
            after_compared (Err answer) rules ≡ line_verdict rules
        line_differs z answer a rules = rw a (rw z at (next rules))

        -- then the circuit has a line there
        inside_circuit : r ≡ true → at < size
        inside_circuit z =
            ⊎_elim (λ l. l)
            (λ l. absurd (true≢false (sym z ∙ tested ∙ sym (circuit_ends circuit size at c.long c.few (line_of k) l))))
            (below_or_not at size)

        pub line_agrees :
            r ≡ true → (origins' : List ℕ) (at' : ℕ) → origins' ≡ set origins i at → at' ≡ at + 1 → Comparing origins' at' (i + 1)
        line_agrees z origins' at' q k =
            rw (q, k)
            (record {
              walk = walk_on schedule count origins at i c.walk inside at (at + 1) (omega (arith, c.walk.fewer));
              long = c.long;
              few = c.few;
              within = omega (arith, inside_circuit z);
              left = λ rules. rw (z, drop-drop 1 at (lines_held circuit size), ← add-one at) at (next rules);
            })

    -- every line is read
    module _ (end : count ≤ i) where
      rest : (rules : Answer) → compared at (drop at (lines_held circuit size)) [] rules ≡ line_verdict rules
      rest rules = ap (λ (l : List Line). ahead at l rules) (sym (none_left schedule count origins at i c.walk end)) ∙ c.left rules

      pub all_agree : at ≡ size → (rules : Answer) → rules ≡ line_verdict rules
      all_agree e rules = rw (no_line_lem (lines_of circuit) size (records_long circuit c.long) c.few at (omega arith)) at (rest rules)

      pub longer_circuit :
          (at ≡ size → ⊥) → (answer : Refusal) → answer ≡ record { fault = AnotherCircuit; place = place_of at } → (rules : Answer) →
          after_compared (Err answer) rules ≡ line_verdict rules
      longer_circuit f answer a rules =
          let l : at < size = omega (arith, f, c.within) in
          rw a (rw (next_line_lem (lines_of circuit) size (records_long circuit c.long) c.few at l) at (rest rules))

-- ---- the headers
module _ (header other : Header) (circuit : List Record) (size : ℕ) (schedule : List Record) (count : ℕ) (r : Bool) (tested : r ≡ same_header header other) where
  abbrev checked : Answer
  checked = check (file_of (held header circuit size)) (file_of (held other schedule count))

  pub header_differs : r ≡ false → Refused 12 1 ≡ checked
  header_differs e = rw (← tested, e)

  pub by_lines :
      r ≡ true → (answer : Result Unit Refusal) →
      after_compared answer (rules_answer other (lines_held schedule count)) ≡ line_verdict circuit size schedule count (rules_answer other (lines_held schedule count)) →
      after_compared answer (rules_answer other (lines_held schedule count)) ≡ checked
  by_lines e answer is = rw (← tested, e) is

pub ruleset compare_laws = (
  rules,
  not-true,
  not-false,
  place_fits,
  formed_few,
  formed_long,
  compare_start,
  header_differs,
  by_lines,
  line_differs,
  all_agree,
  longer_circuit,
)
