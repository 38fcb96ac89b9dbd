-- The loop over a schedule's lines: what holds whenever its test is reached, and what each way on from there keeps. Assumes nothing.
use Prim.Native.Nat.{ℕ, suc, ◌+◌, ◌≤◌, ◌<◌}
use native.Mathlib.Numerals.{add-one}
use native.Mathlib.Omega.{arith}
use mathlib.Core.Path.{◌≡◌, refl, sym, ap, ◌∙◌, subst}
use mathlib.Core.List.{List, [], ◌∷◌, ◌++◌}
use mathlib.Core.Logic.{⊎_elim}
use mathlib.Core.Option.{some}
use borrow.Author.Rules.{rules}
use lib.Dec.{T}
use lib.ListN.{length, get_or, get_elem?, take, drop, set, replicate, length-append, length-set, length-replicate, drop_of_length-le, get_or-append}
use lib.Seq.{drop-cons, get_or-append_seam, get_or-set_same, get_or-set_other, get_or-take}
use Rattle.model.specs.declared.Grammar.TheVariants.{Schedule}
use Rattle.model.specs.declared.Kind.{Kind}
use Rattle.model.specs.declared.Header.{Header}
use Rattle.model.specs.declared.Line.{Line}
use Rattle.model.specs.declared.Line.TheVariants.{Free}
use Rattle.model.specs.declared.Answer.{Answer}
use Rattle.model.specs.declared.Answer.TheVariants.{Done, Refused}
use Rattle.model.specs.declared.Found.{Found}
use Rattle.model.specs.declared.Found.TheVariants as Founds
use Rattle.model.specs.Scales.{header_in_range}
use Rattle.rows.specs.Rows.{place_of}
use Rattle.text.specs.Tables.{TableFormed}
use Rattle.model.specs.Files.{operands, in_range, kind_of, kind_at}
use Rattle.model.specs.Machine.{Step, goes, stops, Run, finished, stopped, step, count_in, run_from, run}
use Rattle.model.proofs.Lists.{found_at}
use Rattle.model.proofs.Tests.{below_or_not}
use Rattle.model.proofs.Formed.{LineFacts}
use Rattle.listings.specs.Held.{counted_line, counted_table, held_machine, held_answer, scale_of}
use Rattle.std.specs.Prelude.{Result, Ok, Err, IfOk}
use Rattle.model.specs.declared.Fault.{Fault}
use Rattle.model.specs.Refusals.{number_of}
use Rattle.bounds.specs.declared.Held.{Held}
use Rattle.bounds.specs.Bounded.{stepped, Small}
use Rattle.linerules.specs.Ruled.{ruled_by}
use Rattle.operands.specs.Operands.{first_operand, second_operand}
use Rattle.tables.specs.declared.Record.{Record}
use Rattle.tables.specs.Records.{lines_of, lines_held, held}
use Rattle.tables.proofs.Beside.{none_most, set_most}
use Rattle.rules.specs.Scales.{no_scales, ScalesLeft}
use Rattle.rules.proofs.Counted.{same_counted, counted, counted_few, records_room, lines_long, header_formed, counted_is, counted_facts, before_long, named_below}
use Rattle.rules.proofs.Operands.{held_at, found_as, step_of, step_is, scale_found}

-- what was found of line x, which holds v
pub record Agrees (x : Line) (v : Held) (found : Found) : Type 0 where
  pub is : found ≡ found_as (kind_of x) v.scale v.level
  pub scale : scale_of found ≡ v.scale

-- The loop's invariant: with what was found of the first i lines, which is what their numbers stand for, the lines left come to what all
-- lines come to.
pub record Checking (h : Header) (records : List Record) (count : ℕ) (scales levels : List ℕ) (i : ℕ) : Type 0 where
  pub formed : TableFormed Schedule (counted_table (held h records count))
  pub scales_wide : length scales ≡ 1792
  pub levels_wide : length levels ≡ 1792
  pub small : (a : ℕ) → Small (held_at scales levels a)
  pub few : count ≤ 1792
  pub within : i ≤ count
  -- how many `in` lines stand before, which the check does not ask
  pub ins : ℕ
  pub found : List Found
  pub long : length found ≡ i
  pub agree : (a : ℕ) → a < i → Agrees (get_or (lines_held records count) a Free) (held_at scales levels a) (get_or found a Founds.Bare)
  pub left : run_from (held_machine h) ins found (drop i (lines_held records count)) ≡ run (held_machine h) (lines_held records count)

pub start :
    (h : Header) (records : List Record) (count : ℕ) (scales : List ℕ) → TableFormed Schedule (counted_table (held h records count)) → scales ≡ no_scales →
    Checking h records count scales (replicate 1792 0) 0
start h records count scales formed none =
    record {
      formed = formed;
      scales_wide = ap (length {A = ℕ}) none ∙ length-replicate {A = ℕ} 1792 0;
      levels_wide = length-replicate {A = ℕ} 1792 0;
      small = λ a. record { scale = rw none (none_most 1792 3600 a); level = none_most 1792 60 a };
      few = counted_few h records count formed;
      within = omega arith;
      ins = 0;
      found = [];
      long = refl;
      agree = λ a l. absurd (omega arith);
      left = refl;
    }

abbrev answer : Run Found ℕ → Answer
answer r = elim r [ finished found ↦ Done | stopped i n ↦ Refused n (place_of i) ]

abbrev scale_at : ℕ → Run Found ℕ → ℕ
scale_at a r = elim r [ finished found ↦ scale_of (get_or found a Founds.Bare) | stopped j n ↦ 0 ]

module _
    (h : Header) (records : List Record) (count : ℕ) (scales levels : List ℕ) (i : ℕ) (k : Checking h records count scales levels i) where
  abbrev lines : List Line
  lines = lines_held records count

  abbrev line : Line
  line = get_or (lines_of records) i Free

  long_lines : length lines ≡ count
  long_lines = lines_long h records count k.formed

  -- no line is left
  all_read : count ≤ i → finished k.found ≡ run (held_machine h) lines
  all_read end =
      let past : length lines ≤ i = omega (arith, long_lines) in
      ap (run_from (held_machine h) k.ins k.found) (sym (drop_of_length-le lines past)) ∙ k.left

  pub all_pass_lem : count ≤ i → Done ≡ held_answer h lines
  all_pass_lem end = ap answer (all_read end)

  pub scales_left : count ≤ i → ScalesLeft h lines scales
  scales_left end =
      record {
        small = λ a. (k.small a).scale;
        found = λ a below. sym (k.agree a (omega (arith, long_lines))).scale ∙ ap (scale_at a) (all_read end);
      }

  pub header_ranged : T (header_in_range h)
  header_ranged = header_formed h records count k.formed

  pub operand_small : (a : ℕ) → Small (held_at scales levels a)
  operand_small a = k.small a

  -- line i, and what is left after it
  abbrev onward : Step Found ℕ → Run Found ℕ
  onward s =
      elim s [
        | goes v ↦ run_from (held_machine h) (count_in line k.ins) (k.found ++ (v ∷ [])) (drop (suc i) lines)
        | stops n ↦ stopped (length k.found) n
      ]

  module _ (more : i < count) where
    pub room : i < 1792
    room = omega (arith, k.few)

    pub record_there : i < length records
    record_there = omega (arith, room, records_room h records count k.formed)

    line_is : get_or lines i Free ≡ line
    line_is = get_or-take count (lines_of records) i Free more

    abbrev before : List Line
    before = take i (counted h records count k.formed)

    facts : LineFacts Schedule h before (counted_line line)
    facts = counted_facts h records count k.formed i more

    rest_is : drop i lines ≡ line ∷ drop (suc i) lines
    rest_is = drop-cons lines i Free (omega (arith, long_lines)) ∙ ap (λ (x : Line). x ∷ drop (suc i) lines) line_is

    kind_is : (a : ℕ) → a < i → kind_of (get_or lines a Free) ≡ kind_at before a
    kind_is a below =
        let inside : a < count = omega arith in
        ap kind_of (get_or-take count (lines_of records) a Free inside)
        ∙ sym (same_counted kind_of (λ b c d. refl) (get_or (lines_of records) a Free))
        ∙ ap kind_of (sym (counted_is h records count k.formed a inside) ∙ sym (get_or-take i (counted h records count k.formed) a Free below))

    before_agree : (a : ℕ) → a < length before → get_elem? k.found a ≡ some (found_as (kind_at before a) (get_or scales a 0) (get_or levels a 0))
    before_agree a l =
        let below : a < i = omega (arith, before_long h records count k.formed i more) in
        found_at k.found a Founds.Bare (omega (arith, k.long))
        ∙ ap some ((k.agree a below).is ∙ ap (λ (j : Kind). found_as j (get_or scales a 0) (get_or levels a 0)) (kind_is a below))

    module _ (x : Line) (is : x ≡ line) where
      pub line_ranged : T (in_range h (counted_line x))
      line_ranged = subst (λ (y : Line). T (in_range h (counted_line y))) (sym is) facts.range

      named_there : (j : ℕ) → get_or (operands x) j 0 < 1792
      named_there j =
          subst (λ (y : Line). get_or (operands y) j 0 < 1792) (sym is)
          (named_below h records count k.formed i more 1792 (omega (arith, room)) (omega arith) j)

      pub first_below : (a : ℕ) → a ≡ first_operand x → a < 1792
      unfolding first_operand
      first_below a e = omega (arith, named_there 0)

      pub second_below : (a : ℕ) → a ≡ second_operand x → a < 1792
      unfolding second_operand
      second_below a e = omega (arith, named_there 1)

      module _
          (a b : ℕ) (first : a ≡ first_operand x) (second : b ≡ second_operand x) (r : Result Held Fault)
          (ruled : stepped r ≡ ruled_by h x (held_at scales levels a) (held_at scales levels b)) where
        told : stepped r ≡ ruled_by h x (held_at scales levels (first_operand x)) (held_at scales levels (second_operand x))
        told = rw (first, second) at ruled

        told_line : stepped r ≡ ruled_by h line (held_at scales levels (first_operand line)) (held_at scales levels (second_operand line))
        told_line = told ∙ ap (λ (y : Line). ruled_by h y (held_at scales levels (first_operand y)) (held_at scales levels (second_operand y))) is

        steps : step (held_machine h) k.ins k.found line ≡ step_of (kind_of line) (stepped r)
        steps = step_is h before k.found scales levels before_agree k.ins line facts ∙ ap (step_of (kind_of line)) (sym told_line)

        next : onward (step_of (kind_of line) (stepped r)) ≡ run (held_machine h) lines
        next = ap onward (sym steps) ∙ ap (run_from (held_machine h) k.ins k.found) (sym rest_is) ∙ k.left

        -- a line that breaks a rule
        pub line_refused : (f : Fault) → r ≡ Err f → Refused (number_of f) (i + 2) ≡ held_answer h lines
        line_refused f e = ap (λ (n : ℕ). Refused (number_of f) (place_of n)) (sym k.long) ∙ ap answer (rw e at next)

        -- a line that breaks none
        module _ (v : Held) (passes : r ≡ Ok v) where
          abbrev found_now : Found
          found_now = found_as (kind_of line) v.scale v.level

          now_agrees : Agrees line v found_now
          now_agrees =
              record {
                is = refl;
                scale =
                    scale_found h line (held_at scales levels (first_operand line)) (held_at scales levels (second_operand line)) v (sym told_line ∙ ap stepped passes);
              }

          seam : get_or (k.found ++ (found_now ∷ [])) i Founds.Bare ≡ found_now
          seam =
              ap (λ (n : ℕ). get_or (k.found ++ (found_now ∷ [])) n Founds.Bare) (sym k.long) ∙ get_or-append_seam k.found found_now [] Founds.Bare

          abbrev AgreesAt : ℕ → Type 0
          AgreesAt a = Agrees (get_or lines a Free) (held_at (set scales i v.scale) (set levels i v.level) a) (get_or (k.found ++ (found_now ∷ [])) a Founds.Bare)

          agree_on : (a : ℕ) → a < i + 1 → AgreesAt a
          agree_on a b = ⊎_elim earlier here (below_or_not a i)
            where
              earlier : a < i → AgreesAt a
              earlier c =
                  rw (
                    get_or-set_other scales i a v.scale 0 (λ same. omega arith),
                    get_or-set_other levels i a v.level 0 (λ same. omega arith),
                    get_or-append k.found (found_now ∷ []) Founds.Bare a (omega (arith, k.long)),
                  )
                  (k.agree a c)

              here : i ≤ a → AgreesAt a
              here c =
                  let same : a ≡ i = omega arith in
                  subst AgreesAt (sym same)
                  (rw (
                    get_or-set_same scales i v.scale 0 (omega (arith, room, k.scales_wide)),
                    get_or-set_same levels i v.level 0 (omega (arith, room, k.levels_wide)),
                    seam,
                    line_is,
                  )
                  now_agrees)

          pub line_passes : IfOk r Small → Checking h records count (set scales i v.scale) (set levels i v.level) (i + 1)
          line_passes small =
              let less : Small v = subst (λ (x : Result Held Fault). IfOk x Small) passes small in
              record {
                formed = k.formed;
                scales_wide = length-set scales i v.scale ∙ k.scales_wide;
                levels_wide = length-set levels i v.level ∙ k.levels_wide;
                small = λ a.
                    record {
                      scale = set_most scales i v.scale 3600 (λ b. (k.small b).scale) less.scale a;
                      level = set_most levels i v.level 60 (λ b. (k.small b).level) less.level a;
                    };
                few = k.few;
                within = omega arith;
                ins = count_in line k.ins;
                found = k.found ++ (found_now ∷ []);
                long = omega (arith, length-append k.found (found_now ∷ []), k.long);
                agree = agree_on;
                left = rw (add-one i) (rw passes at next);
              }

pub ruleset loop_laws = (
  rules,
  start,
  room,
  record_there,
  header_ranged,
  line_ranged,
  operand_small,
  first_below,
  second_below,
  line_refused,
  line_passes,
  all_pass_lem,
  scales_left,
)
