-- The loop of `plan_table`: what holds whenever its test is reached, and that one circuit line more keeps it. Assumes nothing.
use Prim.Native.Nat.{ℕ, zero, suc, ◌+◌, ◌*◌, ◌≤◌, ◌<◌}
use native.Mathlib.Decide.{dec_le}
use native.Mathlib.Numerals.{add-one}
use native.Mathlib.Omega.{arith}
use mathlib.Core.Path.{◌≡◌, refl, sym, ap, ap₂, ◌∙◌, subst}
use mathlib.Core.Bool.{Bool}
use mathlib.Core.List.{List, [], ◌∷◌, ◌++◌, append-nil}
use mathlib.Core.Option.{some, none-ne-some}
use borrow.Author.Rules.{rules}
use lib.Dec.{T, leb→le}
use lib.IntN.{ℤ, pos}
use lib.ListN.{length, get_or, get_elem?, take, drop, set, replicate, length-replicate, length-map, length-set, take-append-drop}
use lib.Seq.{take-suc, take-suc-set, take-take, get_or-take, get_or-set_same, get_or-set_other, length-take-le, append_snoc}
use mir.Syntax.{w16, w32}
use mir.Val.{Fits, SFits}
use Rattle.ints.specs.Parts.{negative}
use Rattle.ints.proofs.Linear.{signed}
use Rattle.rows.specs.Rows.{place_of}
use Rattle.model.specs.declared.Grammar.TheVariants.{Circuit}
use Rattle.model.specs.declared.Header.{Header}
use Rattle.model.specs.declared.Kind.{Kind}
use Rattle.model.specs.declared.Kind.TheVariants as Kinds
use Rattle.model.specs.declared.Line.{Line}
use Rattle.model.specs.declared.Line.TheVariants.{Free}
use Rattle.model.specs.declared.Choice.{Choice}
use Rattle.model.specs.declared.Best.{Best}
use Rattle.model.specs.declared.Best.TheVariants as Bests
use Rattle.model.specs.Files.{well_formed, operands, every_usable, kind_at, is_usable, is_ciphertext}
use Rattle.model.specs.Machine.{Step, goes, stops, Run, finished, stopped, step, count_in, run_from, run}
use Rattle.model.specs.Plan.{Draft, best_machine, choice_of, plan_line, plan_from, plan_lines}
use Rattle.model.specs.Refusals.{number_of}
use Rattle.model.specs.Scales.{header_in_range}
use Rattle.model.specs.Services as Services
use Rattle.model.specs.Services.{plan}
use Rattle.model.proofs.Tests.{and_first, and_second, is_ciphertext_lem, HeaderFacts, header_facts}
use Rattle.model.proofs.Lists.{found_below, found_after, found_last, found_at, found_is, found_snoc}
use Rattle.model.proofs.Runs.{stops_goes, Continued, continued}
use Rattle.model.proofs.Reason.{only_six}
use Rattle.model.proofs.Formed.{LineFacts, formed_line, well_header, well_lines, well_take, usable_below}
use Rattle.model.proofs.Outcomes.{Outcome}
use Rattle.model.proofs.Supplies.{few_bits, ValidBest, kind_for}
use Rattle.model.proofs.Planned.{Whole, planned}
use Rattle.text.specs.Tables.{file_of}
use Rattle.operands.specs.Operands.{first_operand, second_operand}
use Rattle.tables.specs.declared.files.CircuitTable.{CircuitTable}
use Rattle.tables.specs.Files.{circuit_held}
use Rattle.tables.specs.declared.Record.{Record}
use Rattle.tables.specs.Records.{line_of, lines_of, lines_held, free_records}
use Rattle.tables.proofs.Records.{free_long}
use Rattle.choices.specs.Ranges.{Small}
use Rattle.choices.proofs.Readings.{small_fits}
use Rattle.conversions.specs.declared.Drafted.{Drafted}
use Rattle.conversions.specs.declared.Operand.{Operand}
use Rattle.conversions.specs.Drafts.{Room, Wrote}
use Rattle.conversions.specs.Operands.{best_of, operand_in}
use Rattle.conversions.proofs.PutLaws.{reading, read_same}
use Rattle.std.specs.Prelude.{Result, Ok, Err}
use Rattle.model.specs.declared.Fault.{Fault}
use Rattle.model.specs.declared.Fault.TheVariants.{TooFewLevels}
use Rattle.linechoices.specs.Steps.{step_on, line_choice, Known}
use Rattle.planlines.specs.Lines.{line_on, Stands, Plannable, DoneAs}
use Rattle.plantable.specs.Plans.{planned_of}
use Rattle.plantable.proofs.Alone.{known_of, Extends, Seen, Alone, StopsAs, alone}

pub operand_is : (before : List Line) (reserves : List ℤ) (levels numbers : List ℕ) (a : ℕ) (k : Kind) (c : Bool) → k ≡ kind_at before a → c ≡ is_ciphertext k →
    SFits w32 (get_or reserves a (pos 0)) →
    record { ciphertext = c; reserve = reading (get_or reserves a (pos 0)); level = get_or levels a 0; number = get_or numbers a 0 } ≡ operand_in before reserves levels numbers a
operand_is before reserves levels numbers a k c e f s = rw (f, e, read_same (get_or reserves a (pos 0)) s)

pub ruleset operand_laws = (rules, operand_is)

-- a line that is not done has too few levels
pub only_too_few : (s : Step Best ℕ) (f : Fault) → line_choice s ≡ Err f → f ≡ TooFewLevels
only_too_few (goes v) f q = absurd (let z : ◌≡◌ {A = ℕ} 0 1 = cc in omega arith)
only_too_few (stops n) f q = cc

pub too_few_levels : (r : Result Choice Fault) (s : Step Best ℕ) → r ≡ line_choice s → (f : Fault) → r ≡ Err f → f ≡ TooFewLevels
too_few_levels r s is f k = only_too_few s f (sym is ∙ k)

-- ---- the loop
-- what is held of a value whose best is b
pub record Entry (reserves : List ℤ) (levels : List ℕ) (a : ℕ) (b : Best) : Type 0 where
  pub reserve_is : get_or reserves a (pos 0) ≡ (choice_of b).reserve
  pub level_is : get_or levels a 0 ≡ (choice_of b).level

-- With i circuit lines planned, whose best reserves, levels and numbers in the schedule are the first i of the three arrays, planning goes on
-- from what is written, whatever lines follow.
pub record Planning (t : CircuitTable) (schedule : List Record) (reserves : List ℤ) (levels numbers : List ℕ) (count i : ℕ) : Type 0 where
  pub room : length schedule ≡ 1792
  pub few : count ≤ 7 * i
  pub within : i ≤ t.count
  pub wide : length reserves ≡ 256
  pub leveled : length levels ≡ 256
  pub numbered : length numbers ≡ 256
  pub small : (a : ℕ) → Small (get_or reserves a (pos 0))
  pub bests : List Best
  pub runs : run (best_machine t.header) (lines_held t.records.now i) ≡ finished bests
  pub known : (a : ℕ) (b : Best) → get_elem? bests a ≡ some b → Entry reserves levels a b
  pub onward : (full : List Best) → Extends t.header bests (take i numbers) full → (rest : List Line)
      → plan_lines t.header full (lines_held t.records.now i ++ rest) ≡ plan_from t.header full (take i numbers) (lines_held schedule count) rest

pub start : (t : CircuitTable) (schedule : List Record) (reserves : List ℤ) (levels numbers : List ℕ) →
    schedule ≡ free_records → reserves ≡ replicate 256 (pos 0) → length levels ≡ 256 → length numbers ≡ 256 →
    Planning t schedule reserves levels numbers 0 0
start t schedule reserves levels numbers free r l n =
    record {
      room = free_long schedule free;
      few = omega arith;
      within = omega arith;
      wide = ap length r ∙ length-replicate 256 (pos 0);
      leveled = l;
      numbered = n;
      small = λ a. rw r (zeros 256 a);
      bests = [];
      runs = refl;
      known = λ a b e. absurd (none-ne-some _ e);
      onward = λ full e rest. refl;
    }
  where
    zeros : (n a : ℕ) → Small (get_or (replicate n (pos 0)) a (pos 0))
    zeros zero a = record { low = omega signed; high = omega signed }
    zeros (suc n) zero = record { low = omega signed; high = omega signed }
    zeros (suc n) (suc a) = zeros n a

below_usable : (before : List Line) (named : List ℕ) (k : ℕ) → T (every_usable before named) → get_or named k 0 ≤ length before
below_usable before [] k u = omega arith
below_usable before (a ∷ named) zero u = let b = usable_below before a (and_first (is_usable (kind_at before a)) (every_usable before named) u) in omega arith
below_usable before (a ∷ named) (suc k) u = below_usable before named k (and_second (is_usable (kind_at before a)) (every_usable before named) u)

module _ {t : CircuitTable} {schedule : List Record} {reserves : List ℤ} {levels numbers : List ℕ} {count i : ℕ}
    (w : Planning t schedule reserves levels numbers count i) where
  abbrev h : Header
  h = t.header

  abbrev records : List Record
  records = t.records.now

  abbrev size : ℕ
  size = t.count

  abbrev lines : List Line
  lines = lines_held records size

  abbrev plan_for : Run Best ℕ → Services.Planned
  plan_for r = elim r [
    | finished best ↦ Services.scheduled (record { header = h; lines = plan_lines h best lines })
    | stopped j n ↦ Services.unplanned n (place_of j)
  ]

  pub small_size : size ≤ 256
  small_size = leb→le size 256 t.formed.few

  records_long : length (lines_of records) ≡ 1792
  records_long = t.formed.room

  pub all_planned : size ≤ i → planned_of h schedule (Ok count) ≡ plan (file_of (circuit_held t))
  all_planned end =
      sym (ap plan_for (ap (λ (n : ℕ). run (best_machine h) (lines_held records n)) (sym same) ∙ w.runs)
      ∙ ap (λ (l : List Line). Services.scheduled (record { header = h; lines = l }))
      (ap (λ (n : ℕ). plan_lines h w.bests (lines_held records n)) (sym same) ∙ ap (plan_lines h w.bests) (sym (append-nil (lines_held records i)))
      ∙ w.onward w.bests (λ a b e. found_is w.bests a Bests.Constant e) []))
    where
      same : i ≡ size
      same = omega (arith, w.within)

  pub plan_fits : count ≤ 1792
  plan_fits = omega (arith, w.few, w.within, small_size)

  -- no record is added
  pub same_room : (before : List Record) → before ≡ free_records → length schedule ≡ length before
  same_room before free = w.room ∙ sym (free_long before free)

  -- each array has a place for any line of a circuit
  pub in_reserves : (a : ℕ) → a < 256 → a < length reserves
  in_reserves a f = omega (arith, w.wide)

  pub in_levels : (a : ℕ) → a < 256 → a < length levels
  in_levels a f = omega (arith, w.leveled)

  pub in_numbers : (a : ℕ) → a < 256 → a < length numbers
  in_numbers a f = omega (arith, w.numbered)

  pub records_within : i ≤ length records
  records_within = omega (arith, w.within, small_size, t.formed.room, length-map records line_of)

  module _ (more : i < size) where
    pub index_small : i < 256
    index_small = omega (arith, small_size)

    pub record_below : i < length records
    record_below = omega (arith, small_size, t.formed.room, length-map records line_of)

    pub line_room : Room schedule count 7
    line_room = record { long = w.room; below = omega (arith, w.few, small_size) }

    abbrev before : List Line
    before = lines_held records i

    before_length : length before ≡ i
    before_length = length-take-le i (lines_of records) (omega (arith, records_long, small_size))

    range_held : T (header_in_range h)
    range_held = well_header Circuit h lines t.formed.lines

    H : HeaderFacts h
    H = header_facts h range_held

    -- the first lines
    whole : (n : ℕ) → n ≤ size → (bests : List Best) → run (best_machine h) (lines_held records n) ≡ finished bests
        → Whole h H (lines_held records n) bests (plan_lines h bests (lines_held records n))
    whole n k bests e =
        planned h H (lines_held records n)
        (well_lines Circuit h (lines_held records n)
        (subst (λ (l : List Line). T (well_formed Circuit h l)) (take-take n size (lines_of records) k) (well_take Circuit h lines n t.formed.lines))) e

    so_far : Whole h H before w.bests (plan_lines h w.bests before)
    so_far = whole i w.within w.bests w.runs

    bests_long : length w.bests ≡ i
    bests_long = so_far.progress.long ∙ before_length

    valid_small : (b : Best) → ValidBest h H b → Small (choice_of b).reserve
    valid_small Bests.Constant v = record { low = omega signed; high = omega signed }
    valid_small (Bests.Ciphertext p) v =
        record {
          low = omega (signed, ap negative v.whole);
          high = omega (signed, v.fits, few_bits h H p.level v.top, ap negative v.whole);
        }

    valid_level : (b : Best) → ValidBest h H b → (choice_of b).level ≤ 60
    valid_level Bests.Constant v = omega arith
    valid_level (Bests.Ciphertext p) v = omega (arith, v.top, H.top.most)

    -- what the code makes of value a
    abbrev operand_at : ℕ → Operand
    operand_at a = operand_in before reserves levels numbers a

    module _ (a : ℕ) (u : T (is_usable (kind_at before a))) where
      below : a < i
      below = omega (arith, usable_below before a u, before_length)

      abbrev own : Best
      own = get_or w.bests a Bests.Constant

      there : get_elem? w.bests a ≡ some own
      there = found_at w.bests a Bests.Constant (omega (arith, bests_long, below))

      kind_is : kind_at before a ≡ kind_for h H own
      kind_is = so_far.progress.kinds a (get_or before a Free) own (found_at before a Free (usable_below before a u)) there u

      seen : Seen h w.bests (take i numbers) a (operand_at a)
      seen =
          record {
            best = own;
            there = there;
            known = rw (kind_is, (w.known a own there).reserve_is, (w.known a own there).level_is) (by_best own);
            number_is = get_or-take i numbers a 0 below;
          }
        where
          by_best : (b : Best)
              → best_of (record { ciphertext = is_ciphertext (kind_for h H b); reserve = (choice_of b).reserve; level = (choice_of b).level; number = get_or numbers a 0 }) ≡ known_of b
          by_best Bests.Constant = refl
          by_best (Bests.Ciphertext p) = refl

      standing : kind_at before a ≡ Kinds.Ciphertext → Stands h (operand_at a)
      standing c =
          rw ((w.known a own there).reserve_is, (w.known a own there).level_is)
          (by_kind own (sym kind_is ∙ c) (so_far.progress.valid a own there))
        where
          by_kind : (b : Best) → kind_for h H b ≡ Kinds.Ciphertext → ValidBest h H b
              → Stands h (record { ciphertext = is_ciphertext (kind_at before a); reserve = (choice_of b).reserve; level = (choice_of b).level; number = get_or numbers a 0 })
          by_kind Bests.Constant e v = absurd (let z : ◌≡◌ {A = ℕ} 0 1 = cc in omega arith)
          by_kind (Bests.Ciphertext p) e v = record { fits = v.fits; least = v.least; top = v.top }

    plannable : (a : ℕ) → Plannable h (operand_at a)
    plannable a = record { small = w.small a; stands = λ e. ciphertext (is_ciphertext_lem (kind_at before a) (subst T (sym e) tt)) }
      where
        ciphertext : kind_at before a ≡ Kinds.Ciphertext → Stands h (operand_at a)
        ciphertext c = standing a (subst (λ (k : Kind). T (is_usable k)) (sym c) tt) c

    -- line i, which is x
    module _ (x : Line) (ex : x ≡ get_or (lines_of records) i Free) where
      with_line : lines_held records (i + 1) ≡ before ++ (x ∷ [])
      with_line = rw (add-one i, ex) (take-suc (lines_of records) i Free (omega (arith, records_long, small_size)))

      abbrev rest : List Line
      rest = drop (i + 1) lines

      all_lines : before ++ (x ∷ rest) ≡ lines
      all_lines =
          sym (append_snoc before x rest) ∙ ap (λ (l : List Line). l ++ rest) (sym with_line ∙ sym (take-take (i + 1) size (lines_of records) (omega arith)))
          ∙ take-append-drop (i + 1) lines

      facts : LineFacts Circuit h before x
      facts = formed_line Circuit h lines (well_lines Circuit h lines t.formed.lines) before x rest all_lines

      operand_below : (k : ℕ) → get_or (operands x) k 0 ≤ i
      operand_below k = omega (arith, below_usable before (operands x) k facts.usable, before_length)

      -- an operand's number is one of the circuit's
      pub first_small : (a : ℕ) → a ≡ first_operand x → a < 256
      unfolding first_operand
      first_small a e = omega (arith, operand_below 0, index_small)

      pub second_small : (b : ℕ) → b ≡ second_operand x → b < 256
      unfolding second_operand
      second_small b e = omega (arith, operand_below 1, index_small)

      -- what the code makes of its operands
      module _ (a b : ℕ) (ea : a ≡ first_operand x) (eb : b ≡ second_operand x) (o o' : Operand) (eo : o ≡ operand_at a) (eo' : o' ≡ operand_at b) where
        first_is : o ≡ operand_at (first_operand x)
        first_is = eo ∙ ap operand_at ea

        second_is : o' ≡ operand_at (second_operand x)
        second_is = eo' ∙ ap operand_at eb

        by_itself : (ins : ℕ) → Outcome (StopsAs h w.bests (take i numbers) o o' x) (Alone h w.bests (take i numbers) o o' x) (step (best_machine h) ins w.bests x)
        by_itself ins =
            alone h w.bests (take i numbers) o o' before ins x facts.word facts.usable
            (λ u. subst (Seen h w.bests (take i numbers) (first_operand x)) (sym first_is) (seen (first_operand x) u))
            (λ u. subst (Seen h w.bests (take i numbers) (second_operand x)) (sym second_is) (seen (second_operand x) u))

        on : (more : List Line) → Continued (best_machine h) 0 [] before (x ∷ more) w.bests
        on more = continued (best_machine h) before 0 [] (x ∷ more) w.bests w.runs

        -- a line that stops the machine stops the whole run
        run_stops : (n : ℕ) → step_on h x o o' ≡ stops n → run (best_machine h) lines ≡ stopped i n
        run_stops n e = ap (run (best_machine h)) (sym all_lines) ∙ (on rest).goes_on ∙ go (step (best_machine h) (on rest).ins w.bests x) (by_itself (on rest).ins)
          where
            go : (s : Step Best ℕ) → Outcome (StopsAs h w.bests (take i numbers) o o' x) (Alone h w.bests (take i numbers) o o' x) s
                → ◌≡◌ {A = Run Best ℕ}
                (elim s [ goes v ↦ run_from (best_machine h) (count_in x (on rest).ins) (w.bests ++ (v ∷ [])) rest | stops m ↦ stopped (length w.bests) m ]) (stopped i n)
            go (goes v) A = stops_goes (sym e ∙ A.goes_on)
            go (stops m) q = ap₂ stopped bests_long (same (sym q ∙ e))
              where
                same : ◌≡◌ {A = Step Best ℕ} (stops m) (stops n) → m ≡ n
                same p = cc

        pub line_known : Known h x o o'
        line_known =
            record {
              range_held = range_held;
              first = subst (λ (q : Operand). Small q.reserve) (sym eo) (w.small a);
              second = subst (λ (q : Operand). Small q.reserve) (sym eo') (w.small b);
              only_six = λ n e. only_six h lines t.formed.lines i n (run_stops n e);
            }

        module _ (r : Result Choice Fault) (is : r ≡ line_choice (step_on h x o o')) where
          pub too_few : (f : Fault) → r ≡ Err f → planned_of h schedule (Err (record { fault = f; place = i + 2 })) ≡ plan (file_of (circuit_held t))
          too_few f k = go (step_on h x o o') refl (sym is ∙ k)
            where
              go : (s : Step Best ℕ) → step_on h x o o' ≡ s → line_choice s ≡ Err f
                  → planned_of h schedule (Err (record { fault = f; place = i + 2 })) ≡ plan (file_of (circuit_held t))
              go (goes v) e q = absurd (let z : ◌≡◌ {A = ℕ} 0 1 = cc in omega arith)
              go (stops n) e q = sym (ap plan_for (run_stops n e) ∙ ap (λ (m : ℕ). Services.unplanned m (i + 2)) (line_known.only_six n e ∙ ap number_of (sym (only_too_few (stops n) f q))))

          module _ (p : Choice) (ok : r ≡ Ok p) where
            -- the line's best, and the line by itself
            record Went : Type 0 where
              best : Best
              runs : run (best_machine h) (lines_held records (i + 1)) ≡ finished (w.bests ++ (best ∷ []))
              alone : Alone h w.bests (take i numbers) o o' x best
              is_choice : p ≡ choice_of alone.itself

            went : Went
            went = go (step (best_machine h) (on []).ins w.bests x) (by_itself (on []).ins) (ap (run (best_machine h)) with_line ∙ (on []).goes_on)
              where
                done : (s : Step Best ℕ) → step_on h x o o' ≡ s → Ok p ≡ line_choice s
                done s e = sym ok ∙ is ∙ ap line_choice e

                go : (s : Step Best ℕ) → Outcome (StopsAs h w.bests (take i numbers) o o' x) (Alone h w.bests (take i numbers) o o' x) s
                    → run (best_machine h) (lines_held records (i + 1))
                    ≡ (elim s [ goes v ↦ finished (w.bests ++ (v ∷ [])) | stops m ↦ stopped (length w.bests) m ])
                    → Went
                go (goes v) A e = record { best = v; runs = e; alone = A; is_choice = same (done (goes A.itself) A.goes_on) }
                  where
                    same : {q : Choice} → ◌≡◌ {A = Result Choice Fault} (Ok p) (Ok q) → p ≡ q
                    same d = cc
                go (stops n) q e = absurd (never (done (stops n) q))
                  where
                    never : ◌≡◌ {A = Result Choice Fault} (Ok p) (Err TooFewLevels) → ⊥
                    never d = let z : ◌≡◌ {A = ℕ} 0 1 = cc in omega arith

            pub done_as : DoneAs h x o o' p
            done_as =
                record {
                  range_held = range_held;
                  first = subst (Plannable h) (sym eo) (plannable a);
                  second = subst (Plannable h) (sym eo') (plannable b);
                  best = went.alone.itself;
                  goes_on = went.alone.goes_on;
                  is = went.is_choice;
                }

            valid : ValidBest h H went.best
            valid =
                (whole (i + 1) (omega arith) (w.bests ++ (went.best ∷ [])) went.runs).progress.valid (length w.bests) went.best (found_last w.bests went.best)

            level_own : p.level ≡ (choice_of went.best).level
            level_own = ap (λ (q : Choice). q.level) went.is_choice ∙ went.alone.level_is

            reserve_own : p.reserve ≡ (choice_of went.best).reserve
            reserve_own = ap (λ (q : Choice). q.reserve) went.is_choice ∙ went.alone.reserve_is

            pub level_fits : Fits w16 p.level
            level_fits = record { fits = omega (arith, level_own, valid_level went.best valid) }

            reserve_small : Small p.reserve
            reserve_small = rw reserve_own (valid_small went.best valid)

            module _ (after : List Record) (d : Drafted) (W : Wrote (line_on h p x o o' (lines_held schedule count)) (count + 7) d after) where
              abbrev bests_then : List Best
              bests_then = w.bests ++ (went.best ∷ [])

              abbrev reserves_then : List ℤ
              reserves_then = set reserves i (reading p.reserve)

              abbrev levels_then : List ℕ
              levels_then = set levels i p.level

              abbrev numbers_then : List ℕ
              numbers_then = take i numbers ++ (d.number ∷ [])

              reserve_read : reading p.reserve ≡ p.reserve
              reserve_read = read_same p.reserve (small_fits p.reserve reserve_small)

              stored_small : (c : ℕ) → Small (get_or reserves_then c (pos 0))
              stored_small c =
                  elim (dec_le i c) [
                    | yes g ↦ elim (dec_le c i) [
                      | yes k ↦ here (omega arith)
                      | no k ↦ other (λ e. k (omega arith))
                    ]
                    | no g ↦ other (λ e. g (omega arith))
                  ]
                where
                  here : c ≡ i → Small (get_or reserves_then c (pos 0))
                  here e = rw (e, get_or-set_same reserves i (reading p.reserve) (pos 0) (omega (arith, w.wide, index_small)), reserve_read) reserve_small

                  other : (c ≡ i → ⊥) → Small (get_or reserves_then c (pos 0))
                  other f = rw (get_or-set_other reserves i c (reading p.reserve) (pos 0) f) (w.small c)

              entries : (c : ℕ) (v : Best) → get_elem? bests_then c ≡ some v → Entry reserves_then levels_then c v
              entries c v e = found_snoc w.bests went.best c e (Entry reserves_then levels_then c v) old new
                where
                  old : get_elem? w.bests c ≡ some v → Entry reserves_then levels_then c v
                  old f =
                      let less = found_below w.bests c f in
                      let far : c ≡ i → ⊥ = (λ q. absurd (over less q)) in
                      record {
                        reserve_is = get_or-set_other reserves i c (reading p.reserve) (pos 0) far ∙ (w.known c v f).reserve_is;
                        level_is = get_or-set_other levels i c p.level 0 far ∙ (w.known c v f).level_is;
                      }
                    where
                      over : c < length w.bests → c ≡ i → ⊥
                      over l q = omega (arith, bests_long)

                  new : c ≡ length w.bests → went.best ≡ v → Entry reserves_then levels_then c v
                  new f q =
                      let here : c ≡ i = f ∙ bests_long in
                      record {
                        reserve_is = rw here
                            (get_or-set_same reserves i (reading p.reserve) (pos 0) (omega (arith, w.wide, index_small)) ∙ reserve_read ∙ reserve_own
                            ∙ ap (λ (u : Best). (choice_of u).reserve) q);
                        level_is = rw here
                            (get_or-set_same levels i p.level 0 (omega (arith, w.leveled, index_small)) ∙ level_own ∙ ap (λ (u : Best). (choice_of u).level) q);
                      }

              numbers_taken : length (take i numbers) ≡ i
              numbers_taken = length-take-le i numbers (omega (arith, w.numbered, index_small))

              numbers_are : take (i + 1) (set numbers i d.number) ≡ numbers_then
              numbers_are = rw (add-one i) (take-suc-set numbers i d.number (omega (arith, w.numbered, index_small)))

              -- the plan of the line, whatever lines follow
              goes_on : (full : List Best) → Extends h bests_then numbers_then full → (rest : List Line)
                  → plan_lines h full (lines_held records (i + 1) ++ rest) ≡ plan_from h full numbers_then (lines_held after d.count) rest
              goes_on full e rest =
                  ap (λ (l : List Line). plan_lines h full (l ++ rest)) with_line ∙ ap (plan_lines h full) (append_snoc before x rest)
                  ∙ w.onward full so_extends (x ∷ rest) ∙ ap from (draft_is ∙ sym W.same)
                where
                  so_extends : Extends h w.bests (take i numbers) full
                  so_extends a b f = e a b (found_after w.bests (went.best ∷ []) a f)

                  from : Draft → List Line
                  from g = plan_from h full (take i numbers ++ (g.number ∷ [])) g.lines rest

                  own_best : get_or full (length (take i numbers)) Bests.Constant ≡ went.best
                  own_best =
                      ap (λ (n : ℕ). get_or full n Bests.Constant) (numbers_taken ∙ sym bests_long) ∙ e (length w.bests) went.best (found_last w.bests went.best)

                  draft_is : plan_line h full (take i numbers) (choice_of (get_or full (length (take i numbers)) Bests.Constant)) x (lines_held schedule count)
                      ≡ line_on h p x o o' (lines_held schedule count)
                  draft_is =
                      ap (λ (b : Best). plan_line h full (take i numbers) (choice_of b) x (lines_held schedule count)) own_best
                      ∙ went.alone.lines_are full so_extends (lines_held schedule count)
                      ∙ ap (λ (q : Choice). line_on h q x o o' (lines_held schedule count)) (sym went.is_choice)

              pub line_planned : (n : ℕ) → n ≡ d.number → Planning t after reserves_then levels_then (set numbers i n) d.count (i + 1)
              line_planned n en =
                  record {
                    room = W.long;
                    few = omega (arith, W.few, w.few);
                    within = omega arith;
                    wide = length-set reserves i (reading p.reserve) ∙ w.wide;
                    leveled = length-set levels i p.level ∙ w.leveled;
                    numbered = length-set numbers i n ∙ w.numbered;
                    small = stored_small;
                    bests = bests_then;
                    runs = went.runs;
                    known = entries;
                    onward = rw (en, numbers_are) goes_on;
                  }

pub ruleset plan_laws = (
  rules,
  start,
  record_below,
  records_within,
  line_room,
  all_planned,
  plan_fits,
  same_room,
  in_reserves,
  in_levels,
  in_numbers,
  index_small,
  first_small,
  second_small,
  line_known,
  too_few_levels,
  too_few,
  done_as,
  level_fits,
  line_planned,
)
