-- The reserves of a run, and what the machine holds behind them: how each line before this one is done. Assumes nothing.
use Prim.Native.Nat.{ℕ, ◌+◌, ◌<◌}
use native.Mathlib.Numerals.{add-one}
use native.Mathlib.Omega.{arith}
use mathlib.Core.Path.{◌≡◌, refl, sym, ap, ◌∙◌, subst}
use mathlib.Core.List.{List, [], ◌∷◌, ◌++◌, map-append}
use mathlib.Core.Option.{some}
use lib.Dec.{T}
use lib.IntN.{ℤ, pos}
use lib.ListN.{length, get_or, get_elem?, take, length-map, get_or-map}
use lib.Seq.{length-take-le, take-suc, take-take, get_or-take}
use Rattle.model.specs.declared.Best.{Best}
use Rattle.model.specs.declared.Best.TheVariants as Bests
use Rattle.model.specs.declared.Grammar.TheVariants.{Circuit}
use Rattle.model.specs.declared.Header.{Header}
use Rattle.model.specs.declared.Kind.{Kind}
use Rattle.model.specs.declared.Line.{Line}
use Rattle.model.specs.declared.Line.TheVariants.{Free}
use Rattle.model.specs.Files.{kind_of, kind_at, is_constant, is_usable, well_formed}
use Rattle.model.specs.Machine.{Step, goes, stops, Run, finished, stopped, step, count_in, run_from, run}
use Rattle.model.specs.Plan.{best_machine, choice_of, plan_lines}
use Rattle.model.specs.Scales.{header_in_range}
use Rattle.model.proofs.Formed.{LineFacts, formed_line, usable_below, well_header, well_lines, well_take, Named, Matched, DutyFor, formed_step}
use Rattle.model.proofs.Lists.{found_at}
use Rattle.model.proofs.Outcomes.{Outcome}
use Rattle.model.proofs.Planned.{Whole, planned}
use Rattle.model.proofs.Runs.{stopped_finished, stopped_is, stopped_line, finished_is, continued}
use Rattle.model.proofs.Supplies.{ValidBest, kind_for}
use Rattle.model.proofs.Tests.{HeaderFacts, header_facts}
use Rattle.tables.specs.Bests.{reserves_of, reserves_in, reserves_run}
use Rattle.tables.specs.declared.Record.{Record}
use Rattle.tables.specs.Records.{line_of, lines_of, lines_held}
use Rattle.reserves.specs.Walks.{one_more, KnownTo}

-- ---- a run by its reserves
module _ (h : Header) (lines : List Line) where
  pub record BestsFor (reserves : List ℤ) : Type 0 where
    pub bests : List Best
    pub runs : run (best_machine h) lines ≡ finished bests
    pub reserves_are : reserves_of bests ≡ reserves

  pub bests_for : (reserves : List ℤ) → reserves_run h lines ≡ finished reserves → BestsFor reserves
  unfolding reserves_run
  bests_for reserves e = go (run (best_machine h) lines) refl e
    where
      go : (r : Run Best ℕ) → run (best_machine h) lines ≡ r → reserves_in r ≡ finished reserves → BestsFor reserves
      go (finished bests) p q = record { bests = bests; runs = p; reserves_are = finished_is q }
      go (stopped i n) p q = stopped_finished q

  pub run_stopped : (i n : ℕ) → reserves_run h lines ≡ stopped i n → run (best_machine h) lines ≡ stopped i n
  unfolding reserves_run
  run_stopped i n e = go (run (best_machine h) lines) e
    where
      go : (r : Run Best ℕ) → reserves_in r ≡ stopped i n → r ≡ stopped i n
      go (finished bests) q = stopped_finished (sym q)
      go (stopped j m) q = λ k. stopped (stopped_line q k) (stopped_is q k)

  -- a run that stopped does not go on with the lines that follow
  pub reserves_stopped : (more : List Line) (i n : ℕ) → reserves_run h lines ≡ stopped i n → reserves_run h (lines ++ more) ≡ stopped i n
  unfolding reserves_run
  reserves_stopped more i n e = ap reserves_in (stays lines 0 [] (run_stopped i n e))
    where
      stays : (xs : List Line) (ins : ℕ) (held : List Best) → run_from (best_machine h) ins held xs ≡ stopped i n → run_from (best_machine h) ins held (xs ++ more) ≡ stopped i n
      stays [] ins held p = stopped_finished (sym p)
      stays (x ∷ xs) ins held p = go (step (best_machine h) ins held x) p (λ v q. stays xs (count_in x ins) (held ++ (v ∷ [])) q)
        where
          onward : Step Best ℕ → List Line → Run Best ℕ
          onward s ys = elim s [ goes v ↦ run_from (best_machine h) (count_in x ins) (held ++ (v ∷ [])) ys | stops m ↦ stopped (length held) m ]

          go : (s : Step Best ℕ) → onward s xs ≡ stopped i n
              → ((v : Best) → run_from (best_machine h) (count_in x ins) (held ++ (v ∷ [])) xs ≡ stopped i n
              → run_from (best_machine h) (count_in x ins) (held ++ (v ∷ [])) (xs ++ more) ≡ stopped i n)
              → onward s (xs ++ more) ≡ stopped i n
          go (goes v) q f = f v q
          go (stops m) q f = q

-- ---- the lines before line i
module _ {h : Header} {records : List Record} {reserves : List ℤ} {i : ℕ} (k : KnownTo h records reserves i) where
  abbrev pub before : List Line
  before = lines_held records i

  abbrev pub line : Line
  line = get_or (lines_of records) i Free

  with_line : lines_held records (i + 1) ≡ lines_held records i ++ (line ∷ [])
  with_line = rw (add-one i) (take-suc (lines_of records) i Free (omega (arith, length-map records line_of, k.some)))

  pub before_long : length before ≡ i
  before_long = length-take-le i (lines_of records) (omega (arith, length-map records line_of, k.some))

  pub header_in_range_lem : T (header_in_range h)
  header_in_range_lem = well_header Circuit h (lines_held records (i + 1)) k.formed

  pub header_ranged : HeaderFacts h
  header_ranged = header_facts h header_in_range_lem

  formed_before : T (well_formed Circuit h before)
  formed_before =
      subst (λ (l : List Line). T (well_formed Circuit h l)) (take-take i (i + 1) (lines_of records) (omega arith))
      (well_take Circuit h (lines_held records (i + 1)) i k.formed)

  pub line_facts : LineFacts Circuit h before line
  line_facts = formed_line Circuit h (lines_held records (i + 1)) (well_lines Circuit h (lines_held records (i + 1)) k.formed) before line [] (sym with_line)

  pub done : BestsFor h before (take i reserves)
  done = bests_for h before (take i reserves) k.known

  abbrev pub bests : List Best
  bests = done.bests

  whole : Whole h header_ranged before bests (plan_lines h bests before)
  whole = planned h header_ranged before (well_lines Circuit h before formed_before) done.runs

  -- what value a, of this kind, may hold: its kind is that of its record's line, and its reserve is known
  pub record Holds (a : ℕ) (kind : Kind) (best : Best) : Type 0 where
    pub kind_is : kind ≡ kind_for h header_ranged best
    pub bare_is : is_constant (kind_at (lines_of records) a) ≡ is_constant (kind_for h header_ranged best)
    pub reserve_is : (choice_of best).reserve ≡ get_or reserves a (pos 0)
    pub valid : ValidBest h header_ranged best

  pub matched : Matched Holds before bests
  matched = record { long = whole.progress.long; named = named }
    where
      named : (a : ℕ) → T (is_usable (kind_at before a)) → Named Holds (kind_at before a) bests a
      named a u =
          let below : a < i = omega (arith, usable_below before a u, before_long) in
          let there : get_elem? bests a ≡ some (get_or bests a Bests.Constant) = found_at bests a Bests.Constant (omega (arith, whole.progress.long, before_long)) in
          let same : kind_at before a ≡ kind_for h header_ranged (get_or bests a Bests.Constant) = whole.progress.kinds a (get_or before a Free) (get_or bests a Bests.Constant)
          (found_at before a Free (usable_below before a u)) there u in
          record {
            value = get_or bests a Bests.Constant;
            there = there;
            fits = record {
              kind_is = same;
              bare_is = ap (λ (x : Line). is_constant (kind_of x)) (sym (get_or-take i (lines_of records) a Free below)) ∙ ap is_constant same;
              reserve_is = sym (get_or-map (λ (b : Best). (choice_of b).reserve) bests a Bests.Constant)
                  ∙ ap (λ (l : List ℤ). get_or l a (pos 0)) done.reserves_are ∙ get_or-take i reserves a (pos 0) below;
              valid = whole.progress.valid a (get_or bests a Bests.Constant) there;
            };
          }

  -- ---- line i, by the step of the machine
  module _ (s : Step ℤ ℕ) where
    abbrev pub StopsAs : ℕ → Type 0
    StopsAs n = stops n ≡ s

    abbrev pub GoesAs : Best → Type 0
    GoesAs b = goes (choice_of b).reserve ≡ s

    stepped : ((ins : ℕ) → Outcome StopsAs GoesAs (step (best_machine h) ins bests line)) → reserves_run h (lines_held records (i + 1)) ≡ one_more i (take i reserves) s
    unfolding reserves_run
    stepped outcome =
        let on = continued (best_machine h) before 0 [] (line ∷ []) bests done.runs in
        ap (λ (l : List Line). reserves_in (run (best_machine h) l)) with_line ∙ ap reserves_in on.goes_on
        ∙ go (step (best_machine h) on.ins bests line) (outcome on.ins)
      where
        go : (t : Step Best ℕ) → Outcome StopsAs GoesAs t
            → reserves_in (elim t [ goes v ↦ finished (bests ++ (v ∷ [])) | stops n ↦ stopped (length bests) n ]) ≡ one_more i (take i reserves) s
        go (goes v) o =
            ap finished (map-append (λ (b : Best). (choice_of b).reserve) bests (v ∷ []) ∙ ap (λ (l : List ℤ). l ++ ((choice_of v).reserve ∷ [])) done.reserves_are)
            ∙ ap (one_more i (take i reserves)) o
        go (stops n) o = ap (λ (j : ℕ). stopped j n) (whole.progress.long ∙ before_long) ∙ ap (one_more i (take i reserves)) o

    -- where the machine does on the operands what it has to do at x
    pub line_comes : (x : Line) → line ≡ x → DutyFor (best_machine h) StopsAs Holds GoesAs Circuit x
        → reserves_run h (lines_held records (i + 1)) ≡ one_more i (take i reserves) s
    line_comes x e duty = stepped
        (λ ins. formed_step (best_machine h) StopsAs Holds Circuit h before bests matched GoesAs ins line line_facts
        (subst (DutyFor (best_machine h) StopsAs Holds GoesAs Circuit) (sym e) duty))
