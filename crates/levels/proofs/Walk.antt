-- The walk over the lines of a circuit at one level: what holds whenever the loop's test is reached, and what each way on from there keeps. Assumes nothing.
use Prim.Native.Nat.{ℕ, ◌+◌, ◌≤◌, ◌<◌}
use native.Mathlib.Numerals.{add-one}
use native.Mathlib.Omega.{arith}
use mathlib.Core.List.{List, [], ◌∷◌, ◌++◌}
use mathlib.Core.Path.{◌≡◌, refl, sym, ap, ◌∙◌, subst}
use lib.Dec.{T, leb→le}
use lib.IntN.{ℤ}
use lib.ListN.{length, take, drop, set, length-map, length-set, take-append-drop}
use lib.Seq.{take-suc-set, take-take}
use lib.Signed.{mag}
use Rattle.std.specs.Prelude.{Result, Ok, Err}
use Rattle.model.specs.declared.Grammar.TheVariants.{Circuit}
use Rattle.model.specs.declared.Header.{Header}
use Rattle.model.specs.declared.Line.{Line}
use Rattle.model.specs.Files.{well_formed}
use Rattle.model.specs.declared.Answer.TheVariants.{Level, Refused}
use Rattle.model.specs.declared.Best.{Best}
use Rattle.model.specs.declared.Fault.{Fault}
use Rattle.model.specs.Machine.{Run, finished, stopped, run}
use Rattle.model.specs.Plan.{best_machine}
use Rattle.model.specs.Refusals.{number_of}
use Rattle.model.specs.Scales.{with_top}
use Rattle.model.proofs.Formed.{well_take}
use Rattle.model.proofs.Theorems.{formed_at_top}
use Rattle.tables.specs.Bests.{reserves_run}
use Rattle.tables.specs.declared.files.CircuitTable.{CircuitTable}
use Rattle.tables.specs.Files.{circuit_lines}
use Rattle.tables.specs.Records.{line_of, lines_of, lines_held}
use Rattle.reserves.specs.Walks.{step_of, one_more, KnownTo}
use Rattle.reserves.proofs.Known.{BestsFor, bests_for, run_stopped, reserves_stopped}
use Rattle.choices.proofs.Readings as Readings
use Rattle.choices.proofs.Readings.{result_held}
use Rattle.levels.specs.Tried.{at_level, tried}

-- ---- the loop's invariant: at header h, the best reserves of the first i lines are known
pub record Walking (t : CircuitTable) (level : ℕ) (h : Header) (reserves : List ℤ) (i : ℕ) : Type 0 where
  pub is : h ≡ with_top t.header level
  pub formed : T (well_formed Circuit h (circuit_lines t))
  pub wide : length reserves ≡ 256
  pub within : i ≤ t.count
  pub known : reserves_run h (lines_held t.records.now i) ≡ finished (take i reserves)

pub walk_start : (t : CircuitTable) (level : ℕ) (h : Header) (reserves : List ℤ) → 1 ≤ level → level ≤ 60 → h ≡ with_top t.header level
    → length reserves ≡ 256 → Walking t level h reserves 0
unfolding reserves_run
walk_start t level h reserves low high e wide =
    record { is = e; formed = rw e (formed_at_top t.header (circuit_lines t) t.formed.lines level low high); wide = wide; within = omega arith; known = refl }

module _ {t : CircuitTable} {level : ℕ} {h : Header} {reserves : List ℤ} {i : ℕ} (w : Walking t level h reserves i) where
  few : t.count ≤ 256
  few = leb→le t.count 256 t.formed.few

  -- where the run at this header comes to r
  comes_to : (r : Run Best ℕ) → run (best_machine h) (circuit_lines t) ≡ r → at_level level r ≡ tried t.header (circuit_lines t) level
  unfolding tried
  comes_to r e = ap (at_level level) (sym e ∙ ap (λ (k : Header). run (best_machine k) (circuit_lines t)) w.is)

  -- every line has a best reserve
  pub level_fits : t.count ≤ i → Level level ≡ tried t.header (circuit_lines t) level
  level_fits l = comes_to (finished done.bests) done.runs
    where
      all_known : reserves_run h (circuit_lines t) ≡ finished (take t.count reserves)
      all_known =
          let same : i ≡ t.count = omega (arith, w.within) in
          subst (λ (n : ℕ). reserves_run h (lines_held t.records.now n) ≡ finished (take n reserves)) same w.known

      done : BestsFor h (circuit_lines t) (take t.count reserves)
      done = bests_for h (circuit_lines t) (take t.count reserves) all_known

  -- one line more
  module _ (l : i < t.count) where
    pub walk_known : KnownTo h t.records.now reserves i
    walk_known =
        record {
          some = omega (arith, few, t.formed.room, length-map t.records.now line_of);
          room = omega (arith, few, w.wide);
          formed = subst (λ (x : List Line). T (well_formed Circuit h x)) (take-take (i + 1) t.count (lines_of t.records.now) (omega arith))
              (well_take Circuit h (circuit_lines t) (i + 1) w.formed);
          known = w.known;
        }

    pub line_below : i < 256
    line_below = omega (arith, few)

    module _ (r : Result ℤ Fault) (e : reserves_run h (lines_held t.records.now (i + 1)) ≡ one_more i (take i reserves) (step_of r)) where
      -- it has none
      pub level_refused : (f : Fault) (p : ℕ) → r ≡ Err f → p ≡ i + 2 → Refused (number_of f) p ≡ tried t.header (circuit_lines t) level
      level_refused f p is at =
          ap (Refused (number_of f)) at ∙ comes_to (stopped i (number_of f)) (run_stopped h (circuit_lines t) i (number_of f) stops_here)
        where
          stops_here : reserves_run h (circuit_lines t) ≡ stopped i (number_of f)
          stops_here =
              ap (reserves_run h)
              (sym (take-append-drop (i + 1) (circuit_lines t))
              ∙ ap (λ (x : List Line). x ++ drop (i + 1) (circuit_lines t)) (take-take (i + 1) t.count (lines_of t.records.now) (omega arith)))
              ∙ reserves_stopped h (lines_held t.records.now (i + 1)) (drop (i + 1) (circuit_lines t)) i (number_of f)
              (e ∙ ap (λ (s : Result ℤ Fault). one_more i (take i reserves) (step_of s)) is)

      -- its reserve is stored
      pub walk_more : (z : ℤ) → r ≡ Ok z → mag z < 2147483648 → Walking t level h (set reserves i (Readings.held z)) (i + 1)
      walk_more z is f =
          record {
            is = w.is;
            formed = w.formed;
            wide = length-set reserves i (Readings.held z) ∙ w.wide;
            within = omega arith;
            known = e ∙ ap (λ (s : Result ℤ Fault). one_more i (take i reserves) (step_of s)) is ∙ ap finished (sym stored);
          }
        where
          stored : take (i + 1) (set reserves i (Readings.held z)) ≡ take i reserves ++ (z ∷ [])
          stored = rw (result_held z f, add-one i) (take-suc-set reserves i z (omega (arith, few, w.wide)))
