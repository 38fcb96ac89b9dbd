-- The best reserves of a circuit's lines, without what else is known of how they are done.
use Rattle.std.specs.Prelude.{ℕ, List, map, ℤ}
use Rattle.model.specs.declared.Header.{Header}
use Rattle.model.specs.declared.Line.{Line}
use Rattle.model.specs.declared.Best.{Best}
use Rattle.model.specs.Machine.{Run, finished, stopped, run}
use Rattle.model.specs.Plan.{best_machine, choice_of}

-- the best reserve of each line, 0 for a bare constant
abbrev pub reserves_of : List Best → List ℤ
reserves_of bests = map (λ (b : Best). (choice_of b).reserve) bests

abbrev pub reserves_in : Run Best ℕ → Run ℤ ℕ
reserves_in (finished bests) = finished (reserves_of bests)
reserves_in (stopped i e) = stopped i e

-- the best reserve of each line of a circuit, or the line that has none and why
unfoldable pub reserves_run : Header → List Line → Run ℤ ℕ
reserves_run h circuit = reserves_in (run (best_machine h) circuit)
