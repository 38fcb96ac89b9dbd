-- One top level of the search.
use Rattle.std.specs.Prelude.{ℕ, List}
use Rattle.rows.specs.Rows.{place_of}
use Rattle.model.specs.declared.Header.{Header}
use Rattle.model.specs.declared.Line.{Line}
use Rattle.model.specs.declared.Answer.{Answer}
use Rattle.model.specs.declared.Answer.TheVariants.{Level, Refused}
use Rattle.model.specs.declared.Best.{Best}
use Rattle.model.specs.Scales.{with_top}
use Rattle.model.specs.Machine.{Run, finished, stopped, run}
use Rattle.model.specs.Plan.{best_machine}

-- what a run of the lines at level l comes to
abbrev pub at_level : ℕ → Run Best ℕ → Answer
at_level l (finished best) = Level l
at_level l (stopped i n) = Refused n (place_of i)

unfoldable pub tried : Header → List Line → ℕ → Answer
tried h lines l = at_level l (run (best_machine (with_top h l)) lines)
