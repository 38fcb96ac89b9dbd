-- The scale machine and the rules are one: whatever it is handed, it runs a well-formed schedule to its end if and only if the schedule keeps
-- the rules, and it then has just the scales and levels that keep them.
use Prim.Native.Nat.{ℕ, ◌<◌}
use mathlib.Core.Path.{◌≡◌}
use mathlib.Core.List.{List}
use mathlib.Core.Option.{some}
use lib.Dec.{T}
use lib.ListN.{length, get_or, get_elem?}
use Rattle.model.specs.declared.Header.{Header}
use Rattle.model.specs.declared.Line.{Line}
use Rattle.model.specs.declared.Line.TheVariants.{Free}
use Rattle.model.specs.declared.Grammar.TheVariants.{Schedule}
use Rattle.model.specs.Files.{well_formed}
use Rattle.model.specs.Machine.{finished, run}
use Rattle.model.specs.Rules.{has_scale, KeepsRules}
use Rattle.model.specs.Machines.{Vector, Handed, Holding, scaled, scale_machine}

-- line i holds a vector at that scale and that level
pub record HoldsAt (held : List Holding) (i scale level : ℕ) : Type 0 where
  pub vector : Vector
  pub there : get_elem? held i ≡ some (scaled scale level vector)

-- the run goes to the end, and each ciphertext and each encoded constant has the scale and the level that keep the rules
pub record RunsToEnd (H : Handed) (h : Header) (schedule : List Line) (keeps : KeepsRules h schedule) : Type 0 where
  pub held : List Holding
  pub runs : run (scale_machine H h) schedule ≡ finished held
  pub numbers : (i : ℕ) → i < length schedule → T (has_scale (get_or schedule i Free)) → HoldsAt held i (keeps.scale i) (keeps.level i)

pub record IsTheRules (H : Handed) (h : Header) (schedule : List Line) : Type 0 where
  pub runs_if : (keeps : KeepsRules h schedule) → RunsToEnd H h schedule keeps
  pub runs_only : (held : List Holding) → run (scale_machine H h) schedule ≡ finished held → KeepsRules h schedule

abbrev pub Statement : Type 0
Statement = (H : Handed) (h : Header) (schedule : List Line) → T (well_formed Schedule h schedule) → IsTheRules H h schedule
