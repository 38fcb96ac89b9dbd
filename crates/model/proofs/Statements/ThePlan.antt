-- What the planner writes passes: it keeps the rules, its fields are in their ranges, its operands are usable earlier lines, it erases to the
-- circuit, and it fits the limit of a schedule wherever the circuit fits that of a circuit. Each kept ciphertext line, an `out` too, has the best
-- reserve of its circuit line, at the level chosen for it.
use Prim.Native.Nat.{ℕ, ◌<◌, ◌≤◌}
use mathlib.Core.Path.{◌≡◌}
use mathlib.Core.List.{List}
use mathlib.Core.Option.{some}
use lib.Dec.{T}
use lib.ListN.{length, get_or, get_elem?}
use Rattle.model.specs.declared.Line.TheVariants.{Free}
use Rattle.model.specs.declared.Answer.TheVariants.{Done}
use Rattle.model.specs.declared.Grammar.TheVariants.{Circuit, Schedule}
use Rattle.model.specs.Scales.{reserve}
use Rattle.model.specs.Files.{File, well_formed, limit}
use Rattle.model.specs.Machine.{finished, run}
use Rattle.model.specs.Rules.{KeepsRules}
use Rattle.model.specs.declared.Choice.{Choice}
use Rattle.model.specs.declared.Best.{Best}
use Rattle.model.specs.declared.Best.TheVariants as Bests
use Rattle.model.specs.Plan.{best_machine}
use Rattle.model.specs.Services.{scheduled, plan, kept_lines}
use Rattle.model.specs.Demands.{is_ciphertext_line}
use Rattle.model.specs.Answers.{check}
use Rattle.model.proofs.Statements.Check.{PassedFiles}

-- the kept line of circuit line j has the best reserve of that line, at the level chosen for it
pub record AttainsBest (schedule : File) (keeps : KeepsRules schedule.header schedule.lines) (best : List Best) (j : ℕ) : Type 0 where
  pub line : ℕ
  pub choice : Choice
  pub kept : get_elem? (kept_lines schedule.lines) j ≡ some line
  pub best_is : get_elem? best j ≡ some (Bests.Ciphertext choice)
  pub reserve_is : reserve schedule.header (keeps.scale line) (keeps.level line) ≡ choice.reserve
  pub level_is : keeps.level line ≡ choice.level

pub record IsRight (circuit schedule : File) : Type 0 where
  pub passed : PassedFiles circuit schedule
  pub checked : check circuit schedule ≡ Done
  pub few : length circuit.lines ≤ limit Circuit → length schedule.lines ≤ limit Schedule
  pub best : List Best
  pub runs : run (best_machine circuit.header) circuit.lines ≡ finished best
  pub attains : (keeps : KeepsRules schedule.header schedule.lines) (j : ℕ) → j < length circuit.lines → T (is_ciphertext_line (get_or circuit.lines j Free))
      → AttainsBest schedule keeps best j

abbrev pub Statement : Type 0
Statement = (circuit : File) → T (well_formed Circuit circuit.header circuit.lines) → (schedule : File) → plan circuit ≡ scheduled schedule → IsRight circuit schedule
