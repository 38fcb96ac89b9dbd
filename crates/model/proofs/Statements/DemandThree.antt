-- Demand 3 as one claim about whole files. Of every circuit that was read: whatever passes against it is exact; planning says "too few levels"
-- exactly when there is no schedule, and otherwise writes the plan, which passes; and so for the least level.
use mathlib.Core.Path.{◌≡◌}
use lib.Dec.{T}
use Rattle.model.specs.declared.Grammar.TheVariants.{Circuit}
use Rattle.model.specs.Files.{File, well_formed}
use Rattle.model.specs.Machines.{Handed}
use Rattle.model.specs.Services.{scheduled, plan}
use Rattle.model.specs.Demands.{Exact}
use Rattle.model.proofs.Statements.Check.{PassedFiles}
use Rattle.model.proofs.Statements.TooFewLevels as TooFewLevels
use Rattle.model.proofs.Statements.ThePlan as ThePlan
use Rattle.model.proofs.Statements.LeastLevel as LeastLevel

pub record Holds (circuit : File) : Type 0 where
  pub exact : (schedule : File) → PassedFiles circuit schedule → (H : Handed) → Exact H schedule.header circuit.lines schedule.lines
  pub decides : TooFewLevels.Decides circuit
  pub plan_is_right : (schedule : File) → plan circuit ≡ scheduled schedule → ThePlan.IsRight circuit schedule
  pub least_level_lem : LeastLevel.IsRight circuit

abbrev pub Statement : Type 0
Statement = (circuit : File) → T (well_formed Circuit circuit.header circuit.lines) → Holds circuit
