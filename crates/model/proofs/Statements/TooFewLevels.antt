-- Demand 3, its second half: "'too few levels' is said only of a circuit for which no schedule of whatever length, …, keeps the rules of 2 and
-- erases to that circuit …; planning … says it exactly when there is none, and otherwise writes the plan of 2".
use Prim.Native.Nat.{ℕ, suc, ◌<◌}
use mathlib.Core.Path.{◌≡◌}
use lib.Dec.{T}
use lib.ListN.{length, take}
use Rattle.model.specs.declared.Grammar.TheVariants.{Circuit}
use Rattle.rows.specs.Rows.{place_of}
use Rattle.model.specs.Files.{File, well_formed}
use Rattle.model.specs.Services.{scheduled, unplanned, plan}
use Rattle.model.specs.Demands.{Schedulable}

-- planning refuses with 6, at some place
pub record SaysTooFew (circuit : File) : Type 0 where
  pub place : ℕ
  pub says : plan circuit ≡ unplanned 6 place

-- "at the first line with best reserve below zero": the lines before it have a schedule, and with it they have none
pub record FirstTooFew (circuit : File) (place : ℕ) : Type 0 where
  pub line : ℕ
  pub place_is : place ≡ place_of line
  pub below : line < length circuit.lines
  pub before : Schedulable circuit.header (take line circuit.lines)
  pub with_it : Schedulable circuit.header (take (suc line) circuit.lines) → ⊥

pub record Writes (circuit : File) : Type 0 where
  pub schedule : File
  pub writes : plan circuit ≡ scheduled schedule

pub record Decides (circuit : File) : Type 0 where
  -- 6 if and only if there is no schedule
  pub too_few_only : SaysTooFew circuit → Schedulable circuit.header circuit.lines → ⊥
  pub too_few_if : (Schedulable circuit.header circuit.lines → ⊥) → SaysTooFew circuit
  pub first : (w : SaysTooFew circuit) → FirstTooFew circuit w.place
  -- and otherwise the plan is written, which shows that there is one
  pub writes_if : Schedulable circuit.header circuit.lines → Writes circuit
  pub writes_only : Writes circuit → Schedulable circuit.header circuit.lines
  -- no other refusal
  pub only_six : (n p : ℕ) → plan circuit ≡ unplanned n p → n ≡ 6

abbrev pub Statement : Type 0
Statement = (circuit : File) → T (well_formed Circuit circuit.header circuit.lines) → Decides circuit
