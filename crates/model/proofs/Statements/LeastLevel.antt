-- "Last a made-up least level: it must fit, and the level below must not." The reply is the least level at which a schedule exists, and 6 if
-- and only if there is none at 60, with the place that planning gives there.
use Prim.Native.Nat.{ℕ, ◌<◌, ◌≤◌}
use mathlib.Core.List.{List}
use Rattle.model.specs.declared.Header.{Header}
use Rattle.model.specs.declared.Line.{Line}
use mathlib.Core.Path.{◌≡◌}
use lib.Dec.{T}
use Rattle.model.specs.declared.Answer.TheVariants.{Done, Level, Refused}
use Rattle.model.specs.declared.Grammar.TheVariants.{Circuit}
use Rattle.model.specs.Scales.{with_top}
use Rattle.model.specs.Files.{File, well_formed}
use Rattle.model.specs.Services.{unplanned, plan}
use Rattle.model.specs.Answers.{least_level}
use Rattle.model.specs.Demands.{Schedulable}

-- "it must fit, and the level below must not": l is from 1 to 60, the circuit has a schedule with l in both headers, and with no lower level.
pub record IsLeastLevel (h : Header) (circuit : List Line) (l : ℕ) : Type 0 where
  pub low : 1 ≤ l
  pub high : l ≤ 60
  pub fits : Schedulable (with_top h l) circuit
  pub least : (k : ℕ) → 1 ≤ k → k < l → Schedulable (with_top h k) circuit → ⊥

-- the same circuit at top level 60
abbrev pub at_sixty_lem : File → File
at_sixty_lem circuit = record { header = with_top circuit.header 60; lines = circuit.lines }

pub record TooFewAtSixty (circuit : File) (n p : ℕ) : Type 0 where
  pub six : n ≡ 6
  pub no_schedule : Schedulable (with_top circuit.header 60) circuit.lines → ⊥
  pub as_planned : plan (at_sixty_lem circuit) ≡ unplanned n p

pub record Refuses (circuit : File) : Type 0 where
  pub place : ℕ
  pub says : least_level circuit ≡ Refused 6 place

pub record IsRight (circuit : File) : Type 0 where
  pub level : (l : ℕ) → least_level circuit ≡ Level l → IsLeastLevel circuit.header circuit.lines l
  pub too_few : (n p : ℕ) → least_level circuit ≡ Refused n p → TooFewAtSixty circuit n p
  pub too_few_if : (Schedulable (with_top circuit.header 60) circuit.lines → ⊥) → Refuses circuit
  pub replies : least_level circuit ≡ Done → ⊥

abbrev pub Statement : Type 0
Statement = (circuit : File) → T (well_formed Circuit circuit.header circuit.lines) → IsRight circuit
