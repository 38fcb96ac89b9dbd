-- Demand 2: "A schedule is passed against a circuit if, and only if, each of its lines keeps the published RNS-CKKS rules …, and striking out the
-- encode, rescale, modswitch and upscale lines leaves that circuit". Of files that were read. What is not passed is refused with 12 at the first
-- line in which circuit and erasure differ, and only where they do not differ by the rules.
use Prim.Native.Nat.{ℕ, suc}
use mathlib.Core.Path.{◌≡◌}
use mathlib.Core.Logic.{◌↔◌, ◌⊎◌}
use mathlib.Core.List.{List}
use lib.Dec.{T}
use lib.ListN.{take}
use Rattle.model.specs.declared.Line.{Line}
use Rattle.model.specs.declared.Grammar.TheVariants.{Circuit, Schedule}
use Rattle.model.specs.declared.Answer.TheVariants.{Done, Level, Refused}
use Rattle.rows.specs.Rows.{place_of}
use Rattle.model.specs.Files.{File, well_formed}
use Rattle.model.specs.Services.{erase, erase_file}
use Rattle.model.specs.Answers.{check, rules_answer}
use Rattle.model.specs.Rules.{KeepsRules}

-- Demand 2: "each of its lines keeps the published RNS-CKKS rules for scale, level and waterline, and striking out the encode, rescale,
-- modswitch and upscale lines leaves that circuit". Of files: the promises say it of bytes.
pub record PassedFiles (circuit schedule : File) : Type 0 where
  pub circuit_formed : T (well_formed Circuit circuit.header circuit.lines)
  pub schedule_formed : T (well_formed Schedule schedule.header schedule.lines)
  pub keeps : KeepsRules schedule.header schedule.lines
  pub erases : erase_file schedule ≡ circuit

-- the first line in which two lists differ: one that is missing in one of them differs too
pub record FirstDifference (xs ys : List Line) (p : ℕ) : Type 0 where
  pub line : ℕ
  pub place_is : p ≡ place_of line
  pub before : take line xs ≡ take line ys
  pub with_it : take (suc line) xs ≡ take (suc line) ys → ⊥

-- 12, with the header as the first line of both files
pub data OtherCircuit (circuit schedule : File) (p : ℕ) : Type 0 where
  other_header : (circuit.header ≡ schedule.header → ⊥) → p ≡ 1 → OtherCircuit circuit schedule p
  other_lines : circuit.header ≡ schedule.header → FirstDifference circuit.lines (erase schedule.lines) p → OtherCircuit circuit schedule p

pub record ByRules (circuit schedule : File) (n p : ℕ) : Type 0 where
  pub same_header_lem : circuit.header ≡ schedule.header
  pub same_lines : circuit.lines ≡ erase schedule.lines
  pub by_rules : rules_answer schedule.header schedule.lines ≡ Refused n p

pub record Judges (circuit schedule : File) : Type 0 where
  pub passes : (check circuit schedule ≡ Done) ↔ PassedFiles circuit schedule
  pub refuses : (n p : ℕ) → check circuit schedule ≡ Refused n p → ((n ≡ 12) × OtherCircuit circuit schedule p) ⊎ ByRules circuit schedule n p
  pub no_level_lem : (l : ℕ) → check circuit schedule ≡ Level l → ⊥

abbrev pub Statement : Type 0
Statement =
    (circuit schedule : File) → T (well_formed Circuit circuit.header circuit.lines) → T (well_formed Schedule schedule.header schedule.lines) → Judges circuit schedule
