-- The numbers of refusals, and what a reading or an answer in code says.
use Rattle.std.specs.Prelude.{ℕ, Result, Ok, Err}
use Rattle.rows.specs.Rows.{Reading, read, refused}
use Rattle.model.specs.declared.Fault.{Fault}
use Rattle.model.specs.declared.Fault.TheVariants as Faults
use Rattle.model.specs.declared.Refusal.{Refusal}
use Rattle.model.specs.declared.Answer.{Answer}
use Rattle.model.specs.declared.Answer.TheVariants.{Done, Level, Refused}

-- document 01's number of a refusal
abbrev pub number_of : Fault → ℕ
number_of Faults.NotOfForm = 1
number_of Faults.HeaderOutOfRange = 2
number_of Faults.TooManyLines = 3
number_of Faults.NoUsableLine = 4
number_of Faults.WrongKind = 5
number_of Faults.TooFewLevels = 6
number_of Faults.LevelsDiffer = 7
number_of Faults.ScalesDiffer = 8
number_of Faults.AboveModulus = 9
number_of Faults.BelowWaterline = 10
number_of Faults.NumberOutOfRange = 11
number_of Faults.AnotherCircuit = 12
number_of Faults.BufferTooShort = 13
number_of Faults.TooHighForDownscale = 14

-- what was read, or the refusal by its number and place
abbrev pub told : {A : Type 0} → Result A Refusal → Reading A
told (Ok x) = read x
told (Err r) = refused (number_of r.fault) r.place

-- a verdict, and a least top level, as a service answers
abbrev pub verdict_answer : Result Unit Refusal → Answer
verdict_answer (Ok u) = Done
verdict_answer (Err r) = Refused (number_of r.fault) r.place

abbrev pub level_answer : Result ℕ Refusal → Answer
level_answer (Ok l) = Level l
level_answer (Err r) = Refused (number_of r.fault) r.place
