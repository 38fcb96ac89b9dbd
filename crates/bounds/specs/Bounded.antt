-- The bounds of a scale and a level as the code asks for them, and the ranges in which numbers stay.
use Rattle.std.specs.Prelude.{ℕ, ◌+◌, ◌≤◌, cond, [], ◌∷◌, ℤ, Result, Ok, Err}
use Rattle.ints.specs.Parts.{positive, negative}
use Rattle.rows.specs.Rows.{Tests}
use Rattle.model.specs.declared.Header.{Header}
use Rattle.model.specs.declared.Fault.{Fault}
use Rattle.model.specs.Machine.{Step, goes, stops}
use Rattle.model.specs.Answers.{bound_tests}
use Rattle.model.specs.Refusals.{number_of}
use Rattle.bounds.specs.declared.Held.{Held}

-- what the rules make of a line, as a step: what it then holds, or the number of the rule that it breaks
abbrev pub stepped : {A : Type 0} → Result A Fault → Step A ℕ
stepped (Ok x) = goes x
stepped (Err f) = stops (number_of f)

-- tests in the order in which they are asked: a stop with the number of the first that fails
abbrev pub ruled_unless : Tests → Step Held ℕ → Step Held ℕ
ruled_unless [] more = more
ruled_unless ((n, passes) ∷ tests) more = cond passes (ruled_unless tests more) (stops n)

abbrev pub bounded_numbers : Header → ℤ → ℤ → Step Held ℕ
bounded_numbers h s l =
    ruled_unless (bound_tests h s l) (goes (record { scale = positive s; level = positive l }))

-- ---- ranges
-- a scale and a level that a line can come to before its bounds are asked, perhaps below zero
pub record InReach (s l : ℤ) : Type 0 where
  pub scale : positive s + negative s ≤ 7200
  pub level : positive l + negative l ≤ 60

-- a scale and a level that a line can have: L is at most 60, and the modulus at most 60·60 bits
pub record SmallNumbers (s l : ℕ) : Type 0 where
  pub scale : s ≤ 3600
  pub level : l ≤ 60

abbrev pub Small : Held → Type 0
Small x = SmallNumbers x.scale x.level
