-- The two machines, the plan and the tests of one line more on small files: each case's input is a file of its grammar, and the case ends as the table says.
use Prim.Native.Nat.{ℕ, ◌<◌}
use mathlib.Core.Path.{◌≡◌}
use lib.Dec.{T}
use lib.ListN.{length, get_or}
use Rattle.model.specs.Worked.{Case, input_formed, ends_of, cases, no_case}

pub record Holds (c : Case) : Type 0 where
  pub formed : T (input_formed c)
  pub ends_so : ends_of c.asked c.input ≡ c.ends

abbrev pub Statement : Type 0
Statement = (k : ℕ) → k < length cases → Holds (get_or cases k no_case)
