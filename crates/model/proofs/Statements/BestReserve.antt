-- Document 02, Job 6: at each ciphertext line of a planned circuit, `out` among them, the plan has document 01's best reserve, and no schedule of
-- any length that keeps the rules and erases to the circuit has more there.
use Prim.Native.Nat.{ℕ, ◌<◌}
use mathlib.Core.Path.{◌≡◌}
use lib.Dec.{T}
use lib.ListN.{length, get_or}
use Rattle.model.specs.declared.Line.TheVariants.{Free}
use Rattle.model.specs.declared.Grammar.TheVariants.{Circuit}
use Rattle.model.specs.Files.{File, well_formed}
use Rattle.model.specs.Services.{scheduled, plan}
use Rattle.model.specs.Demands.{is_ciphertext_line, BestAt}

abbrev pub Statement : Type 0
Statement =
    (circuit : File) → T (well_formed Circuit circuit.header circuit.lines) → (schedule : File) → plan circuit ≡ scheduled schedule
    → (j : ℕ) → j < length circuit.lines → T (is_ciphertext_line (get_or circuit.lines j Free)) → BestAt circuit.header circuit.lines schedule.lines j
