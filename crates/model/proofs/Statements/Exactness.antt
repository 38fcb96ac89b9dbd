-- Demand 3, its first half: "For every schedule that passes as 2 says, written by our planner or by hand, and whatever whole numbers its inputs
-- and constants are, the scale machine runs all its lines with no mismatch and no scale above the modulus or below the waterline; each circuit
-- line but a bare constant then holds exactly the circuit's own numbers, …, times two to its scale." Of any length.
use Rattle.model.specs.Files.{File}
use Rattle.model.specs.Machines.{Handed}
use Rattle.model.specs.Demands.{Exact}
use Rattle.model.proofs.Statements.Check.{PassedFiles}

abbrev pub Statement : Type 0
Statement = (circuit schedule : File) → PassedFiles circuit schedule → (H : Handed) → Exact H schedule.header circuit.lines schedule.lines
