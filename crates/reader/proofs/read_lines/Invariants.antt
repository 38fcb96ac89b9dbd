use Rattle.std.proofs.Common.{◌-◌, length}
use Rattle.reader.proofs.Filling.{Filling}
use Rattle.reader.proofs.read_lines.Given as goal

abbrev pub invariant-loop-at : goal.invariant-loop-at
invariant-loop-at l = Filling l.levels l.context l.header l.text l.start l.records l.count l.kept l.at

abbrev pub decreases-loop-at : goal.decreases-loop-at
decreases-loop-at l = length l.text - l.at
