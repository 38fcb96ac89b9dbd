use Rattle.std.proofs.Common.{take}
use Rattle.spelling.proofs.Fields.{numbered}
use Rattle.spelling.proofs.put_said.Given as goal

abbrev pub invariant-loop-n : goal.invariant-loop-n
invariant-loop-n g l = g.S.Sink.took l.fn.sink (numbered l.word (take l.n-index l.n-items)) l.sink
