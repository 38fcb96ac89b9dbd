use Rattle.writer.proofs.Lines.{front_text}
use Rattle.writer.proofs.put_text.Given as goal

abbrev pub invariant-loop-i : goal.invariant-loop-i
invariant-loop-i g l = g.S.Sink.took l.fn.sink (front_text l.word l.fn.header l.records l.i) l.sink
