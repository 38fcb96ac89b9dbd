use mathlib.Core.Path.{◌≡◌}
use lib.ListN.{length}
use lib.Seq.{paste}
use Rattle.spelling.proofs.sinks.BufferSink.put_bytes.Given as goal

abbrev pub invariant-loop-i : goal.invariant-loop-i
invariant-loop-i l = record {
  same_buffer : l.self.bytes.ghost_name ≡ l.fn.self.bytes.ghost_name;
  same_length : length l.self.bytes.now ≡ length l.fn.self.bytes.now;
  same_place : l.self.at ≡ l.fn.self.at;
  pasted : l.self.bytes.now ≡ paste l.fn.self.bytes.now l.fn.self.at l.bytes l.i;
}
