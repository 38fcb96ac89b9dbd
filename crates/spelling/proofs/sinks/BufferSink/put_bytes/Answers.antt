use native.Mathlib.Omega.{arith}
use lib.ListN.{length-set}
use Rattle.std.proofs.lemmas.Grind.{common_steps}
use Rattle.spelling.proofs.Puts.{paste_more, put_all}
use Rattle.spelling.proofs.sinks.BufferSink.put_bytes.Goals as goal

pub loop-i-preserved : goal.loop-i-preserved
loop-i-preserved c =
    let kept = c.loop-i.invariant in
    let start = c.args.self.now in
    record {
      same_buffer = kept.same_buffer;
      same_length = simp length-set kept.same_length;
      same_place = kept.same_place;
      pasted = rw kept.same_place (paste_more start.bytes.now start.at c.loop-i.i c.args.bytes.now c.loop-i.self.bytes.now c.requires c.loop-i-test.true kept.pasted);
    }

pub returns : goal.returns
returns c =
    let kept = c.loop-i.invariant in
    let start = c.args.self.now in
    let p = put_all start.bytes.now start.at c.loop-i.i c.args.bytes.now c.loop-i.self.bytes.now (omega arith) c.loop-i-test.false kept.pasted in
    grind (arith, common_steps, p)
