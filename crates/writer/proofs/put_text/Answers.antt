use Rattle.std.proofs.Common.{◌≡◌, arith}
use Rattle.spelling.proofs.Taking.{room_of_first, room_of_middle, took_both}
use Rattle.writer.proofs.Lines.{whole_text, whole_next, front_none, front_more}
use Rattle.writer.proofs.put_text.Goals as goal

pub put_header-requires : goal.put_header-requires
put_header-requires g c =
    room_of_first g.met.S.Sink.laws _ (whole_text c.args.word.now c.args.header c.args.records.now c.args.count) c.requires.room

pub loop-i-init : goal.loop-i-init
loop-i-init g c = rw (front_none c.args.word.now c.args.header c.args.records.now) c.put_header.ensures

pub put_line-requires : goal.put_line-requires
put_line-requires g c =
    room_of_middle g.met.S.Sink.laws _
    (whole_next c.args.word.now c.args.header c.args.records.now c.loop-i.i _ c.line_at-line.ensures c.args.count (omega arith) (omega arith))
    c.requires.room c.loop-i.invariant

pub loop-i-preserved : goal.loop-i-preserved
loop-i-preserved g c =
    took_both g.met.S.Sink.laws (front_more c.args.word.now c.args.header c.args.records.now c.loop-i.i _ c.line_at-line.ensures (omega arith))
    c.loop-i.invariant c.put_line.ensures

pub returns : goal.returns
returns g c =
    let all : c.loop-i.i ≡ c.args.count = omega arith in
    rw (whole_text c.args.word.now c.args.header c.args.records.now c.args.count, ← all) c.loop-i.invariant
