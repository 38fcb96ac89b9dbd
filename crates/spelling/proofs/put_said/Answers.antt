use Rattle.std.proofs.Common.{◌≡◌, ◌<◌, length, arith}
use Rattle.spelling.proofs.Fields.{numbered_none, numbered_more, numbered_all, numbered_next, word_first}
use Rattle.spelling.proofs.Taking.{room_of_first, room_of_middle, took_both}
use Rattle.spelling.proofs.put_said.Goals as goal

pub put_bytes-requires : goal.put_bytes-requires
put_bytes-requires g c = room_of_first g.met.S.Sink.laws _ (word_first c.args.word.now c.args.numbers) c.requires

pub loop-n-init : goal.loop-n-init
loop-n-init g c = rw (numbered_none c.args.word.now) c.put_bytes.ensures

pub put_number_field-requires : goal.put_number_field-requires
put_number_field-requires g c =
    let i = c.loop-n.n-index in
    let within : i < length c.args.numbers = omega arith in
    room_of_middle g.met.S.Sink.laws _ (numbered_next c.args.word.now c.args.numbers i within) c.requires c.loop-n.invariant

pub loop-n-preserved : goal.loop-n-preserved
loop-n-preserved g c =
    let i = c.loop-n.n-index in
    let within : i < length c.args.numbers = omega arith in
    took_both g.met.S.Sink.laws (numbered_more c.args.word.now c.args.numbers i within) c.loop-n.invariant c.put_number_field.ensures

pub returns : goal.returns
returns g c =
    let i = c.loop-n.n-index in
    let all : i ≡ length c.args.numbers = omega arith in
    rw (numbered_all c.args.word.now c.args.numbers i all) c.loop-n.invariant
