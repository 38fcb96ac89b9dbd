use mathlib.Core.Path.{◌≡◌}
use native.Mathlib.Omega.{arith}
use lib.ListN.{get_or}
use Rattle.liveness.specs.Live.{two_bytes}
use Rattle.spelling.proofs.Taking.{room_of_middle, took_both}
use Rattle.liveness.proofs.Bytes.{pairs_more, pairs_next}
use Rattle.liveness.proofs.put_pairs.Goals as goal

pub loop-i-init : goal.loop-i-init
loop-i-init g c = g.met.S.Sink.laws.nothing _

pub put_two_bytes-requires : goal.put_two_bytes-requires
put_two_bytes-requires g c =
    let laws = g.met.S.Sink.laws in
    let i = c.loop-i.i in
    let entries = c.args.entries.now in
    let counts = c.args.counts.now in
    let next = room_of_middle laws _ (pairs_next entries counts i c.args.count c.loop-i-test.true) c.requires.room c.loop-i.invariant in
    laws.first_room _ (two_bytes (get_or entries i 0)) (two_bytes (get_or counts i 0)) next

pub put_two_bytes-requires-in-loop-i : goal.put_two_bytes-requires-in-loop-i
put_two_bytes-requires-in-loop-i g c =
    let laws = g.met.S.Sink.laws in
    let i = c.loop-i.i in
    let entries = c.args.entries.now in
    let counts = c.args.counts.now in
    let next = room_of_middle laws _ (pairs_next entries counts i c.args.count c.loop-i-test.true) c.requires.room c.loop-i.invariant in
    laws.next_room _ _ (two_bytes (get_or entries i 0)) (two_bytes (get_or counts i 0)) next c.put_two_bytes.ensures

pub loop-i-preserved : goal.loop-i-preserved
loop-i-preserved g c =
    let laws = g.met.S.Sink.laws in
    let i = c.loop-i.i in
    let entries = c.args.entries.now in
    let counts = c.args.counts.now in
    took_both laws (pairs_more entries counts i) c.loop-i.invariant
    (laws.both _ _ _ (two_bytes (get_or entries i 0)) (two_bytes (get_or counts i 0)) c.put_two_bytes.ensures c.put_two_bytes-in-loop-i.ensures)

pub returns : goal.returns
returns g c =
    let all : c.loop-i.i ≡ c.args.count = omega arith in
    rw all at c.loop-i.invariant
