use Rattle.spelling.proofs.Amounts.{amount_field}
use Rattle.spelling.proofs.Taking.{room_of_first, room_of_next, took_both}
use Rattle.spelling.proofs.put_amount_field.Goals as goal

pub put_byte-requires : goal.put_byte-requires
put_byte-requires g c = room_of_first g.met.S.Sink.laws _ (amount_field c.args.amount c.ranges.amount) c.requires

pub put_amount-requires : goal.put_amount-requires
put_amount-requires g c = room_of_next g.met.S.Sink.laws (amount_field c.args.amount c.ranges.amount) c.requires c.put_byte.ensures

pub returns : goal.returns
returns g c = took_both g.met.S.Sink.laws (amount_field c.args.amount c.ranges.amount) c.put_byte.ensures c.put_amount.ensures
