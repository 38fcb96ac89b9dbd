use Rattle.std.proofs.Common.{[], ◌∷◌}
use Rattle.fields.specs.Pieces.{tab}
use Rattle.fields.specs.Numbers.{decimal}
use Rattle.spelling.proofs.put_number_field.Goals as goal

pub put_byte-requires : goal.put_byte-requires
put_byte-requires g c = g.met.S.Sink.laws.first_room _ (tab ∷ []) (decimal c.args.n) c.requires

pub put_number-requires : goal.put_number-requires
put_number-requires g c = g.met.S.Sink.laws.next_room _ _ (tab ∷ []) (decimal c.args.n) c.requires c.put_byte.ensures

pub returns : goal.returns
returns g c = g.met.S.Sink.laws.both _ _ _ (tab ∷ []) (decimal c.args.n) c.put_byte.ensures c.put_number.ensures
