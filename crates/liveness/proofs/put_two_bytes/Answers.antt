use mathlib.Core.List.{[], ◌∷◌}
use Prim.Native.Nat.{◌/◌, ◌%◌}
use Rattle.liveness.proofs.put_two_bytes.Goals as goal

pub put_byte-requires : goal.put_byte-requires
put_byte-requires g c = g.met.S.Sink.laws.first_room _ (c.args.n % 256 ∷ []) (c.args.n / 256 ∷ []) c.requires

pub put_byte-requires-2 : goal.put_byte-requires-2
put_byte-requires-2 g c = g.met.S.Sink.laws.next_room _ _ (c.args.n % 256 ∷ []) (c.args.n / 256 ∷ []) c.requires c.put_byte.ensures

pub returns : goal.returns
returns g c = g.met.S.Sink.laws.both _ _ _ (c.args.n % 256 ∷ []) (c.args.n / 256 ∷ []) c.put_byte.ensures c.put_byte-2.ensures
