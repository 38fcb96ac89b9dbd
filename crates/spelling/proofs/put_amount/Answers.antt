use Rattle.std.proofs.Common.{refl}
use Rattle.spelling.specs.Put.{is_negative}
use Rattle.spelling.proofs.Amounts.{minus_text, minus_below, no_minus_above, amount_is}
use Rattle.spelling.proofs.Signs.{held}
use Rattle.spelling.proofs.Taking.{room_of_first, room_of_next, took_both}
use Rattle.spelling.proofs.put_amount.Given as given
use Rattle.spelling.proofs.put_amount.Goals as goal
use Rattle.spelling.proofs.put_amount.Goals.{After-magnitude, then-is_negative, else-is_negative}

pub put_byte-requires : goal.put_byte-requires
put_byte-requires g c =
    let z = held c.args.amount in
    let minus = minus_below z (is_negative z) refl (cc) in
    rw minus at (room_of_first g.met.S.Sink.laws {x = minus_text z} _ (amount_is c.args.amount c.ranges.amount _ refl) c.requires)

-- the sink after the minus, if there is one
signed : (g : given.Over) (c : goal.After-magnitude g) → g.S.Sink.took c.args.sink.now (minus_text (held c.args.amount)) c.if-is_negative.sink
signed g c =
    let z = held c.args.amount in
    elim c.if-is_negative.branch [
      | then-is_negative w ↦ rw (w.sink-is, minus_below z (is_negative z) refl (cc)) w.put_byte.ensures
      | else-is_negative w ↦ rw (w.sink-is, no_minus_above z (is_negative z) refl (cc)) (g.met.S.Sink.laws.nothing _)
    ]

pub put_number-requires : goal.put_number-requires
put_number-requires g c =
    room_of_next g.met.S.Sink.laws (amount_is c.args.amount c.ranges.amount _ c.magnitude.ensures) c.requires (signed g c)

pub returns : goal.returns
returns g c =
    took_both g.met.S.Sink.laws (amount_is c.args.amount c.ranges.amount _ c.magnitude.ensures)
    (signed g (goal.at.returns g c).After-magnitude) c.put_number.ensures
