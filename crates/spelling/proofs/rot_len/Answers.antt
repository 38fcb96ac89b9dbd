use Rattle.std.proofs.Common.{ap, length, arith}
use Rattle.spelling.proofs.Amounts.{amount_held}
use Rattle.spelling.proofs.Lengths.{rot_length}
use Rattle.spelling.proofs.rot_len.Goals as goal

pub returns : goal.returns
returns c =
    let whole = rot_length c.args.word.now c.args.a c.args.amount in
    let same = ap length (amount_held c.args.amount c.ranges.amount) in
    record {
      counted = omega (arith, whole, same, c.said_len.ensures.counted, c.amount_len.ensures.counted);
      bounded = omega (arith, c.said_len.ensures.bounded, c.amount_len.ensures.bounded);
    }
