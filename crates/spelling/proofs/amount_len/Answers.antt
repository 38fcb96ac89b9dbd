use Rattle.std.proofs.Common.{ap, length, arith}
use Rattle.spelling.proofs.Amounts.{amount_held}
use Rattle.spelling.proofs.Lengths.{amount_most}
use Rattle.spelling.proofs.Signs.{held}
use Rattle.spelling.proofs.amount_len.Goals as goal

pub put_amount-requires : goal.put_amount-requires
put_amount-requires c = omega (arith, amount_most (held c.args.amount))

pub returns : goal.returns
returns c =
    let same = ap length (amount_held c.args.amount c.ranges.amount) in
    record { counted = omega (arith, same); bounded = omega (arith, amount_most (held c.args.amount)) }
