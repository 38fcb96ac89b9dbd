use Rattle.std.proofs.Common.{◌≡◌, ◌*◌, ◌<◌, length, arith, rules}
use Rattle.spelling.proofs.Lengths.{numbered_most}
use Rattle.spelling.proofs.said_len.Goals as goal

pub put_said-requires : goal.put_said-requires
put_said-requires g c =
    let all : length c.args.numbers ≡ g.row.N = search rules in
    let few : g.row.N * 4 < 9223372036854775808 = omega arith in
    (few, omega (arith, numbered_most c.args.word.now c.args.numbers))

pub returns : goal.returns
returns g c =
    let all : length c.args.numbers ≡ g.row.N = search rules in
    record { counted = omega arith; bounded = omega (arith, numbered_most c.args.word.now c.args.numbers) }
