use Rattle.std.proofs.Common.{arith}
use Rattle.linefields.proofs.Lengths.{line_most}
use Rattle.linefields.proofs.fields_len.Goals as goal

pub put_fields-requires : goal.put_fields-requires
put_fields-requires c = omega (arith, line_most c.args.line)

pub returns : goal.returns
returns c = record { counted = omega arith; bounded = omega (arith, line_most c.args.line) }
