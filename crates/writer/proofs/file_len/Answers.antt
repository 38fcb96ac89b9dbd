use Rattle.std.proofs.Common.{arith}
use Rattle.writer.proofs.Lengths.{file_most}
use Rattle.writer.proofs.file_len.Goals as goal

pub put_text-requires-clause-room : goal.put_text-requires-clause-room
put_text-requires-clause-room c =
    omega (arith, file_most c.args.word.now c.requires.word_len_bound c.args.header c.args.records.now c.args.count c.requires.count_bound)

pub returns : goal.returns
returns c =
    let most = file_most c.args.word.now c.requires.word_len_bound c.args.header c.args.records.now c.args.count c.requires.count_bound in
    record { counted = omega arith; bounded = omega (arith, most) }
