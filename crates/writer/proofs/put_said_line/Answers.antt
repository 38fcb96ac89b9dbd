use Rattle.std.proofs.Common.{rules}
use Rattle.spelling.proofs.Fields.{numbered, line_end}
use Rattle.spelling.proofs.Taking.{room_of_first, room_of_next, took_both}
use Rattle.writer.proofs.put_said_line.Goals as goal

pub put_said-requires : goal.put_said-requires
put_said-requires g c =
    (search rules, room_of_first g.met.S.Sink.laws _ (line_end (numbered c.args.word.now c.args.numbers)) c.requires)

pub end_line-requires : goal.end_line-requires
end_line-requires g c =
    room_of_next g.met.S.Sink.laws (line_end (numbered c.args.word.now c.args.numbers)) c.requires c.put_said.ensures

pub returns : goal.returns
returns g c =
    took_both g.met.S.Sink.laws (line_end (numbered c.args.word.now c.args.numbers)) c.put_said.ensures c.end_line.ensures
