use Rattle.text.specs.Files.{line_form}
use Rattle.spelling.proofs.Fields.{line_end}
use Rattle.spelling.proofs.Taking.{room_of_first, room_of_next, took_both}
use Rattle.writer.proofs.put_line.Goals as goal

pub put_fields-requires : goal.put_fields-requires
put_fields-requires g c = room_of_first g.met.S.Sink.laws _ (line_end (line_form.text c.args.line)) c.requires

pub put_byte-requires : goal.put_byte-requires
put_byte-requires g c = room_of_next g.met.S.Sink.laws (line_end (line_form.text c.args.line)) c.requires c.put_fields.ensures

pub returns : goal.returns
returns g c = took_both g.met.S.Sink.laws (line_end (line_form.text c.args.line)) c.put_fields.ensures c.put_byte.ensures
