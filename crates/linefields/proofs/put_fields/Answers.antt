use Rattle.std.proofs.Common.{rules, lit<}
use mir.Syntax.{w16}
use mir.Val.{SFits}
use Rattle.spelling.proofs.Taking.{room_of_first, room_of_next, took_both}
use Rattle.linefields.proofs.Fields.{in_text, rot_text, free_text}
use Rattle.linefields.proofs.put_fields.Goals as goal

pub put_bytes-requires : goal.put_bytes-requires
put_bytes-requires g c = rw (in_text c.args.line c.in-In.is) at c.requires

pub returns-in-In : goal.returns-in-In
returns-in-In g c = rw (in_text c.args.line c.in-In.is) c.put_bytes.ensures

pub put_said-requires-in-Rot : goal.put_said-requires-in-Rot
put_said-requires-in-Rot g c =
    let fits : SFits w16 c.in-Rot.t = search rules in
    (lit< tt, room_of_first g.met.S.Sink.laws _ (rot_text c.args.line c.in-Rot.a c.in-Rot.t c.in-Rot.is fits) c.requires)

pub put_amount_field-requires : goal.put_amount_field-requires
put_amount_field-requires g c =
    let fits : SFits w16 c.in-Rot.t = search rules in
    room_of_next g.met.S.Sink.laws (rot_text c.args.line c.in-Rot.a c.in-Rot.t c.in-Rot.is fits) c.requires c.put_said-in-Rot.ensures

pub returns-in-Rot : goal.returns-in-Rot
returns-in-Rot g c =
    let fits : SFits w16 c.in-Rot.t = search rules in
    took_both g.met.S.Sink.laws (rot_text c.args.line c.in-Rot.a c.in-Rot.t c.in-Rot.is fits) c.put_said-in-Rot.ensures c.put_amount_field.ensures

pub returns-in-Free : goal.returns-in-Free
returns-in-Free g c = rw (free_text c.args.line c.in-Free.is) (g.met.S.Sink.laws.nothing _)
