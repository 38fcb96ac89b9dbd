use Rattle.reader.proofs.Filling.{text_falls, kept_room, line_stored, filling_laws}
use Rattle.reader.proofs.read_lines.Goals as goal

pub loop-at-init : goal.loop-at-init
loop-at-init c = search filling_laws

pub returns-then-past_limits-clause-records_after : goal.returns-then-past_limits-clause-records_after
returns-then-past_limits-clause-records_after c = rw c.refused.ensures (search filling_laws)

pub returns-in-Err-clause-records_after : goal.returns-in-Err-clause-records_after
returns-in-Err-clause-records_after c = search filling_laws

pub bounds-records-count : goal.bounds-records-count
bounds-records-count c = search filling_laws

pub kept_with-kept-requires : goal.kept_with-kept-requires
kept_with-kept-requires c = search kept_room

pub loop-at-smaller : goal.loop-at-smaller
loop-at-smaller c = search text_falls

pub loop-at-preserved : goal.loop-at-preserved
loop-at-preserved c = search line_stored

pub returns-clause-records_after : goal.returns-clause-records_after
returns-clause-records_after c = search filling_laws
