use Rattle.std.proofs.lemmas.Result.{err_from_is_err_and}
use Rattle.reader.proofs.HeaderLaws.{header_refused, header_ranged, header_within}
use Rattle.reader.proofs.read_file.Goals as goal

pub returns-in_err-header-clause-records_after : goal.returns-in_err-header-clause-records_after
returns-in_err-header-clause-records_after c =
    let a = c.args in
    let p = err_from_is_err_and c.from_residual.result c.from_residual.ensures.1 in
    rw (p.1, p.2) (header_refused a.levels a.context a.text.now a.records.now _ c.read_header.ensures _ c.in_err-header.was)

pub read_lines-requires-clause-t : goal.read_lines-requires-clause-t
read_lines-requires-clause-t c =
    header_ranged c.args.levels c.args.context c.args.text.now c.args.records.now _ c.read_header.ensures _ _ c.in_ok-header.was

pub read_lines-requires-clause-start_in_bounds : goal.read_lines-requires-clause-start_in_bounds
read_lines-requires-clause-start_in_bounds c =
    header_within c.args.levels c.args.context c.args.text.now c.args.records.now _ c.read_header.ensures _ _ c.in_ok-header.was
