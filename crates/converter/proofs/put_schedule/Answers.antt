use Rattle.std.proofs.lemmas.Result.{err_from_is_err_and}
use Rattle.converter.proofs.Steps.{lines_full}
use Rattle.converter.proofs.put_schedule.Goals as goal

pub returns-in_err-size : goal.returns-in_err-size
returns-in_err-size c =
    let p = err_from_is_err_and c.from_residual.result c.from_residual.ensures.1 in
    rw (p.1, p.2) (lines_full c.args.listing.now _ c.requires.scales_left _ _ c.convert.ensures _ _ c.in_err-size.was)
