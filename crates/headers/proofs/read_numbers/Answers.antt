use Rattle.std.proofs.Common.{rules}
use Rattle.std.proofs.lemmas.Result.{err_from_is_err_and}
use Rattle.headers.proofs.HeaderLaws.{no_second, no_third, three_told, no_fourth, not_closed, four_told}
use Rattle.headers.proofs.read_numbers.Goals as goal

pub returns-in_err-waterline : goal.returns-in_err-waterline
returns-in_err-waterline c =
    let p = err_from_is_err_and c.from_residual-in_err-waterline.result c.from_residual-in_err-waterline.ensures.1 in
    rw (p.1, p.2) (no_second _ _ _ c.number_at.ensures _ _ c.in_ok-factor.was _ c.number_at-2.ensures _ c.in_err-waterline.was)

pub returns-in_err-top : goal.returns-in_err-top
returns-in_err-top c =
    let p = err_from_is_err_and c.from_residual-in_err-top.result c.from_residual-in_err-top.ensures.1 in
    rw (p.1, p.2)
    (no_third _ _ _ c.number_at.ensures _ _ c.in_ok-factor.was _ c.number_at-2.ensures _ _ c.in_ok-waterline.was _ c.number_at-3.ensures _ c.in_err-top.was)

pub returns-then-is_at : goal.returns-then-is_at
returns-then-is_at c =
    three_told _ _ _ c.number_at.ensures _ _ c.in_ok-factor.was _ c.number_at-2.ensures _ _ c.in_ok-waterline.was _ c.number_at-3.ensures _ _ c.in_ok-top.was
    _ c.is_at.ensures c.if-is_at.true _ c.ranged.ensures

pub returns-in_err-bits : goal.returns-in_err-bits
returns-in_err-bits c =
    let p = err_from_is_err_and c.from_residual-in_err-bits.result c.from_residual-in_err-bits.ensures.1 in
    rw (p.1, p.2)
    (no_fourth _ _ _ c.number_at.ensures _ _ c.in_ok-factor.was _ c.number_at-2.ensures _ _ c.in_ok-waterline.was _ c.number_at-3.ensures _ _ c.in_ok-top.was
    _ c.is_at.ensures c.if-is_at.false _ c.number_at-4.ensures _ c.in_err-bits.was)

pub returns-then-not-is_at : goal.returns-then-not-is_at
returns-then-not-is_at c =
    not_closed _ _ _ c.number_at.ensures _ _ c.in_ok-factor.was _ c.number_at-2.ensures _ _ c.in_ok-waterline.was _ c.number_at-3.ensures _ _ c.in_ok-top.was
    _ c.is_at.ensures c.if-is_at.false _ c.number_at-4.ensures _ _ c.in_ok-bits.was _ c.is_at-2.ensures (search rules)

pub returns : goal.returns
returns c =
    four_told _ _ _ c.number_at.ensures _ _ c.in_ok-factor.was _ c.number_at-2.ensures _ _ c.in_ok-waterline.was _ c.number_at-3.ensures _ _ c.in_ok-top.was
    _ c.is_at.ensures c.if-is_at.false _ c.number_at-4.ensures _ _ c.in_ok-bits.was _ c.is_at-2.ensures (search rules) _ c.ranged-2.ensures
