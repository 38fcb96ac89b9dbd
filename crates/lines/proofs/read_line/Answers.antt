use Rattle.std.proofs.Common.{◌+◌, ◌≤◌, length, refl}
use Rattle.std.proofs.lemmas.Result.{err_from_is_err_and}
use Rattle.tables.specs.Records.{lines_held}
use Rattle.lines.proofs.read_line.Goals as goal
use Rattle.lines.proofs.ReadLaws.{line_laws, past_within, level_unsigned, held_few, not_read, level_outside, line_fits, line_judged_lem}

pub returns-then-not-is_word_of : goal.returns-then-not-is_word_of
returns-then-not-is_word_of c = search line_laws

pub returns-in_err-numbers : goal.returns-in_err-numbers
returns-in_err-numbers c =
    let a = c.args in
    let p = err_from_is_err_and c.from_residual.result c.from_residual.ensures.1 in
    rw (p.1, p.2)
    (not_read a.levels a.header a.found c.requires.found_value a.count a.text.now _ c.turns_level-turns.ensures c.requires.t _ c.numbers_of.ensures a.grammar
    (lines_held a.records.now a.count) _ c.is_word_of.ensures (search line_laws) _ c.in_err-numbers.was)

pub level_held-requires : goal.level_held-requires
level_held-requires c =
    let a = c.args in
    level_unsigned a.levels a.header a.found c.requires.found_value a.count a.text.now _ c.turns_level-turns.ensures c.requires.t _ c.numbers_of.ensures _ _ _ _
    c.in_ok-numbers.was

pub returns-in_err-level : goal.returns-in_err-level
returns-in_err-level c =
    let a = c.args in
    let p = err_from_is_err_and c.from_residual-in_err-level.result c.from_residual-in_err-level.ensures.1 in
    rw (p.1, p.2)
    (level_outside a.levels a.header a.found c.requires.found_value a.count a.text.now _ c.turns_level-turns.ensures c.requires.t _ c.numbers_of.ensures a.grammar
    (lines_held a.records.now a.count) _ c.is_word_of.ensures (search line_laws) _ _ _ _ c.in_ok-numbers.was _ c.level_held.ensures _ c.in_err-level.was)

pub overflow_add-line : goal.overflow_add-line
overflow_add-line c =
    let a = c.args in
    let inside : c.in_ok-numbers.numbers.end + 1 ≤ length c.args.text.now =
    past_within a.levels a.header a.found c.requires.found_value a.count a.text.now _ c.turns_level-turns.ensures c.requires.t _ c.numbers_of.ensures _ _ _ _
    c.in_ok-numbers.was in
    search line_laws

pub judge-requires-clause-numbers_fit : goal.judge-requires-clause-numbers_fit
judge-requires-clause-numbers_fit c =
    let a = c.args in
    line_fits a.levels a.header a.found c.requires.found_value a.count a.text.now _ c.turns_level-turns.ensures c.requires.t _ c.numbers_of.ensures _ _ _ _
    c.in_ok-numbers.was _ c.level_held.ensures _ c.in_ok-level.was _ refl

pub returns : goal.returns
returns c =
    let a = c.args in
    let short = held_few a.records.now a.count (search line_laws) in
    line_judged_lem a.levels a.header a.found c.requires.found_value a.count a.text.now _ c.turns_level-turns.ensures c.requires.t _ c.numbers_of.ensures a.grammar
    (lines_held a.records.now a.count) _ c.is_word_of.ensures (search line_laws) _ _ _ _ c.in_ok-numbers.was _ c.level_held.ensures _ c.in_ok-level.was short _
    refl c.judge.result c.judge.ensures
