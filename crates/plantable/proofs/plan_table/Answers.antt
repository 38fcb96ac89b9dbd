use Rattle.plantable.proofs.plan_table.Goals as goal
use Rattle.plantable.proofs.Planning.{plan_laws, in_reserves, in_levels, in_numbers, second_small, too_few}

pub loop-i-init : goal.loop-i-init
loop-i-init c = search plan_laws

pub operand_at-first-requires-clause-value_in_bounds :
    goal.operand_at-first-requires-clause-value_in_bounds
operand_at-first-requires-clause-value_in_bounds c = search plan_laws

pub operand_at-first-requires-clause-value_in_bounds_2 :
    goal.operand_at-first-requires-clause-value_in_bounds_2
operand_at-first-requires-clause-value_in_bounds_2 c = search plan_laws

pub operand_at-first-requires-clause-value_in_bounds_3 :
    goal.operand_at-first-requires-clause-value_in_bounds_3
operand_at-first-requires-clause-value_in_bounds_3 c = search plan_laws

pub operand_at-second-requires-clause-value_in_bounds :
    goal.operand_at-second-requires-clause-value_in_bounds
operand_at-second-requires-clause-value_in_bounds c =
    in_reserves c.loop-i.invariant _ (second_small c.loop-i.invariant c.loop-i-test.true _ c.line_at-line.ensures _ c.second_operand-b.ensures)

pub operand_at-second-requires-clause-value_in_bounds_2 :
    goal.operand_at-second-requires-clause-value_in_bounds_2
operand_at-second-requires-clause-value_in_bounds_2 c =
    in_levels c.loop-i.invariant _ (second_small c.loop-i.invariant c.loop-i-test.true _ c.line_at-line.ensures _ c.second_operand-b.ensures)

pub operand_at-second-requires-clause-value_in_bounds_3 :
    goal.operand_at-second-requires-clause-value_in_bounds_3
operand_at-second-requires-clause-value_in_bounds_3 c =
    in_numbers c.loop-i.invariant _ (second_small c.loop-i.invariant c.loop-i-test.true _ c.line_at-line.ensures _ c.second_operand-b.ensures)

pub choice_of-requires : goal.choice_of-requires
choice_of-requires c = search plan_laws

pub returns-in-Err-clause-planned : goal.returns-in-Err-clause-planned
returns-in-Err-clause-planned c =
    too_few c.loop-i.invariant c.loop-i-test.true _ c.line_at-line.ensures _ _ c.first_operand-a.ensures c.second_operand-b.ensures _ _
    c.operand_at-first.ensures c.operand_at-second.ensures _ c.choice_of.ensures _ c.in-Err.is

pub plan_line-drafted-requires-clause-done_as : goal.plan_line-drafted-requires-clause-done_as
plan_line-drafted-requires-clause-done_as c = search plan_laws

pub overflow_cast-levels : goal.overflow_cast-levels
overflow_cast-levels c = search plan_laws

pub loop-i-preserved : goal.loop-i-preserved
loop-i-preserved c = search plan_laws

pub returns-clause-planned : goal.returns-clause-planned
returns-clause-planned c = search plan_laws
