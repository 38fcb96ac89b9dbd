use Rattle.reserves.proofs.LineLaws.{lines}
use Rattle.reserves.proofs.reserve_of.Goals as goal

pub bounds-reserves-first : goal.bounds-reserves-first
bounds-reserves-first c = search lines

pub bounds-reserves-first-in-Rot : goal.bounds-reserves-first-in-Rot
bounds-reserves-first-in-Rot c = search lines

pub sum_reserve-requires-clause-known_operand : goal.sum_reserve-requires-clause-known_operand
sum_reserve-requires-clause-known_operand c = search lines

pub sum_reserve-requires-clause-known_operand_2 : goal.sum_reserve-requires-clause-known_operand_2
sum_reserve-requires-clause-known_operand_2 c = search lines

pub product_reserve-requires-clause-known_operand : goal.product_reserve-requires-clause-known_operand
product_reserve-requires-clause-known_operand c = search lines

pub product_reserve-requires-clause-known_operand_2 : goal.product_reserve-requires-clause-known_operand_2
product_reserve-requires-clause-known_operand_2 c = search lines

pub bounds-reserves-first-in-Out : goal.bounds-reserves-first-in-Out
bounds-reserves-first-in-Out c = search lines

pub returns-in-Const-clause-reserve : goal.returns-in-Const-clause-reserve
returns-in-Const-clause-reserve c = search lines

pub returns-in-Rot-clause-reserve : goal.returns-in-Rot-clause-reserve
returns-in-Rot-clause-reserve c = search lines

pub returns-in-Enc-clause-reserve : goal.returns-in-Enc-clause-reserve
returns-in-Enc-clause-reserve c = search lines

pub returns-in-Rs-clause-reserve : goal.returns-in-Rs-clause-reserve
returns-in-Rs-clause-reserve c = search lines

pub returns-in-Ms-clause-reserve : goal.returns-in-Ms-clause-reserve
returns-in-Ms-clause-reserve c = search lines

pub returns-in-Us-clause-reserve : goal.returns-in-Us-clause-reserve
returns-in-Us-clause-reserve c = search lines

pub returns-in-Free-clause-reserve : goal.returns-in-Free-clause-reserve
returns-in-Free-clause-reserve c = search lines

pub returns-in-In-clause-reserve : goal.returns-in-In-clause-reserve
returns-in-In-clause-reserve c = search lines

pub returns-in-Neg-clause-reserve : goal.returns-in-Neg-clause-reserve
returns-in-Neg-clause-reserve c = search lines

pub returns-in-Add-clause-reserve : goal.returns-in-Add-clause-reserve
returns-in-Add-clause-reserve c = search lines

pub returns-in-Mul-clause-reserve : goal.returns-in-Mul-clause-reserve
returns-in-Mul-clause-reserve c = search lines

pub returns-in-Out-clause-reserve : goal.returns-in-Out-clause-reserve
returns-in-Out-clause-reserve c = search lines
