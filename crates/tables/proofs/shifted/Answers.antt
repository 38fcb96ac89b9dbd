-- The amount is held by the sum. Assumes nothing.
use Rattle.tables.proofs.Amounts.{number_held}
use Rattle.tables.proofs.shifted.Goals as goal

pub returns : goal.returns
returns c = (number_held _ c.ranges.amount).amount
