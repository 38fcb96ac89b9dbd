use borrow.Author.Rules.{rules}
use Rattle.fields.proofs.FieldLaws.{from_unsigned, as_none, as_amount, as_number, start_laws}
use Rattle.fields.proofs.field_at.Goals as goal

pub number_at-requires-clause-start_in_bounds : goal.number_at-requires-clause-start_in_bounds
number_at-requires-clause-start_in_bounds c = search start_laws

-- each return has its own law, so that where it does not fit every way is tried
pub returns-in_err-read : goal.returns-in_err-read
returns-in_err-read c = search (rules, as_none)

pub negated-requires : goal.negated-requires
negated-requires c = search (rules, from_unsigned)

pub returns-then-minus : goal.returns-then-minus
returns-then-minus c = search (rules, as_amount)

pub returns-else-minus : goal.returns-else-minus
returns-else-minus c = search (rules, as_number)
