use borrow.Author.Rules.{rules}
use Rattle.fields.proofs.ReadingLaws.{inside, digit_low, zero_leads, one_too_many, next, no_digit, whole}
use Rattle.fields.proofs.number_at.Goals as goal

-- each return has its own law, so that where it does not fit every way is tried
pub returns-then-is_lone_zero : goal.returns-then-is_lone_zero
returns-then-is_lone_zero c = search (rules, zero_leads)

pub returns-then-position-eq-LONGEST_FIELD : goal.returns-then-position-eq-LONGEST_FIELD
returns-then-position-eq-LONGEST_FIELD c = search (rules, one_too_many)

pub bounds-s-at : goal.bounds-s-at
bounds-s-at c = search (rules, inside)

pub overflow_sub-value : goal.overflow_sub-value
overflow_sub-value c = search (rules, digit_low)

pub loop-at-preserved : goal.loop-at-preserved
loop-at-preserved c = search (rules, next)

pub returns-then-position-start : goal.returns-then-position-start
returns-then-position-start c = search (rules, no_digit)

pub returns : goal.returns
returns c = search (rules, whole)
