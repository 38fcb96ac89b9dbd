use borrow.Author.Rules.{rules}
use Rattle.forms.proofs.StepLaws.{reading_start, field_missing, field_more, not_closed, all_told}
use Rattle.forms.proofs.numbers_at.Goals as goal

pub loop-i-init : goal.loop-i-init
loop-i-init c = search (rules, reading_start)

pub returns-in_default : goal.returns-in_default
returns-in_default c = search (rules, field_missing)

pub loop-i-preserved : goal.loop-i-preserved
loop-i-preserved c = search (rules, field_more)

pub returns-then-not-is_at : goal.returns-then-not-is_at
returns-then-not-is_at c = search (rules, not_closed)

pub returns : goal.returns
returns c = search (rules, all_told)
