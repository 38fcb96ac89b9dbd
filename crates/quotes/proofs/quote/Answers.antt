use Rattle.quotes.proofs.Laws.{quote_needs, quote_refusals, quote_counts}
use Rattle.quotes.proofs.quote.Goals as goal

pub counted-requires : goal.counted-requires
counted-requires c = search quote_needs

pub returns-in-Err : goal.returns-in-Err
returns-in-Err c = search quote_refusals

pub returns-in-Err-plan_table : goal.returns-in-Err-plan_table
returns-in-Err-plan_table c = search quote_refusals

pub returns-in-Ok-plan_table : goal.returns-in-Ok-plan_table
returns-in-Ok-plan_table c = search quote_counts
