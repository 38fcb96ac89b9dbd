use Rattle.checker.proofs.Laws.{by_rules}
use Rattle.checker.proofs.verdict.Goals as goal

pub returns : goal.returns
returns c =
    by_rules _ c.args.schedule.now _ c.compare_erasure.ensures.value _ c.listing_of.result _ c.in_ok-compare_erasure.was c.listing_of.ensures c.rules_answer.ensures.value
