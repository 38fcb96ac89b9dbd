use Rattle.rules.proofs.Counted.{schedule_counted}
use Rattle.rules.proofs.listing_of.Goals as goal

pub invariant_of-result : goal.invariant_of-result
invariant_of-result c = record { formed = schedule_counted _ c.args.schedule.now.formed }
