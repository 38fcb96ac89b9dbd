use Rattle.std.proofs.Common.{rules}
use Rattle.bounds.proofs.BoundLaws.{within_bounds}
use Rattle.bounds.proofs.bounded.Goals as goal

pub returns-clause-value : goal.returns-clause-value
returns-clause-value c = search (rules, within_bounds)
