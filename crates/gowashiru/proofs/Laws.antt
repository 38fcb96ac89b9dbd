-- What each service replies is what is promised of it. Assumes nothing.
use borrow.Author.Rules.{rules}
use Rattle.services.proofs.Planning.{plan_promise}
use Rattle.services.proofs.Checking.{check_promise}
use Rattle.services.proofs.Erasing.{erase_promise}
use Rattle.services.proofs.Least.{least_promise}
use Rattle.services.proofs.Converting.{from_rising_promise}
use Rattle.risingwriter.proofs.Promise.{to_rising_promise}
use Rattle.dropping.proofs.Promise.{may_drop_promise, live_after_promise, live_peak_promise, live_promise}

pub ruleset promises = (
  rules,
  plan_promise,
  check_promise,
  erase_promise,
  least_promise,
  from_rising_promise,
  to_rising_promise,
  may_drop_promise,
  live_after_promise,
  live_peak_promise,
  live_promise,
)
