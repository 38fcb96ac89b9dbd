-- The worked prices hold: one test computed over the whole table. Assumes nothing.
use lib.Dec.{T}
use Rattle.model.specs.Scales.{headroom}
use Rattle.prices.specs.Worked.{all_hold, table}

pub tested : T (all_hold table)
unfolding headroom
tested = tt
