use Rattle.prices.proofs.Pricing.{price_laws}
use Rattle.prices.proofs.table_price.Goals as goal

pub first_of-a-requires : goal.first_of-a-requires
first_of-a-requires c = search price_laws

pub bounds-levels-a : goal.bounds-levels-a
bounds-levels-a c = search price_laws

pub per_level-requires-clause-t : goal.per_level-requires-clause-t
per_level-requires-clause-t c = search price_laws

pub summed_starts-requires : goal.summed_starts-requires
summed_starts-requires c = search price_laws

pub level_after-requires : goal.level_after-requires
level_after-requires c = search price_laws

pub loop-i-preserved : goal.loop-i-preserved
loop-i-preserved c = search price_laws
