use Rattle.prices.proofs.Pricing.{Pricing}
use Rattle.prices.proofs.table_price.Given as goal

abbrev pub invariant-loop-i : goal.invariant-loop-i
invariant-loop-i l = Pricing l.header l.schedule l.count l.levels l.price l.i
