-- `listingtable::convert` meets its contract: the loop's invariant is `Converting`. Assumes nothing.
use Rattle.listingtable.proofs.Converting.{Converting}
use Rattle.listingtable.proofs.convert.Given as goal

abbrev pub invariant-loop-i : goal.invariant-loop-i
invariant-loop-i l = Converting l.listing.header l.listing.records.now l.listing.count l.scales l.schedule l.names l.at l.i
