use Rattle.reader.proofs.Answers.{listing_formed}
use Rattle.reader.proofs.lend_listing.Goals as goal

pub invariant_of-result : goal.invariant_of-result
invariant_of-result c =
    let t = c.in_ok-header.field-0 in
    record { formed = listing_formed c.args.text.now c.read_listing.result c.read_listing.new.records c.read_listing.ensures.records_after t.header t.count c.in_ok-header.was c.read_listing.ensures.filled }
