use Rattle.std.proofs.Common.{arith, ◌≤◌}
use Rattle.listingtable.proofs.convert.Goals as goal
use Rattle.listingtable.proofs.convert.Goals.{in-One+else-at-ge1792, in-Two+else-at-ge1791}
use Rattle.listingtable.proofs.Converting.{converting_laws}
use Rattle.listingtable.proofs.Converting.{full_at_one, full_at_two, after_one, after_two, all_converted}

pub convert_line-requires : goal.convert_line-requires
convert_line-requires c = search converting_laws

pub returns-then-at-ge1792 : goal.returns-then-at-ge1792
returns-then-at-ge1792 c = search (full_at_one _ _ _ _ _ _ _ _ c.loop-i.invariant)

pub returns-then-at-ge1791 : goal.returns-then-at-ge1791
returns-then-at-ge1791 c =
    let over : 1791 ≤ c.loop-i.at = omega arith in
    search (full_at_two _ _ _ _ _ _ _ _ c.loop-i.invariant)

pub loop-i-preserved : goal.loop-i-preserved
loop-i-preserved c =
    elim c.match-convert_line.branch [ in-One+else-at-ge1792 w ↦ search after_one | in-Two+else-at-ge1791 w ↦ search (after_two _ _ _ _ _ _ _ _ c.loop-i.invariant) ]

pub returns : goal.returns
returns c = search (all_converted _ _ _ _ _ _ _ _ c.loop-i.invariant)
