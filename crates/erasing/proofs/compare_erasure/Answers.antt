use Rattle.erasing.proofs.compare_erasure.Goals as goal
use Rattle.erasing.proofs.compare_erasure.Goals.{in-Struck, in-Kept+else-not-goes_on_with}
use Rattle.erasing.proofs.Comparing.{compare_laws}
use Rattle.erasing.proofs.Comparing.{struck_passed}
use borrow.Author.Tests.{not-false}
use Rattle.erasing.proofs.Comparing.{line_agrees}

pub returns-then-not-goes_on_with : goal.returns-then-not-goes_on_with
returns-then-not-goes_on_with c = search compare_laws

pub loop-i-preserved : goal.loop-i-preserved
loop-i-preserved c =
    elim c.match-erase_line.branch [ in-Struck w ↦ search struck_passed | in-Kept+else-not-goes_on_with w ↦ search (not-false, line_agrees) ]

pub returns : goal.returns
returns c = search compare_laws
