use Rattle.levels.proofs.Seeking.{seeking}
use Rattle.levels.proofs.least_level.Goals as goal

pub levels-init : goal.levels-init
levels-init c = search seeking

pub loop-i-init : goal.loop-i-init
loop-i-init c = search seeking

pub reserve_of-requires : goal.reserve_of-requires
reserve_of-requires c = search seeking

pub returns-then-level-eq-LAST_LEVEL-clause-answer : goal.returns-then-level-eq-LAST_LEVEL-clause-answer
returns-then-level-eq-LAST_LEVEL-clause-answer c = search seeking

pub levels-preserved : goal.levels-preserved
levels-preserved c = search seeking

pub loop-i-preserved : goal.loop-i-preserved
loop-i-preserved c = search seeking

pub returns-clause-answer : goal.returns-clause-answer
returns-clause-answer c = search seeking
