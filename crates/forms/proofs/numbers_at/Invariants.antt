use Rattle.forms.proofs.StepLaws.{Reading}
use Rattle.forms.proofs.numbers_at.Given as goal

-- the numbers of the fields before this one are read
abbrev pub invariant-loop-i : goal.invariant-loop-i
invariant-loop-i l = Reading l.asked l.text l.start l.numbers l.outside l.at l.i
