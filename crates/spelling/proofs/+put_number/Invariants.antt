use Rattle.spelling.proofs.+put_number.Given as goal

-- The number falls.
abbrev pub decreases-put_number : goal.decreases-put_number
decreases-put_number l = l.n
