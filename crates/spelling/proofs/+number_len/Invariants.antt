use Rattle.spelling.proofs.+number_len.Given as goal

-- The number falls.
abbrev pub decreases-number_len : goal.decreases-number_len
decreases-number_len l = l.n
