-- A signed number is its positive part less its negative part, one of which is 0. No promise rests on the negative part.
use Rattle.std.specs.Prelude.{ℕ, suc, ℤ, pos, negsuc}

abbrev pub negative : ℤ → ℕ
negative (pos n) = 0
negative (negsuc n) = suc n
