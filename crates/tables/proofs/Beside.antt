-- An array of numbers beside a table's lines, of which none is above a bound. Assumes nothing.
use Prim.Native.Nat.{ℕ, zero, suc, ◌≤◌}
use native.Mathlib.Omega.{arith}
use mathlib.Core.List.{List, [], ◌∷◌}
use lib.ListN.{get_or, set, replicate}

pub none_most : (n most a : ℕ) → get_or (replicate n 0) a 0 ≤ most
none_most zero most a = omega arith
none_most (suc n) most zero = omega arith
none_most (suc n) most (suc a) = none_most n most a

pub set_most : (l : List ℕ) (i x most : ℕ) → ((a : ℕ) → get_or l a 0 ≤ most) → x ≤ most → (a : ℕ) → get_or (set l i x) a 0 ≤ most
set_most [] i x most s p a = s a
set_most (y ∷ l) zero x most s p zero = p
set_most (y ∷ l) zero x most s p (suc a) = s (suc a)
set_most (y ∷ l) (suc i) x most s p zero = s zero
set_most (y ∷ l) (suc i) x most s p (suc a) = set_most l i x most (λ b. s (suc b)) p a
