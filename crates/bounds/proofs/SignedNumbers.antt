-- Small signed numbers as an `i32` holds them: they fit, and so do their sums and products. Assumes nothing.
use Prim.Native.Nat.{ℕ, suc, ◌+◌, ◌*◌, ◌≤◌}
use native.Mathlib.Nat.{mul-le-mul}
use native.Mathlib.Omega.{arith}
use mathlib.Core.Path.{◌≡◌, refl, ap, ◌∙◌}
use lib.IntN.{ℤ, pos, negsuc, ◌+ℤ◌, ◌*ℤ◌, nat_abs}
use mir.Syntax.{w32}
use mir.Val.{SFits, to_z, of_z}
use mir.ValLaws.{to_z-of_z}
use Rattle.ints.specs.Parts.{positive, negative}
use Rattle.ints.proofs.Linear.{parts+, positive_neg, negative_neg, one_part, whole_part}

-- z as an `i32` holds it
abbrev pub held : ℤ → ℤ
held z = to_z w32 (of_z w32 z)

pub small_fits : (z : ℤ) → positive z + negative z ≤ 1000000 → SFits w32 z
small_fits (pos n) h = record { sfits = omega arith }
small_fits (negsuc n) h = record { sfits = omega arith }

pub held_small : (z : ℤ) → positive z + negative z ≤ 1000000 → held z ≡ z
held_small z h = to_z-of_z w32 z (small_fits z h)

-- ---- from a natural number, and back
pub held_natural : (z : ℤ) (n : ℕ) → z ≡ pos n → n ≤ 7200 → held z ≡ pos n
held_natural z n e h = ap held e ∙ held_small (pos n) (omega arith)

pub natural_size : (z : ℤ) → positive z + negative z ≤ 7200 → negative z ≡ 0 → nat_abs (held z) ≡ positive z
natural_size z small none = rw (held_small z (omega arith), whole_part z none) refl

-- ---- sums and products
pub sum_small : (a b : ℤ) (m n : ℕ) → positive a + negative a ≤ m → positive b + negative b ≤ n → positive (a +ℤ b) + negative (a +ℤ b) ≤ m + n
sum_small a b m n p q = one_part (a +ℤ b) _ (λ z. omega (arith, parts+ a b)) (λ z. omega (arith, parts+ a b))

pub product_small : (n : ℕ) (z : ℤ) (m k : ℕ) → n ≤ m → positive z + negative z ≤ k → positive (pos n *ℤ z) + negative (pos n *ℤ z) ≤ m * k
product_small n (pos z) m k p q = let most : z ≤ k = omega arith in omega (arith, mul-le-mul p most)
product_small n (negsuc z) m k p q =
    let most : suc z ≤ k = omega arith in
    omega (arith, mul-le-mul p most, positive_neg (pos (n * suc z)), negative_neg (pos (n * suc z)))
