-- A signed number in the machine: read back it is itself, and a test of what is read is a test of the numbers. Assumes nothing.
use Prim.Native.Nat.{ℕ, ◌≤◌, ◌<◌}
use mathlib.Core.Bool.{Bool}
use mathlib.Core.Path.{◌≡◌, refl}
use native.Mathlib.Omega.{arith}
use lib.Dec.{T, leb→le}
use lib.IntN.{ℤ, pos, negsuc, nat_abs}
use lib.Signed.{mag, non_neg, le_z, lt_z}
use mir.Syntax.{w32}
use mir.Val.{Fits, SFits, to_z, of_z}
use mir.Facts.{to_z-of_z, to_z_pos}
use Rattle.ints.specs.Parts.{positive, negative}
use Rattle.choices.specs.Ranges.{Small}

-- z as an `i32` holds it
abbrev pub held : ℤ → ℤ
held z = to_z w32 (of_z w32 z)

-- a small number is one of 0 to 3,600
pub by_small : (P : ℤ → Type 0) (r : ℤ) → Small r → ((n : ℕ) → n ≤ 3600 → P (pos n)) → P r
by_small P (pos n) s f = f n (leb→le n 3600 s.high.le)
by_small P (negsuc n) s f = absurd s.low.le

pub small_fits : (z : ℤ) → Small z → SFits w32 z
small_fits z s = by_small (SFits w32) z s (λ n k. record { sfits = omega arith })

pub fits_by_parts : (z : ℤ) → positive z < 2147483648 → negative z < 2147483648 → SFits w32 z
fits_by_parts (pos n) p q = record { sfits = p }
fits_by_parts (negsuc n) p q = record { sfits = omega arith }

-- ---- what is read back
-- of a call's result
pub result_held : (z : ℤ) → mag z < 2147483648 → held z ≡ z
result_held z k = to_z-of_z {w = w32} (record { sfits = k })

-- of a small number
pub small_held : (z : ℤ) → Small z → held z ≡ z
small_held z s = to_z-of_z (small_fits z s)

pub held_small : (z : ℤ) → Small z → Small (held z)
held_small z s = rw (small_held z s) s

-- `n as i32`
pub cast_is : (n : ℕ) → n ≤ 3719 → to_z w32 n ≡ pos n
cast_is n k = to_z_pos w32 (omega arith)

-- ---- `r as u32` of a small number
pub size_held : (r : ℤ) → Small r → nat_abs (held r) ≡ positive r
size_held r s = rw (small_held r s) (by_small (λ z. nat_abs z ≡ positive z) r s (λ n k. refl))

pub size_most : (r : ℤ) → Small r → positive r ≤ 3600
size_most r s = by_small (λ z. positive z ≤ 3600) r s (λ n k. k)

pub cast_positive : (r : ℤ) → Small r → T (non_neg (held r))
cast_positive r s = rw (small_held r s) (by_small (λ z. T (non_neg z)) r s (λ n k. tt))

pub cast_fits : (r : ℤ) → Small r → Fits w32 (nat_abs (held r))
cast_fits r s = record { fits = omega (arith, size_held r s, size_most r s) }

-- ---- tests
pub test_le : (r z : ℤ) {t : Bool} → SFits w32 r → SFits w32 z → le_z (held r) (held z) ≡ t → le_z r z ≡ t
test_le r z f g e = rw (to_z-of_z f, to_z-of_z g) at e

pub test_lt : (r z : ℤ) {t : Bool} → SFits w32 r → SFits w32 z → lt_z (held r) (held z) ≡ t → lt_z r z ≡ t
test_lt r z f g e = rw (to_z-of_z f, to_z-of_z g) at e
