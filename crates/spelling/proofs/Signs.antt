-- Whether a signed number is below 0, as the machine tests it. Assumes nothing.
use Prim.Native.Nat.{ℕ}
use mathlib.Core.Bool.{true, false}
use mathlib.Core.Path.{◌≡◌, refl}
use native.Mathlib.Omega.{arith}
use borrow.Author.Tests.{le-ltb}
use lib.IntN.{ℤ, pos, negsuc}
use lib.Signed.{lt_z}
use mir.Syntax.{w16}
use mir.Val.{SFits, to_z, of_z}
use mir.ValLaws.{to_z-of_z}
use Rattle.spelling.specs.Put.{is_negative}

-- z as an `i16` holds it
abbrev pub held : ℤ → ℤ
held z = to_z w16 (of_z w16 z)

pub not_both : {P : Type 0} → false ≡ true → P
not_both e = absurd (let z : ◌≡◌ {A = ℕ} 0 1 = cc in omega arith)

below_zero : (z : ℤ) → lt_z z (pos 0) ≡ is_negative z
below_zero (pos n) = le-ltb n 0 (omega arith)
below_zero (negsuc n) = refl

pub same_sign : (z : ℤ) → SFits w16 z → lt_z (held z) (pos 0) ≡ is_negative z
same_sign z h = rw (to_z-of_z w16 z h) (below_zero z)
