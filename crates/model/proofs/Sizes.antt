-- Document 02, Job 3: numbers below two to the power (H − 1), times two to a scale that leaves H bits of the modulus, are below half of it. Assumes nothing.
use Prim.Native.Nat.{ℕ, zero, suc, ◌+◌, ◌-◌, ◌*◌, ◌/◌, ◌^◌, ◌≤◌, ◌<◌}
use native.Mathlib.Nat.{mul_comm, mul-div_cancel, pow-suc}
use native.Mathlib.Omega.{arith}
use mathlib.Core.Path.{◌≡◌, refl, ap, ◌∙◌}
use mathlib.Core.List.{[], ◌∷◌}
use lib.Dec.{T, ltb, ltb→lt, lt→ltb}
use lib.IntN.{ℤ, pos, negsuc, neg_ℤ, nat_abs, ◌*ℤ◌}
use lib.Pow.{pow_mono, shl_lt}
use Rattle.model.specs.Scales.{headroom}
use Rattle.model.specs.Machines.{Vector, times_two_to}
use Rattle.model.specs.Demands.{all_below}
use Rattle.model.specs.Worked.{sizes}
use Rattle.model.proofs.Tests.{Alike, and_first, and_second, and_both}

-- ---- the worked cases: what is computed of each is what it is
pub worked : Alike sizes
unfolding headroom
worked = (refl, (refl, (refl, (refl, (refl, (refl, (refl, (refl, (refl, (refl, (refl, (refl, (refl, (refl, (refl, (refl, tt))))))))))))))))

-- ---- any numbers
size_neg : (m : ℕ) → nat_abs (neg_ℤ (pos m)) ≡ m
size_neg zero = refl
size_neg (suc m) = refl

size_times : (n : ℕ) (x : ℤ) → nat_abs (pos n *ℤ x) ≡ nat_abs x * n
size_times n (pos a) = mul_comm n a
size_times n (negsuc a) = size_neg (n * suc a) ∙ mul_comm n (suc a)

half_is : (m : ℕ) → 1 ≤ m → 2 ^ m / 2 ≡ 2 ^ (m - 1)
half_is m some = ap (λ (k : ℕ). 2 ^ k / 2) (omega arith) ∙ ap (λ (n : ℕ). n / 2) (pow-suc 2 (m - 1)) ∙ mul-div_cancel (2 ^ (m - 1)) (omega arith)

module _ (bits : ℕ) (some : 1 ≤ bits) (s m : ℕ) (leaves : s + bits ≤ m) where
  slot_below : (x : ℤ) → nat_abs x < 2 ^ (bits - 1) → nat_abs (pos (2 ^ s) *ℤ x) < 2 ^ m / 2
  slot_below x small =
      let raised = shl_lt (bits - 1) s small in
      let fits : 2 ^ (bits - 1 + s) ≤ 2 ^ (m - 1) = pow_mono (omega arith) in
      let half = half_is m (omega arith) in
      let size = size_times (2 ^ s) x in
      omega arith

  pub times_below_half : (v : Vector) → T (all_below (2 ^ (bits - 1)) v) → T (all_below (2 ^ m / 2) (times_two_to s v))
  times_below_half [] t = tt
  times_below_half (x ∷ v) t =
      let small = ltb→lt (nat_abs x) (2 ^ (bits - 1)) (and_first (ltb (nat_abs x) (2 ^ (bits - 1))) (all_below (2 ^ (bits - 1)) v) t) in
      and_both (ltb (nat_abs (pos (2 ^ s) *ℤ x)) (2 ^ m / 2)) (all_below (2 ^ m / 2) (times_two_to s v))
      (lt→ltb (nat_abs (pos (2 ^ s) *ℤ x)) (2 ^ m / 2) (slot_below x small))
      (times_below_half v (and_second (ltb (nat_abs x) (2 ^ (bits - 1))) (all_below (2 ^ (bits - 1)) v) t))
