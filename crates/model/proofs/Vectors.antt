-- Vectors: what the scale machine does to a vector times two to a scale is what the plain machine does to the vector, times two to the
-- new scale; and the lengths. Assumes nothing.
use Prim.Native.Nat.{ℕ, zero, suc, ◌+◌, ◌-◌, ◌*◌, ◌/◌, ◌%◌, ◌^◌, ◌≤◌}
use native.Mathlib.Nat.{mul-div_right, mul-mod_right, mul_comm, zero-div}
use native.Mathlib.Omega.{arith}
use mathlib.Core.Path.{◌≡◌, refl, sym, ap, ◌∙◌, fun_ext}
use mathlib.Core.Bool.{true}
use mathlib.Core.List.{[], ◌∷◌, map, zip_with}
use lib.Dec.{eqb}
use lib.ListN.{length, get_or, length-map, get_or-map}
use lib.IntN.{ℤ, pos, negsuc, neg_ℤ, nat_abs, ◌+ℤ◌, ◌*ℤ◌, *ℤ-zero}
use lib.Signed.{quot_z, rem_z}
use lib.Pow.{pow-add, pow_pos}
use Rattle.ints.proofs.Ring.{*ℤ-assoc, *ℤ-distrib_left, *ℤ-neg, *ℤ-factors_out}
use Rattle.model.specs.Machines.{Vector, modulo, tabulate, rotated, times_two_to, over_two_to, no_remainder}

-- ---- lengths
pub length_zipped : (f : ℤ → ℤ → ℤ) {n : ℕ} (u v : Vector) → length u ≡ n → length v ≡ n → length (zip_with f u v) ≡ n
unfolding zip_with
length_zipped f {n} u v p q = same u v (p ∙ sym q) ∙ p
  where
    same : (u v : Vector) → length u ≡ length v → length (zip_with f u v) ≡ length u
    same [] v e = refl
    same (x ∷ u) [] e = sym e
    same (x ∷ u) (y ∷ v) e = ap suc (same u v (omega arith))

pub length_tabulate : (n : ℕ) (f : ℕ → ℤ) → length (tabulate n f) ≡ n
length_tabulate zero f = refl
length_tabulate (suc n) f = ap suc (length_tabulate n (λ i. f (suc i)))

pub length_rotated : (n : ℕ) (t : ℤ) (v : Vector) → length (rotated n t v) ≡ n
length_rotated n t v = length_tabulate n (λ i. get_or v (modulo (pos i +ℤ t) n) (pos 0))

pub length_map_of : (f : ℤ → ℤ) {n : ℕ} (v : Vector) → length v ≡ n → length (map f v) ≡ n
length_map_of f v e = length-map v f ∙ e

-- ---- times two to a scale
abbrev power : ℕ → ℤ
power k = pos (2 ^ k)

pub times_neg : (k : ℕ) (v : Vector) → map neg_ℤ (times_two_to k v) ≡ times_two_to k (map neg_ℤ v)
times_neg k [] = refl
times_neg k (x ∷ v) = λ i. sym (*ℤ-neg (power k) x) i ∷ times_neg k v i

pub times_add : (k : ℕ) (u v : Vector) → zip_with ◌+ℤ◌ (times_two_to k u) (times_two_to k v) ≡ times_two_to k (zip_with ◌+ℤ◌ u v)
unfolding zip_with
times_add k [] v = refl
times_add k (x ∷ u) [] = refl
times_add k (x ∷ u) (y ∷ v) = λ i. sym (*ℤ-distrib_left (power k) x y) i ∷ times_add k u v i

pub times_mul : (j k : ℕ) (u v : Vector) → zip_with ◌*ℤ◌ (times_two_to j u) (times_two_to k v) ≡ times_two_to (j + k) (zip_with ◌*ℤ◌ u v)
unfolding zip_with
times_mul j k [] v = refl
times_mul j k (x ∷ u) [] = refl
times_mul j k (x ∷ u) (y ∷ v) = λ i. slot i ∷ times_mul j k u v i
  where
    slot : (power j *ℤ x) *ℤ (power k *ℤ y) ≡ power (j + k) *ℤ (x *ℤ y)
    slot = *ℤ-factors_out (power j) (power k) x y ∙ ap (λ (n : ℕ). pos n *ℤ (x *ℤ y)) (sym (pow-add 2 j k))

pub times_times : (j k : ℕ) (v : Vector) → times_two_to k (times_two_to j v) ≡ times_two_to (j + k) v
times_times j k [] = refl
times_times j k (x ∷ v) = λ i. slot i ∷ times_times j k v i
  where
    slot : power k *ℤ (power j *ℤ x) ≡ power (j + k) *ℤ x
    slot = sym (*ℤ-assoc (power k) (power j) x) ∙ ap (λ (n : ℕ). pos n *ℤ x) (mul_comm (2 ^ k) (2 ^ j) ∙ sym (pow-add 2 j k))

times_tabulate : (k n : ℕ) (f : ℕ → ℤ) → times_two_to k (tabulate n f) ≡ tabulate n (λ i. power k *ℤ f i)
times_tabulate k zero f = refl
times_tabulate k (suc n) f = ap (λ (v : Vector). (power k *ℤ f zero) ∷ v) (times_tabulate k n (λ i. f (suc i)))

pub times_rotated : (k n : ℕ) (t : ℤ) (v : Vector) → rotated n t (times_two_to k v) ≡ times_two_to k (rotated n t v)
times_rotated k n t v = ap (tabulate n) (fun_ext slot) ∙ sym (times_tabulate k n (λ i. get_or v (modulo (pos i +ℤ t) n) (pos 0)))
  where
    slot : (i : ℕ) → get_or (times_two_to k v) (modulo (pos i +ℤ t) n) (pos 0) ≡ power k *ℤ get_or v (modulo (pos i +ℤ t) n) (pos 0)
    slot i =
        ap (get_or (times_two_to k v) (modulo (pos i +ℤ t) n)) (sym (*ℤ-zero (power k)))
        ∙ get_or-map (λ x. power k *ℤ x) v (modulo (pos i +ℤ t) n) (pos 0)

-- ---- over two to a scale
rest_neg : (m d : ℕ) → nat_abs (rem_z (neg_ℤ (pos m)) (pos d)) ≡ m % d
rest_neg zero d = refl
rest_neg (suc m) d = nat_abs_neg (suc m % d)
  where
    nat_abs_neg : (m : ℕ) → nat_abs (neg_ℤ (pos m)) ≡ m
    nat_abs_neg zero = refl
    nat_abs_neg (suc m) = refl

no_rest : (k : ℕ) (x : ℤ) → nat_abs (rem_z (power k *ℤ x) (power k)) ≡ 0
no_rest k (pos a) = mul-mod_right (2 ^ k) a
no_rest k (negsuc a) = rest_neg (2 ^ k * suc a) (2 ^ k) ∙ mul-mod_right (2 ^ k) (suc a)

quotient_neg : (m d : ℕ) → quot_z (neg_ℤ (pos m)) (pos d) ≡ neg_ℤ (pos (m / d))
quotient_neg zero d = cc (zero-div d)
quotient_neg (suc m) d = refl

quotient_back : (k : ℕ) (x : ℤ) → quot_z (power k *ℤ x) (power k) ≡ x
quotient_back k (pos a) = ap pos (mul-div_right a (pow_pos k))
quotient_back k (negsuc a) = quotient_neg (2 ^ k * suc a) (2 ^ k) ∙ ap (λ (m : ℕ). neg_ℤ (pos m)) (mul-div_right (suc a) (pow_pos k))

pub no_remainder_lem : (k : ℕ) (v : Vector) → no_remainder k (times_two_to k v) ≡ true
no_remainder_lem k [] = refl
no_remainder_lem k (x ∷ v) = cc (ap (λ (m : ℕ). eqb m 0) (no_rest k x), no_remainder_lem k v)

pub over_times : (k : ℕ) (v : Vector) → over_two_to k (times_two_to k v) ≡ v
over_times k [] = refl
over_times k (x ∷ v) = λ i. quotient_back k x i ∷ over_times k v i

-- a smaller power taken out
pub times_apart : (k s : ℕ) (v : Vector) → k ≤ s → times_two_to s v ≡ times_two_to k (times_two_to (s - k) v)
times_apart k s v h = ap (λ (n : ℕ). times_two_to n v) (omega arith) ∙ sym (times_times (s - k) k v)
