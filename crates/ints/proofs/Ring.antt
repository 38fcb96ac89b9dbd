-- The ring laws of signed numbers that lib.IntN leaves out: products are associative, distribute over sums and take a sign out.
-- Assumes nothing.
use Prim.Native.Nat.{zero, suc}
use mathlib.Core.Path.{◌≡◌}
use lib.IntN.{ℤ, pos, negsuc, suc_ℤ, pred_ℤ, neg_ℤ, ◌+ℤ◌, ◌*ℤ◌, neg_ℤ-neg_ℤ, neg_ℤ-suc_ℤ, neg_ℤ-pred_ℤ, suc_ℤ-+ℤ, pred_ℤ-+ℤ, +ℤ_idl, +ℤ_assoc, +ℤ_comm, neg_ℤ-+ℤ, zero-*ℤ, suc_ℤ-*ℤ, pred_ℤ-*ℤ, *ℤ_comm}

-- from 0, one up and one down
up_and_down : (P : ℤ → Type 0) → P (pos zero) → ((k : ℤ) → P k → P (suc_ℤ k)) → ((k : ℤ) → P k → P (pred_ℤ k)) → (k : ℤ) → P k
up_and_down P z s p (pos zero) = z
up_and_down P z s p (pos (suc n)) = s (pos n) (up_and_down P z s p (pos n))
up_and_down P z s p (negsuc zero) = p (pos zero) z
up_and_down P z s p (negsuc (suc n)) = p (negsuc n) (up_and_down P z s p (negsuc n))

pub +ℤ-swap : (a b c : ℤ) → (a +ℤ b) +ℤ c ≡ (a +ℤ c) +ℤ b
+ℤ-swap a b c = cc (+ℤ_assoc a b c, +ℤ_assoc a c b, +ℤ_comm b c)

pub *ℤ-distrib_right : (a b c : ℤ) → (a +ℤ b) *ℤ c ≡ a *ℤ c +ℤ b *ℤ c
*ℤ-distrib_right a b c =
    up_and_down (λ a. (a +ℤ b) *ℤ c ≡ a *ℤ c +ℤ b *ℤ c)
    (cc (+ℤ_idl b, zero-*ℤ c, +ℤ_idl (b *ℤ c)))
    (λ a h. cc (suc_ℤ-+ℤ a b, suc_ℤ-*ℤ (a +ℤ b) c, suc_ℤ-*ℤ a c, +ℤ-swap (a *ℤ c) (b *ℤ c) c))
    (λ a h. cc (pred_ℤ-+ℤ a b, pred_ℤ-*ℤ (a +ℤ b) c, pred_ℤ-*ℤ a c, +ℤ-swap (a *ℤ c) (b *ℤ c) (neg_ℤ c)))
    a

pub *ℤ-distrib_left : (a b c : ℤ) → a *ℤ (b +ℤ c) ≡ a *ℤ b +ℤ a *ℤ c
*ℤ-distrib_left a b c = cc (*ℤ_comm a (b +ℤ c), *ℤ-distrib_right b c a, *ℤ_comm b a, *ℤ_comm c a)

pub neg-*ℤ : (a b : ℤ) → neg_ℤ a *ℤ b ≡ neg_ℤ (a *ℤ b)
neg-*ℤ a b =
    up_and_down (λ a. neg_ℤ a *ℤ b ≡ neg_ℤ (a *ℤ b))
    (cc (zero-*ℤ b))
    (λ a h. cc (neg_ℤ-suc_ℤ a, pred_ℤ-*ℤ (neg_ℤ a) b, suc_ℤ-*ℤ a b, neg_ℤ-+ℤ (a *ℤ b) b))
    (λ a h. cc (neg_ℤ-pred_ℤ a, suc_ℤ-*ℤ (neg_ℤ a) b, pred_ℤ-*ℤ a b, neg_ℤ-+ℤ (a *ℤ b) (neg_ℤ b), neg_ℤ-neg_ℤ b))
    a

pub *ℤ-neg : (a b : ℤ) → a *ℤ neg_ℤ b ≡ neg_ℤ (a *ℤ b)
*ℤ-neg a b = cc (*ℤ_comm a (neg_ℤ b), neg-*ℤ b a, *ℤ_comm b a)

pub *ℤ-assoc : (a b c : ℤ) → (a *ℤ b) *ℤ c ≡ a *ℤ (b *ℤ c)
*ℤ-assoc a b c =
    up_and_down (λ a. (a *ℤ b) *ℤ c ≡ a *ℤ (b *ℤ c))
    (cc (zero-*ℤ b, zero-*ℤ c, zero-*ℤ (b *ℤ c)))
    (λ a h. cc (suc_ℤ-*ℤ a b, *ℤ-distrib_right (a *ℤ b) b c, suc_ℤ-*ℤ a (b *ℤ c)))
    (λ a h. cc (pred_ℤ-*ℤ a b, *ℤ-distrib_right (a *ℤ b) (neg_ℤ b) c, neg-*ℤ b c, pred_ℤ-*ℤ a (b *ℤ c)))
    a

-- a factor out of each side of a product
pub *ℤ-factors_out : (j k a b : ℤ) → (j *ℤ a) *ℤ (k *ℤ b) ≡ (j *ℤ k) *ℤ (a *ℤ b)
*ℤ-factors_out j k a b = cc (*ℤ-assoc j a (k *ℤ b), *ℤ-assoc a k b, *ℤ_comm a k, *ℤ-assoc k a b, *ℤ-assoc j k (a *ℤ b))
