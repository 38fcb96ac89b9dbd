-- Linear arithmetic on signed numbers. z is its positive part less its negative part, so an order or an equation of signed numbers is one
-- of natural numbers, which `omega` proves. `signed` is the list for it: `omega signed` reads and proves ≤ℤ, <ℤ and ≡ of signed numbers,
-- and reads the outcome of a signed test. Only the first rule that fits is used, so nested forms stand first. Assumes nothing.
use mathlib.Core.Path.{◌≡◌, refl, sym, ap, subst}
use mathlib.Core.Bool.{Bool, true, false, not, cond}
use Prim.Native.Nat.{ℕ, zero, suc, ◌+◌, ◌-◌, ◌<◌, ◌≤◌}
use native.Mathlib.Omega.{arith}
use lib.Dec.{T, ltb, ltb→lt, nltb→le, leb→le, le→leb, lt→ltb, nleb→lt}
use lib.IntN.{ℤ, pos, negsuc, neg_ℤ, sub_ℕ, ◌+ℤ◌, ◌-ℤ◌}
use lib.Signed.{◌≤ℤ◌, ◌<ℤ◌, le_z, lt_z}
use Rattle.ints.specs.Parts.{positive, negative}

-- ---- tests
pub le_parts : (a b : ℤ) → T (le_z a b) → positive a + negative b ≤ positive b + negative a
le_parts (pos a) (pos b) t = omega (arith, leb→le a b t)
le_parts (pos a) (negsuc b) t = absurd t
le_parts (negsuc a) (pos b) t = omega arith
le_parts (negsuc a) (negsuc b) t = omega (arith, leb→le b a t)

pub lt_parts : (a b : ℤ) → T (lt_z a b) → positive a + negative b < positive b + negative a
lt_parts (pos a) (pos b) t = omega (arith, ltb→lt a b t)
lt_parts (pos a) (negsuc b) t = absurd t
lt_parts (negsuc a) (pos b) t = omega arith
lt_parts (negsuc a) (negsuc b) t = omega (arith, ltb→lt b a t)

pub not_lt_parts : (a b : ℤ) → T (not (lt_z a b)) → positive b + negative a ≤ positive a + negative b
not_lt_parts (pos a) (pos b) t = omega (arith, nltb→le a b t)
not_lt_parts (pos a) (negsuc b) t = omega arith
not_lt_parts (negsuc a) (pos b) t = absurd t
not_lt_parts (negsuc a) (negsuc b) t = omega (arith, nltb→le b a t)

pub not_le_parts : (a b : ℤ) → T (not (le_z a b)) → positive b + negative a < positive a + negative b
not_le_parts (pos a) (pos b) t = omega (arith, nleb→lt a b t)
not_le_parts (pos a) (negsuc b) t = omega arith
not_le_parts (negsuc a) (pos b) t = absurd t
not_le_parts (negsuc a) (negsuc b) t = omega (arith, nleb→lt b a t)

pub parts_le : (a b : ℤ) → positive a + negative b ≤ positive b + negative a → T (le_z a b)
parts_le (pos a) (pos b) h = le→leb a b (omega arith)
parts_le (pos a) (negsuc b) h = absurd (never h)
  where
    never : a + suc b ≤ 0 + 0 → ⊥
    never h = omega arith
parts_le (negsuc a) (pos b) h = tt
parts_le (negsuc a) (negsuc b) h = le→leb b a (omega arith)

pub parts_lt : (a b : ℤ) → positive a + negative b < positive b + negative a → T (lt_z a b)
parts_lt (pos a) (pos b) h = lt→ltb a b (omega arith)
parts_lt (pos a) (negsuc b) h = absurd (never h)
  where
    never : a + suc b < 0 + 0 → ⊥
    never h = omega arith
parts_lt (negsuc a) (pos b) h = tt
parts_lt (negsuc a) (negsuc b) h = lt→ltb b a (omega arith)

-- ---- rules that read
pub ≤-read : (a b : ℤ) → a ≤ℤ b → positive a + negative b ≤ positive b + negative a
≤-read a b h = le_parts a b h.le

pub <-read : (a b : ℤ) → a <ℤ b → positive a + negative b < positive b + negative a
<-read a b h = lt_parts a b h.lt

pub ≡-read : (a b : ℤ) → a ≡ b → positive a + negative b ≡ positive b + negative a
≡-read a b e = subst (λ (z : ℤ). positive a + negative z ≡ positive z + negative a) e (omega arith)

as_true : {b : Bool} → b ≡ true → T b
as_true e = subst T (sym e) tt

as_false : {b : Bool} → b ≡ false → T (not b)
as_false e = subst (λ (x : Bool). T (not x)) (sym e) tt

pub lt_true : (a b : ℤ) → lt_z a b ≡ true → positive a + negative b < positive b + negative a
lt_true a b e = lt_parts a b (as_true e)

pub lt_false : (a b : ℤ) → lt_z a b ≡ false → positive b + negative a ≤ positive a + negative b
lt_false a b e = not_lt_parts a b (as_false e)

pub le_true : (a b : ℤ) → le_z a b ≡ true → positive a + negative b ≤ positive b + negative a
le_true a b e = le_parts a b (as_true e)

pub le_false : (a b : ℤ) → le_z a b ≡ false → positive b + negative a < positive a + negative b
le_false a b e = not_le_parts a b (as_false e)

-- ---- rules that turn a goal
pub ≤-goal : (a b : ℤ) → positive a + negative b ≤ positive b + negative a → a ≤ℤ b
≤-goal a b h = record { le = parts_le a b h }

pub <-goal : (a b : ℤ) → positive a + negative b < positive b + negative a → a <ℤ b
<-goal a b h = record { lt = parts_lt a b h }

pub ≡-goal : (a b : ℤ) → positive a + negative b ≡ positive b + negative a → a ≡ b
≡-goal (pos a) (pos b) h = ap pos (omega arith)
≡-goal (pos a) (negsuc b) h = absurd (never h)
  where
    never : a + suc b ≡ 0 + 0 → ⊥
    never h = omega arith
≡-goal (negsuc a) (pos b) h = absurd (never h)
  where
    never : 0 + 0 ≡ b + suc a → ⊥
    never h = omega arith
≡-goal (negsuc a) (negsuc b) h = ap negsuc (omega arith)

-- ---- the operations
by_cond : (c : Bool) (a b m n : ℕ) → (T c → 0 + b ≡ suc m + a) → (T (not c) → n + b ≡ 0 + a) → positive (cond c (negsuc m) (pos n)) + b ≡ negative (cond c (negsuc m) (pos n)) + a
by_cond true a b m n f g = f tt
by_cond false a b m n f g = g tt

sub_parts : (a b : ℕ) → positive (sub_ℕ a b) + b ≡ negative (sub_ℕ a b) + a
sub_parts a b = by_cond (ltb a b) a b (b - suc a) (a - b) (λ t. omega (arith, ltb→lt a b t)) (λ t. omega (arith, nltb→le a b t))

-- the parts of a sum and of a difference
pub parts+ : (a b : ℤ) → positive (a +ℤ b) + (negative a + negative b) ≡ negative (a +ℤ b) + (positive a + positive b)
parts+ (pos a) (pos b) = omega arith
parts+ (pos a) (negsuc b) = omega (arith, sub_parts a (suc b))
parts+ (negsuc a) (pos b) = omega (arith, sub_parts b (suc a))
parts+ (negsuc a) (negsuc b) = omega arith

pub positive_neg : (a : ℤ) → positive (neg_ℤ a) ≡ negative a
positive_neg (pos zero) = refl
positive_neg (pos (suc n)) = refl
positive_neg (negsuc n) = refl

pub negative_neg : (a : ℤ) → negative (neg_ℤ a) ≡ positive a
negative_neg (pos zero) = refl
negative_neg (pos (suc n)) = refl
negative_neg (negsuc n) = refl

pub parts- : (a b : ℤ) → positive (a -ℤ b) + (negative a + positive b) ≡ negative (a -ℤ b) + (positive a + negative b)
parts- a b = omega (arith, parts+ a (neg_ℤ b), positive_neg b, negative_neg b)

-- one of the two parts is 0
pub one_part : (a : ℤ) (P : Type 0) → (negative a ≡ 0 → P) → (positive a ≡ 0 → P) → P
one_part (pos n) P f g = f refl
one_part (negsuc n) P f g = g refl

-- a number that is not below 0 is its positive part
pub whole_part : (a : ℤ) → negative a ≡ 0 → a ≡ pos (positive a)
whole_part (pos n) e = refl
whole_part (negsuc n) e = absurd (never e)
  where
    never : suc n ≡ 0 → ⊥
    never e = omega arith

pub is_positive : (a : ℤ) → pos 0 ≤ℤ a → a ≡ pos (positive a)
is_positive (pos n) h = refl
is_positive (negsuc n) h = absurd h.le

-- a difference of natural numbers, where it is not below 0 and where it is
pub positive_sub : (a b : ℕ) → positive (pos a -ℤ pos b) ≡ a - b
positive_sub a b = one_part (pos a -ℤ pos b) _ (λ z. omega (arith, parts- (pos a) (pos b))) (λ z. omega (arith, parts- (pos a) (pos b)))

pub sub_is : (a b : ℕ) → b ≤ a → pos a -ℤ pos b ≡ pos (a - b)
sub_is a b h = ≡-goal (pos a -ℤ pos b) (pos (a - b)) (omega (arith, parts- (pos a) (pos b)))

pub ruleset signed = (arith, ≤-read, <-read, ≡-read, lt_true, lt_false, le_true, le_false, ≤-goal, <-goal, ≡-goal)
