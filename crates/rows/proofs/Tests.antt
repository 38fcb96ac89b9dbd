-- Tests as facts: and, or, and one of two by a test. Assumes nothing.
use mathlib.Core.Path.{◌≡◌, refl, sym, subst}
use mathlib.Core.Bool.{Bool, true, false, not, cond, ◌&&◌, ◌||◌}
use lib.Dec.{T}

-- ---- and, or
pub and_first : (a b : Bool) → T (a && b) → T a
and_first true b t = tt
and_first false b t = t

pub and_second : (a b : Bool) → T (a && b) → T b
and_second true b t = t
and_second false b t = absurd t

pub and_both : (a b : Bool) → T a → T b → T (a && b)
and_both true b t u = u
and_both false b t u = t

pub or_cases : (a b : Bool) {P : Type 0} → T (a || b) → (T a → P) → (T b → P) → P
or_cases true b t f g = f tt
or_cases false b t f g = g t

pub or_first : (a b : Bool) → T a → T (a || b)
or_first true b t = tt
or_first false b t = absurd t

pub or_second : (a b : Bool) → T b → T (a || b)
or_second true b t = tt
or_second false b t = t

-- ---- one of two by a test
module _ {X : Type 0} where
  -- with the test's outcome as an equation, and as a fact
  pub by_test : (P : X → Type 0) (b : Bool) (x y : X) → (b ≡ true → P x) → (b ≡ false → P y) → P (cond b x y)
  by_test P true x y f g = f refl
  by_test P false x y f g = g refl

  pub cond_cases : (P : X → Type 0) (b : Bool) (x y : X) → (T b → P x) → (T (not b) → P y) → P (cond b x y)
  cond_cases P b x y f g = by_test P b x y (λ e. f (subst T (sym e) tt)) (λ e. g (subst (λ (c : Bool). T (not c)) (sym e) tt))

  pub cond_true : (b : Bool) (x y : X) → T b → cond b x y ≡ x
  cond_true true x y t = refl
  cond_true false x y t = absurd t

  pub cond_false : (b : Bool) (x y : X) → T (not b) → cond b x y ≡ y
  cond_false true x y t = absurd t
  cond_false false x y t = refl
