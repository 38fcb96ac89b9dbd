-- A level that is counted up: what it is refused for. Assumes nothing.
use Prim.Native.Nat.{ℕ}
use native.Mathlib.Omega.{arith}
use mathlib.Core.Path.{◌≡◌}
use mathlib.Core.Bool.{Bool, true, false, cond, ◌||◌}
use lib.IntN.{ℤ, pos, ◌-ℤ◌}
use lib.Signed.{lt_z}
use Rattle.std.specs.Prelude.{Result, Ok, Err}
use Rattle.model.specs.declared.Fault.TheVariants.{NumberOutOfRange}
use Rattle.model.specs.declared.Refusal.{Refusal}
use Rattle.lines.specs.Lines.{level_held}

pub level_refused : (place : ℕ) (turns : Bool) (top : ℕ) (y z : ℤ) {r : Refusal} → level_held place turns top y z ≡ Err r → r ≡ record { fault = NumberOutOfRange; place = place }
unfolding level_held
level_refused place turns top y z {r} e = go turns (lt_z y (pos 1) || lt_z (pos top -ℤ z) (pos 1)) e
  where
    go : (t b : Bool)
        → ◌≡◌ {A = Result ℤ Refusal} (cond t (cond b (Err (record { fault = NumberOutOfRange; place = place })) (Ok (pos top -ℤ z))) (Ok z)) (Err r)
        → r ≡ record { fault = NumberOutOfRange; place = place }
    go true true q = cc
    go true false q = absurd (let z : ◌≡◌ {A = ℕ} 0 1 = cc in omega arith)
    go false b q = absurd (let z : ◌≡◌ {A = ℕ} 0 1 = cc in omega arith)
