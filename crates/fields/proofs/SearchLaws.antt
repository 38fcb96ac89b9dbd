-- How a search for a byte goes on and what it finds, and the byte at a place. Assumes nothing.
use Prim.Native.Nat.{ℕ, suc, ◌+◌, ◌<◌, ◌≤◌}
use native.Mathlib.Numerals.{add-one}
use native.Mathlib.Omega.{arith}
use mathlib.Core.Bool.{false}
use mathlib.Core.Path.{◌≡◌}
use borrow.Author.Rules.{rules}
use lib.Dec.{eqb}
use lib.ListN.{length, get_or, drop, drop_of_length-le}
use lib.Seq.{drop-cons}
use Rattle.fields.specs.Pieces.{Bytes}
use Rattle.fields.specs.Places.{begins, NoneBefore, before}
use Rattle.fields.proofs.PieceLaws.{before_here, before_other}

module _ (x : ℕ) (s : Bytes) where
  pub none_yet : NoneBefore x s 0
  none_yet = record { within = omega arith; rest = omega arith }

  module _ (i : ℕ) (p : NoneBefore x s i) where
    pub found : i < length s → get_or s i 0 ≡ x → i ≡ before x s
    found h e =
        let here : before x (drop i s) ≡ 0 = rw (drop-cons s i 0 h, e) (before_here x (drop (suc i) s)) in
        omega arith

    pub pass : i < length s → (get_or s i 0 ≡ x → ⊥) → NoneBefore x s (i + 1)
    pass h n =
        let other : before x (drop i s) ≡ suc (before x (drop (suc i) s)) = rw (drop-cons s i 0 h) (before_other x (get_or s i 0) (drop (suc i) s) n) in
        rw (add-one i) (record { within = omega arith; rest = omega arith })

    pub nowhere : length s ≤ i → i ≡ before x s
    unfolding before
    nowhere h =
        let none : before x (drop i s) ≡ 0 = rw (drop_of_length-le s h) in
        omega arith

-- ---- the byte at a place
module _ (x : ℕ) (s : Bytes) (at : ℕ) where
  pub is_there : at < length s → eqb (get_or s at 0) x ≡ begins x (drop at s)
  unfolding begins
  is_there h = rw (drop-cons s at 0 h)

  pub is_past : length s ≤ at → false ≡ begins x (drop at s)
  unfolding begins
  is_past h = rw (drop_of_length-le s h)

pub ruleset byte_laws = (rules, none_yet, found, pass, nowhere, is_there, is_past)
