-- Parts of a slice as the code takes them: the first n elements, and all from the n-th on. Assumes nothing.
use Prim.Native.Nat.{ℕ, ◌-◌, ◌≤◌}
use native.Mathlib.Omega.{arith}
use mathlib.Core.Path.{◌≡◌, sym}
use mathlib.Core.List.{List}
use lib.ListN.{length, take, drop, length-take, length-drop}
use lib.Seq.{take_all, length-take-le}

pub front_length : (n : ℕ) (l : List ℕ) → n ≤ length l → n ≡ length (take n l)
front_length n l h = sym (length-take-le n l h)

pub front_small : (n : ℕ) (l : List ℕ) → length l ≡ 1792 → length (take n l) ≤ 1792
front_small n l wide = rw (length-take n l) (omega arith)

abbrev pub after : List ℕ → ℕ → List ℕ
after l n = take (length l - n) (drop n l)

pub after_is : (l : List ℕ) (n : ℕ) → after l n ≡ drop n l
after_is l n = take_all (length l - n) (drop n l) (rw (length-drop n l) (omega arith))
