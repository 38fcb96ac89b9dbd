-- Document 01, "The rules of a line": the plain machine and the scale machine.
use Rattle.std.specs.Prelude.{ℕ, zero, suc, ◌+◌, ◌-◌, ◌*◌, ◌%◌, ◌^◌, ◌≤◌, ◌≡◌, Bool, true, cond, not, ◌&&◌, eqb, length, get_or, ℤ, pos, negsuc, neg_ℤ, nat_abs, ◌+ℤ◌, ◌-ℤ◌, ◌*ℤ◌}
use mathlib.Core.List.{List, [], ◌∷◌, map, zip_with}
use Rattle.std.specs.Int.Signed.{lt_z, quot_z, rem_z}
use Rattle.ints.specs.Parts.{positive}
use Rattle.model.specs.declared.Header.{Header}
use Rattle.model.specs.Scales.{headroom}
use Rattle.model.specs.Machine.{Step, goes, stops, Machine}

-- "vectors of n whole numbers of any size and sign"
abbrev pub Vector : Type 0
Vector = List ℤ

-- "Both are handed the same, a length n of at least 1 and vectors of n whole numbers …: one for each `in` line in order, one for
-- each constant number."
pub record Handed : Type 0 where
  pub slots : ℕ
  pub at_least_one : 1 ≤ slots
  pub inputs : ℕ → Vector
  pub constants : ℕ → Vector
  pub inputs_long : (k : ℕ) → length (inputs k) ≡ slots
  pub constants_long : (k : ℕ) → length (constants k) ≡ slots

-- z modulo n, from 0 to n − 1
abbrev pub modulo : ℤ → ℕ → ℕ
modulo (pos a) n = a % n
modulo (negsuc a) n = (n - (suc a % n)) % n

-- slots 0 to n − 1, slot i being f i
abbrev pub tabulate : ℕ → (ℕ → ℤ) → Vector
tabulate zero f = []
tabulate (suc n) f = f zero ∷ tabulate n (λ i. f (suc i))

-- "slot i takes slot i + T of A, cyclic"; "in `rot` i + T is taken modulo n"
abbrev pub rotated : ℕ → ℤ → Vector → Vector
rotated n t v = tabulate n (λ i. get_or v (modulo (pos i +ℤ t) n) (pos 0))

-- "multiply the vector by two to the scale"
abbrev pub times_two_to : ℕ → Vector → Vector
times_two_to k v = map (λ x. pos (2 ^ k) *ℤ x) v

-- "divides by two to F·C"
abbrev pub over_two_to : ℕ → Vector → Vector
over_two_to k v = map (λ x. quot_z x (pos (2 ^ k))) v

-- "a remainder in `rs`": none in any slot
abbrev pub no_remainder : ℕ → Vector → Bool
no_remainder k [] = true
no_remainder k (x ∷ v) = eqb (nat_abs (rem_z x (pos (2 ^ k)))) 0 && no_remainder k v

-- Why a machine stops. The first three are for lines that no well-formed file of that machine has.
pub data Reason : Type 0 where
  no_line other_word other_kind levels_differ scales_differ remainder below_waterline above_modulus : Reason

-- "The plain machine runs a circuit. `in` and `const` hold the vector handed in, `out` holds A's. `neg`, `add` and `mul` work slot
-- by slot". A circuit has no other word.
abbrev pub plain_machine : Handed → Machine Vector Reason
plain_machine H =
    record {
      absent = no_line;
      input = λ k. goes (H.inputs k);
      constant = λ k. goes (H.constants k);
      neg = λ v. goes (map neg_ℤ v);
      rot = λ v t. goes (rotated H.slots t v);
      add = λ v w. goes (zip_with ◌+ℤ◌ v w);
      mul = λ v w. goes (zip_with ◌*ℤ◌ v w);
      out = λ v. goes v;
      enc = λ v s e. stops other_word;
      rs = λ v c. stops other_word;
      ms = λ v c. stops other_word;
      us = λ v b. stops other_word;
    }

-- What a line of the scale machine holds: "a bare `const` holds no scale", any other a scale, a level and a vector.
pub data Holding : Type 0 where
  bare : Vector → Holding
  scaled : ℕ → ℕ → Vector → Holding

-- "It stops … at a scale above F·level or below W.", with H as in the rule. A scale or a level that `rs` or `ms` takes below zero is a
-- negative number here.
abbrev pub if_bounded : Header → ℤ → ℤ → Vector → Step Holding Reason
if_bounded h s l v =
    cond (lt_z s (pos h.waterline)) (stops below_waterline)
    (cond (lt_z (pos h.factor *ℤ l) (s +ℤ pos (headroom h))) (stops above_modulus)
    (goes (scaled (positive s) (positive l) v)))

abbrev pub on_scaled : (ℕ → ℕ → Vector → Step Holding Reason) → Holding → Step Holding Reason
on_scaled f (bare v) = stops other_kind
on_scaled f (scaled s l v) = f s l v

-- "It stops at a mismatch (levels that differ in `add` or `mul`, scales that differ in `add`, a remainder in `rs`)"
abbrev pub scaled_sum : Header → ℕ → ℕ → Vector → ℕ → ℕ → Vector → Step Holding Reason
scaled_sum h s l v s' l' v' =
    cond (not (eqb l l')) (stops levels_differ)
    (cond (not (eqb s s')) (stops scales_differ) (if_bounded h (pos s) (pos l) (zip_with ◌+ℤ◌ v v')))

abbrev pub scaled_product : Header → ℕ → ℕ → Vector → ℕ → ℕ → Vector → Step Holding Reason
scaled_product h s l v s' l' v' =
    cond (not (eqb l l')) (stops levels_differ) (if_bounded h (pos (s + s')) (pos l) (zip_with ◌*ℤ◌ v v'))

abbrev pub rescaled : Header → ℕ → ℕ → ℕ → Vector → Step Holding Reason
rescaled h c s l v =
    cond (not (no_remainder (h.factor * c) v)) (stops remainder)
    (if_bounded h (pos s -ℤ pos (h.factor * c)) (pos l -ℤ pos c) (over_two_to (h.factor * c) v))

-- "The scale machine runs a schedule and keeps scales and levels too, as the rules above move them; `enc` has scale S, level E. `in`
-- and `enc` multiply the vector by two to the scale, `us` by two to B, `rs` divides by two to F·C; `ms` leaves the vector. The other
-- lines work as in the plain machine".
abbrev pub scale_machine : Handed → Header → Machine Holding Reason
scale_machine H h =
    record {
      absent = no_line;
      input = λ k. if_bounded h (pos h.waterline) (pos h.top) (times_two_to h.waterline (H.inputs k));
      constant = λ k. goes (bare (H.constants k));
      neg = λ x. on_scaled (λ s l v. if_bounded h (pos s) (pos l) (map neg_ℤ v)) x;
      rot = λ x t. on_scaled (λ s l v. if_bounded h (pos s) (pos l) (rotated H.slots t v)) x;
      add = λ x y. on_scaled (λ s l v. on_scaled (scaled_sum h s l v) y) x;
      mul = λ x y. on_scaled (λ s l v. on_scaled (scaled_product h s l v) y) x;
      out = λ x. on_scaled (λ s l v. if_bounded h (pos s) (pos l) v) x;
      enc = λ x s e. elim x [ bare v ↦ if_bounded h (pos s) (pos e) (times_two_to s v) | scaled t l v ↦ stops other_kind ];
      rs = λ x c. on_scaled (rescaled h c) x;
      ms = λ x c. on_scaled (λ s l v. if_bounded h (pos s) (pos l -ℤ pos c) v) x;
      us = λ x b. on_scaled (λ s l v. if_bounded h (pos (s + b)) (pos l) (times_two_to b v)) x;
    }
