-- Texts put into a buffer: a byte, a run of bytes, nothing, and one text after another. Assumes nothing.
use Prim.Native.Nat.{ℕ, ◌+◌, ◌≤◌, ◌<◌}
use mathlib.Core.List.{[], ◌∷◌, ◌++◌, append_assoc}
use mathlib.Core.Path.{◌≡◌, refl, sym, ap, ◌∙◌}
use native.Mathlib.Nat.{add-zero}
use native.Mathlib.Numerals.{add-one}
use native.Mathlib.Omega.{arith}
use lib.ListN.{length, get_or, take, drop, set, length-append, take-append-drop}
use lib.Seq.{set_split, take_at, take-length, drop-append-add, drop-drop, length-take-le, paste, paste-suc}
use Rattle.fields.specs.Pieces.{Bytes}
use Rattle.spelling.specs.Put.{Put}

-- ---- a byte, a run of bytes, nothing
pub put_one : (s : Bytes) (at b : ℕ) → at < length s → Put s at (b ∷ []) (at + 1) (set s at b)
put_one s at b h = record { place = refl; bytes = rw (add-one at) (set_split s at b h) }

-- one byte more of a run, and the whole run
pub paste_more :
    (s : Bytes) (at i : ℕ) (bytes t : Bytes) → at + length bytes ≤ length s → i < length bytes → t ≡ paste s at bytes i →
    set t (at + i) (get_or bytes i 0) ≡ paste s at bytes (i + 1)
paste_more s at i bytes t h g e = rw (e, add-one i) (paste-suc s at bytes i 0 (omega arith) g)

pub put_all :
    (s : Bytes) (at i : ℕ) (bytes t : Bytes) → i ≤ length bytes → length bytes ≤ i → t ≡ paste s at bytes i → Put s at bytes (at + i) t
put_all s at i bytes t h g e =
    let all : i ≡ length bytes = omega arith in
    record { place = ap (λ (k : ℕ). at + k) all; bytes = e ∙ rw (all, take-length bytes, append_assoc) }

pub put_nothing : (s : Bytes) (at : ℕ) (z : Bytes) → z ≡ [] → Put s at z at s
put_nothing s at z e =
    rw e (record { place = sym (add-zero at); bytes = sym (take-append-drop at s) ∙ rw (add-zero at) refl })

-- ---- a text z that is x and then y: s1 is the buffer after x, s2 after both
drop_past : (front rest : Bytes) (n m : ℕ) → length front ≡ n → drop (n + m) (front ++ rest) ≡ drop m rest
drop_past front rest n m e = rw (← e) (drop-append-add front rest m)

module _ (s : Bytes) (at : ℕ) (x y z : Bytes) (l : at + length z ≤ length s) (e : z ≡ x ++ y) where
  z_length : length z ≡ length x + length y
  z_length = ap length e ∙ length-append x y

  module _ (p : ℕ) (s1 : Bytes) (first : Put s at x p s1) where
    pub put_both : (r : ℕ) (s2 : Bytes) → Put s1 p y r s2 → Put s at z r s2
    put_both r s2 next =
        let front : Bytes = take at s ++ x in
        let rest : Bytes = drop (at + length x) s in
        let width : length front ≡ at + length x = rw (length-append (take at s) x, length-take-le at s (omega arith)) in
        let sum : at + length x + length y ≡ at + length z = omega (arith, z_length) in
        let split : s1 ≡ front ++ rest = first.bytes ∙ sym (append_assoc (take at s) x rest) in
        let before : take p s1 ≡ front = rw (split, first.place) (take_at front rest (at + length x) width) in
        let past : drop (p + length y) s1 ≡ drop (at + length z) s =
        rw (split, first.place, drop_past front rest (at + length x) (length y) width, drop-drop (length y) (at + length x) s, sum) in
        record {
          place = omega (arith, next.place, first.place, z_length);
          bytes = next.bytes ∙ rw (before, past, e, append_assoc (take at s) x, append_assoc x y);
        }
