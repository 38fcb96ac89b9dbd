-- A text that is one text and then another, in what takes texts; and what a buffer that took a text holds. Assumes nothing.
use Prim.Native.Nat.{◌+◌}
use mathlib.Core.List.{◌++◌, append_assoc}
use mathlib.Core.Path.{◌≡◌, sym, subst, ◌∙◌}
use lib.ListN.{length, take, drop, take-append-drop}
use Rattle.fields.specs.Pieces.{Bytes}
use Rattle.spelling.specs.declared.sinks.Buffer.{Buffer}
use Rattle.spelling.specs.Put.{Put}
use Rattle.spelling.specs.Sinks.{SinkLaws, Filled}

-- ---- z is x and then y
module _ {S : Type 0} {can_take : S → Bytes → Type 0} {took : S → Bytes → S → Type 0} (laws : SinkLaws can_take took) where
  pub room_of_first : {s : S} {x z : Bytes} (y : Bytes) → z ≡ x ++ y → can_take s z → can_take s x
  room_of_first {s} {x} y e room = laws.first_room s x y (subst (can_take s) e room)

  pub room_of_next : {s t : S} {x y z : Bytes} → z ≡ x ++ y → can_take s z → took s x t → can_take t y
  room_of_next {s} {t} {x} {y} e room first = laws.next_room s t x y (subst (can_take s) e room) first

  pub took_both : {s t u : S} {x y z : Bytes} → z ≡ x ++ y → took s x t → took t y u → took s z u
  took_both {s} {t} {u} {x} {y} e first next = rw e (laws.both s t u x y first next)

  -- and more after y
  pub room_of_middle : {s t : S} {x y z : Bytes} (w : Bytes) → z ≡ x ++ (y ++ w) → can_take s z → took s x t → can_take t y
  room_of_middle {s} {t} {x} {y} w e room first = laws.first_room t y w (room_of_next e room first)

-- ---- a buffer
pub filled_put : (b c : Buffer) (x : Bytes) → Filled b x c → Put b.bytes.now b.at x c.at c.bytes.now
filled_put b c x f =
    record {
      place = f.place;
      bytes = sym (take-append-drop c.at c.bytes.now) ∙ rw (f.front, f.rest, f.place) (append_assoc (take b.at b.bytes.now) x (drop (b.at + length x) b.bytes.now));
    }
