-- The steps of a call: a file that is read and one that is not, and a refusal that writes nothing. Assumes nothing.
use Prim.Native.Nat.{ℕ}
use mathlib.Core.Path.{◌≡◌, refl, subst}
use Rattle.fields.specs.Pieces.{Bytes}
use Rattle.rows.specs.Rows.{Reading, read, refused}
use Rattle.services.specs.declared.Reply.{Reply}
use Rattle.services.specs.Outcomes.{Outcome, refuses, reply_of, Replied}
use Rattle.services.specs.Calls.{once_read}

module _ {A : Type 0} (number : ℕ) {x : Reading A} (more : A → Outcome) where
  pub once_read_lem : (f : A) → x ≡ read f → more f ≡ once_read number x more
  once_read_lem f e = rw e

  pub once_refused : (n p : ℕ) → x ≡ refused n p → refuses n number p ≡ once_read number x more
  once_refused n p e = rw e

pub replied_as : {o p : Outcome} {out : Bytes} {r : Reply} {after : Bytes} → o ≡ p → Replied o out r after → Replied p out r after
replied_as {o} {p} {out} {r} {after} e a = subst (λ (x : Outcome). Replied x out r after) e a

pub refusal_replied : (n f p : ℕ) (out : Bytes) (r : Reply) → r ≡ reply_of (refuses n f p) → Replied (refuses n f p) out r out
refusal_replied n f p out r e = record { reply = e; bytes = refl }
