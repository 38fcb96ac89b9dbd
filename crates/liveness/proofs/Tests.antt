-- The worked cases hold, each computed; and tests as facts. Assumes nothing.
use Prim.Native.Nat.{ℕ}
use mathlib.Core.Bool.{Bool, true, false, cond, not, ◌&&◌, ◌||◌}
use mathlib.Core.Logic.{⊎_elim}
use mathlib.Core.Path.{◌≡◌, refl, sym, ap, ◌∙◌}
use borrow.Author.Tests.{lt-ltb, le-ltb, le-leb, lt-leb}
use lib.Dec.{leb, ltb}
use Rattle.model.proofs.Tests.{below_or_not}
use Rattle.liveness.specs.Live.{names, named_later, may_drop, entry_of, live_after, answered_no, live_bytes}
use Rattle.liveness.specs.Kept.{peak_of}
use Rattle.liveness.specs.Worked.{Holds, bare, listing, unnamed, squared, encoded, shared, every_word}
use Rattle.liveness.specs.Worked.{last_named, later_named, never_named, never_named_last, constant_named, out_asked, squared_bytes, both_bytes}

-- ---- worked cases
bare_holds : Holds bare
unfolding names named_later may_drop entry_of live_after answered_no peak_of
bare_holds = (refl, refl, refl, refl)

listing_holds : Holds listing
unfolding names named_later may_drop entry_of live_after answered_no peak_of
listing_holds = (refl, refl, refl, refl)

unnamed_holds : Holds unnamed
unfolding names named_later may_drop entry_of live_after answered_no peak_of
unnamed_holds = (refl, refl, refl, refl)

squared_holds : Holds squared
unfolding names named_later may_drop entry_of live_after answered_no peak_of
squared_holds = (refl, refl, refl, refl)

encoded_holds : Holds encoded
unfolding names named_later may_drop entry_of live_after answered_no peak_of
encoded_holds = (refl, refl, refl, refl)

shared_holds : Holds shared
unfolding names named_later may_drop entry_of live_after answered_no peak_of
shared_holds = (refl, refl, refl, refl)

every_word_holds : Holds every_word
unfolding names named_later may_drop entry_of live_after answered_no peak_of
every_word_holds = (refl, refl, refl, refl)

-- ---- answers after each line, and bytes
last_answered : last_named
unfolding names named_later may_drop
last_answered = refl

later_answered : later_named
unfolding names named_later may_drop
later_answered = refl

never_answered : never_named
unfolding names named_later may_drop
never_answered = refl

own_answered : never_named_last
unfolding names named_later may_drop
own_answered = refl

constant_answered : constant_named
unfolding names named_later may_drop
constant_answered = refl

out_answered : out_asked
unfolding names named_later may_drop
out_answered = refl

all_bytes : squared_bytes
unfolding names named_later entry_of live_after live_bytes
all_bytes = refl

high_byte : both_bytes
high_byte = refl

-- ---- tests as facts
pub or_true : (b : Bool) → b || true ≡ true
or_true true = refl
or_true false = refl

pub or_false : (b : Bool) → b || false ≡ b
or_false true = refl
or_false false = refl

pub and_true : (b : Bool) → b && true ≡ b
and_true true = refl
and_true false = refl

pub and_false : (b : Bool) → b && false ≡ false
and_false true = refl
and_false false = refl

pub not_not : (b : Bool) → not (not b) ≡ b
not_not true = refl
not_not false = refl

pub not_below : (l e : ℕ) → not (ltb l e) ≡ leb e l
not_below l e =
    ⊎_elim (λ more. ap not (lt-ltb l e more) ∙ sym (lt-leb e l more)) (λ most. ap not (le-ltb l e most) ∙ sym (le-leb e l most)) (below_or_not l e)

pub either : (P : ℕ → Type 0) (b : Bool) (m n : ℕ) → P m → P n → P (cond b m n)
either P true m n p q = p
either P false m n p q = q
