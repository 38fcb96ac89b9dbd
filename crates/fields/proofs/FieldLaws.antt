-- The number or the amount that stands at a place, by the number after so many bytes of its field and what a minus makes of it: one law for each return of
-- the code, its premises the tests on the way. Assumes nothing.
use Prim.Native.Nat.{ℕ, zero, suc, ◌+◌, ◌≤◌}
use native.Mathlib.Decide.{dec_le}
use native.Mathlib.Nat.{add-zero}
use native.Mathlib.Omega.{arith}
use mathlib.Core.Bool.{Bool, true, false}
use mathlib.Core.Option as O
use mathlib.Core.Path.{◌≡◌, refl, sym, ap, ◌∙◌, subst}
use mathlib.Core.List.{[], ◌∷◌}
use borrow.Author.Rules.{rules}
use borrow.Author.Tests.{eqb-true, eqb-false, le-leb, lt-leb, ne_eqb}
use lib.Dec.{T}
use lib.IntN.{pos}
use lib.ListN.{length, take, drop, length-drop}
use lib.Seq.{drop-drop}
use mir.Syntax.{w32}
use mir.Val.{Fits, bool_byte}
use Rattle.std.specs.Prelude as Std
use Rattle.std.specs.Prelude.{Some, None}
use Rattle.fields.specs.Pieces.{Bytes}
use Rattle.fields.specs.Numbers.{number_of, after_minus, without_minus, amount_of}
use Rattle.fields.specs.Digits.{digits_in, first_digits, amount_in}
use Rattle.fields.specs.Places.{begins, size_of, number_to, number_at, number_from, amount_to, amount_at, field_at, has_minus, negated_to, is_unsigned}
use Rattle.fields.specs.declared.FieldAt.{FieldAt}
use Rattle.fields.proofs.NumberLaws.{number_long, amount_long, amount_minus, amount_plain, minus_more}
use Rattle.fields.proofs.SpanLaws.{digits_length, amount_in_minus, amount_in_plain}
use Rattle.fields.proofs.ReadingLaws.{in_limit, past_limit}

-- ---- whether a text begins with a byte
pub begins_is : (x : ℕ) (t : Bytes) → begins x t ≡ true → t ≡ x ∷ drop 1 t
unfolding begins
begins_is x [] e = absurd (let z : ◌≡◌ {A = ℕ} 0 1 = cc in omega arith)
begins_is x (b ∷ bs) e = ap (λ (c : ℕ). c ∷ bs) (eqb-true b x e)

pub begins_other : (x b : ℕ) (bs : Bytes) → begins x (b ∷ bs) ≡ false → b ≡ x → ⊥
unfolding begins
begins_other x b bs e = eqb-false b x e

in_plain : (t : Bytes) → begins 45 t ≡ false → amount_in t ≡ digits_in t
unfolding amount_in digits_in
in_plain [] e = refl
in_plain (b ∷ bs) e = amount_in_plain b bs (begins_other 45 b bs e)

-- ---- the number after so many bytes, as the definitions have it
-- with none it is the number at the place: one of more than 11 digits is none
from_none : (largest : ℕ) (s : Bytes) (at : ℕ) → number_from 0 largest s at ≡ number_at largest s at
unfolding number_at
from_none largest s at =
    elim (dec_le (digits_in (drop at s)) 11) [
      | yes h ↦ rw (add-zero at) at (in_limit 0 largest s at (rw (add-zero at) (omega arith)))
      | no h ↦ let long = number_long (first_digits (drop at s)) (omega (arith, digits_length (drop at s))) in
          past_limit 0 largest s at (rw (add-zero at) (omega arith)) ∙ rw long
    ]

-- it has no sign, and is no larger than any caller's largest
size_unsigned : (largest n : ℕ) → largest ≤ 4294967295 → T (is_unsigned (size_of largest (pos n)))
size_unsigned largest n wide =
    elim (dec_le n largest) [ yes h ↦ rw (le-leb n largest h, le-leb n 4294967295 (omega arith)) tt | no h ↦ rw (lt-leb n largest (omega arith)) tt ]

pub given_is : {A : Type 0} {x y : A} → Some x ≡ Some y → x ≡ y
given_is e = cc

none_given : {A P : Type 0} {x : A} → None ≡ Some x → P
none_given e = absurd (let z : ◌≡◌ {A = ℕ} 0 1 = cc in omega arith)

number_unsigned : (largest end : ℕ) (f : O.Option ℕ) {r : FieldAt} → largest ≤ 4294967295 → number_to largest end f ≡ Some r → T (is_unsigned r.number)
number_unsigned largest end (O.some n) wide e = subst (λ (r : FieldAt). T (is_unsigned r.number)) (given_is e) (size_unsigned largest n wide)
number_unsigned largest end O.none wide e = none_given e

pub from_unsigned : (start largest : ℕ) (s : Bytes) (at : ℕ) → Fits w32 largest → (r : FieldAt) → number_from start largest s at ≡ Some r → T (is_unsigned r.number)
from_unsigned start largest s at wide r is =
    let most : largest ≤ 4294967295 = let small = wide.fits in omega arith in
    let digits : Bytes = drop (at + start) s in
    elim (dec_le (start + digits_in digits) 11) [
      | yes h ↦ number_unsigned largest (at + start + digits_in digits) (number_of (first_digits digits)) most (sym (in_limit start largest s at h) ∙ is)
      | no h ↦ none_given (sym (past_limit start largest s at (omega arith)) ∙ is)
    ]

-- ---- what a minus makes of what was read
abbrev negated_read : Std.Option FieldAt → Std.Option FieldAt
negated_read None = None
negated_read (Some read) = negated_to read.end read.number

-- ---- the amount at a place
-- without a minus it is the number there
plain_amount : (p : Bytes) → begins 45 p ≡ false → amount_of p ≡ without_minus (number_of p)
unfolding amount_of number_of
plain_amount [] e = refl
plain_amount (b ∷ bs) e =
    elim (dec_le (length bs) 10) [
      | yes h ↦ amount_plain b bs (begins_other 45 b bs e) h
      | no h ↦ rw (amount_long (b ∷ bs) (omega arith), number_long (b ∷ bs) (omega arith))
    ]

plain_front : (n : ℕ) (t : Bytes) → begins 45 t ≡ false → begins 45 (take n t) ≡ false
unfolding begins
plain_front zero t e = refl
plain_front (suc n) [] e = refl
plain_front (suc n) (b ∷ bs) e = e

plain_to : (largest end : ℕ) (f : O.Option ℕ) → number_to largest end f ≡ amount_to largest end (without_minus f)
plain_to largest end (O.some n) = refl
plain_to largest end O.none = refl

without_minus_lem : (s : Bytes) (at largest : ℕ) → begins 45 (drop at s) ≡ false → number_at largest s at ≡ amount_at largest s at
unfolding number_at amount_at
without_minus_lem s at largest plain =
    plain_to largest (at + digits_in (drop at s)) (number_of (first_digits (drop at s))) ∙
    rw (in_plain (drop at s) plain, plain_amount (first_digits (drop at s)) (plain_front (digits_in (drop at s)) (drop at s) plain))

-- after a minus it is what the minus makes of that number
minus_to : (largest end : ℕ) (f : O.Option ℕ) → amount_to largest end (after_minus f) ≡ negated_read (number_to largest end f)
minus_to largest end O.none = refl
minus_to largest end (O.some zero) = rw (le-leb 0 largest (omega arith))
minus_to largest end (O.some (suc n)) =
    elim (dec_le (suc n) largest) [
      | yes h ↦ rw (minus_more n, le-leb (suc n) largest h, ne_eqb (suc n) 0 (λ e. omega arith))
      | no h ↦ rw (minus_more n, lt-leb (suc n) largest (omega arith))
    ]

module _ (s : Bytes) (at : ℕ) (h : begins 45 (drop at s) ≡ true) where
  abbrev after : Bytes
  after = drop (at + 1) s

  text_is : drop at s ≡ 45 ∷ after
  text_is = begins_is 45 (drop at s) h ∙ ap (λ (u : Bytes). 45 ∷ u) (drop-drop 1 at s)

  minus_there : at + 1 ≤ length s
  minus_there = omega (arith, length-drop at s, ap length text_is)

  amount_is : (largest : ℕ) → amount_at largest s at ≡ amount_to largest (at + 1 + digits_in after) (amount_of (45 ∷ first_digits after))
  unfolding amount_at
  amount_is largest =
      let end : at + suc (digits_in after) ≡ at + 1 + digits_in after = omega arith in
      rw (text_is, amount_in_minus after, end)

  with_minus : (largest : ℕ) → negated_read (number_from 1 largest s at) ≡ amount_at largest s at
  with_minus largest =
      elim (dec_le (1 + digits_in after) 11) [
        | yes h ↦ sym (amount_is largest ∙ rw (amount_minus (first_digits after) (omega (arith, digits_length after)))
            (minus_to largest (at + 1 + digits_in after) (number_of (first_digits after)) ∙ rw (in_limit 1 largest s at h)))
        | no h ↦ sym (amount_is largest ∙ rw (amount_long (45 ∷ first_digits after) (omega (arith, digits_length after)), past_limit 1 largest s at (omega arith)))
      ]

-- ---- the number of a field with a sign, or without
no_minus : {P : Type 0} → false ≡ true → P
no_minus e = absurd (let z : ◌≡◌ {A = ℕ} 0 1 = cc in omega arith)

minus_begins : (signed : Bool) (t : Bytes) → has_minus signed t ≡ true → begins 45 t ≡ true
minus_begins true t e = e
minus_begins false t e = no_minus e

minus_amount : (signed : Bool) (largest : ℕ) (s : Bytes) (at : ℕ) → has_minus signed (drop at s) ≡ true → negated_read (number_from 1 largest s at) ≡ field_at signed largest s at
minus_amount true largest s at e = with_minus s at e largest
minus_amount false largest s at e = no_minus e

plain_number : (signed : Bool) (largest : ℕ) (s : Bytes) (at : ℕ) → has_minus signed (drop at s) ≡ false → number_from 0 largest s at ≡ field_at signed largest s at
plain_number true largest s at e = from_none largest s at ∙ without_minus_lem s at largest e
plain_number false largest s at e = from_none largest s at

pub start_short : (m : Bool) → bool_byte m ≤ 11
start_short true = omega arith
start_short false = omega arith

module _ (signed : Bool) (s : Bytes) (at : ℕ) (m : Bool) (q : m ≡ has_minus signed (drop at s)) where
  pub start_within : at ≤ length s → at + bool_byte m ≤ length s
  start_within h = go m q
    where
      go : (m : Bool) → m ≡ has_minus signed (drop at s) → at + bool_byte m ≤ length s
      go true q = minus_there s at (minus_begins signed (drop at s) (sym q))
      go false q = omega arith

  module _ (largest : ℕ) where
    from_amount : m ≡ true → (r : Std.Option FieldAt) → number_from (bool_byte m) largest s at ≡ r → negated_read r ≡ field_at signed largest s at
    from_amount h r e = ap negated_read (sym e ∙ ap (λ (b : Bool). number_from (bool_byte b) largest s at) h) ∙ minus_amount signed largest s at (sym q ∙ h)

    from_number : m ≡ false → (r : Std.Option FieldAt) → number_from (bool_byte m) largest s at ≡ r → r ≡ field_at signed largest s at
    from_number h r e = sym e ∙ ap (λ (b : Bool). number_from (bool_byte b) largest s at) h ∙ plain_number signed largest s at (sym q ∙ h)

    pub as_none : number_from (bool_byte m) largest s at ≡ None → None ≡ field_at signed largest s at
    as_none e = go m refl
      where
        go : (b : Bool) → m ≡ b → None ≡ field_at signed largest s at
        go true h = from_amount h None e
        go false h = from_number h None e

    pub as_amount : m ≡ true → (read : FieldAt) → number_from (bool_byte m) largest s at ≡ Some read → negated_to read.end read.number ≡ field_at signed largest s at
    as_amount h read e = from_amount h (Some read) e

    pub as_number : m ≡ false → (read : FieldAt) → number_from (bool_byte m) largest s at ≡ Some read → Some read ≡ field_at signed largest s at
    as_number h read e = from_number h (Some read) e

pub ruleset start_laws = (rules, start_short, start_within)
