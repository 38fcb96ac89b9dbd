-- A field's digits, one a turn: what stands where reading has come to, how it goes on, and what it has come to where no digit stands. Assumes nothing.
use Prim.Native.Nat.{ℕ, suc, ◌+◌, ◌*◌, ◌-◌, ◌≤◌, ◌<◌}
use native.Mathlib.Decide.{dec_le, ℕ_discrete}
use native.Mathlib.Nat.{pow-suc, add-zero}
use native.Mathlib.Numerals.{add-one}
use native.Mathlib.Omega.{arith}
use mathlib.Core.Bool.{Bool, true, false}
use mathlib.Core.Option as O
use mathlib.Core.Path.{◌≡◌, refl, sym, ◌∙◌}
use borrow.Author.Tests.{le-leb, lt-leb, eqb-true, eqb-false, ne_eqb}
use lib.Dec.{eqb, lit<}
use lib.IntN.{ℤ, pos}
use lib.ListN.{length, get_or, drop}
use lib.Seq.{drop-cons, get_or-take, get_or-drop}
use Rattle.std.specs.Prelude as Std
use Rattle.std.specs.Prelude.{Some, None}
use Rattle.fields.specs.Pieces.{Bytes}
use Rattle.fields.specs.Numbers.{digits_of, number_of}
use Rattle.fields.specs.Digits.{begins_digit, digits_in, first_digits, lone_zero}
use Rattle.fields.specs.Places.{DigitsRead, size_of, number_to, number_at, number_from}
use Rattle.fields.proofs.DigitLaws.{Digit, digits_next}
use Rattle.fields.proofs.NumberLaws.{number_none, number_zero, NumberForm, number_digits}
use Rattle.fields.proofs.SpanLaws.{digits_in_more, digits_length, digit_there, none_there}

-- ---- the number after so many bytes of a field
module _ (start largest : ℕ) (s : Bytes) (at : ℕ) where
  abbrev digits : Bytes
  digits = drop (at + start) s

  pub in_limit : start + digits_in digits ≤ 11 → number_from start largest s at ≡ number_to largest (at + start + digits_in digits) (number_of (first_digits digits))
  unfolding number_from number_at
  in_limit h = rw (le-leb (start + digits_in digits) 11 h)

  pub past_limit : 11 < start + digits_in digits → number_from start largest s at ≡ None
  unfolding number_from
  past_limit h = rw (lt-leb (start + digits_in digits) 11 h)

  -- the first of the digits
  first_is : 0 < digits_in digits → get_or (first_digits digits) 0 0 ≡ get_or s (at + start) 0
  first_is h = get_or-take (digits_in digits) digits 0 0 h ∙ get_or-drop (at + start) s 0 0 ∙ rw (add-zero (at + start))

  zero_before : 1 < digits_in digits → get_or s (at + start) 0 ≡ 48 → number_from start largest s at ≡ None
  zero_before more e =
      elim (dec_le (start + digits_in digits) 11) [
        | yes h ↦ in_limit h ∙ rw (number_zero (first_digits digits) (rw (digits_length digits) more) (first_is (omega arith) ∙ e))
        | no h ↦ past_limit (omega arith)
      ]

-- ---- one zero
module _ (count value : ℕ) where
  is_lone : count ≡ 1 → eqb value 0 ≡ lone_zero count value
  unfolding lone_zero
  is_lone h = rw h

  not_lone : (count ≡ 1 → ⊥) → false ≡ lone_zero count value
  unfolding lone_zero
  not_lone n = rw (ne_eqb count 1 n)

  lone_count : lone_zero count value ≡ true → count ≡ 1
  lone_count e = elim (ℕ_discrete count 1) [ yes h ↦ h | no n ↦ absurd (let z : ◌≡◌ {A = ℕ} 0 1 = let f = not_lone n in cc in omega arith) ]

  lone_value : lone_zero count value ≡ true → value ≡ 0
  lone_value e = eqb-true value 0 (is_lone (lone_count e) ∙ e)

  other_value : lone_zero count value ≡ false → count ≡ 1 → value ≡ 0 → ⊥
  other_value e h = eqb-false value 0 (is_lone h ∙ e)

-- ---- so many have been read
pub begin : (s : Bytes) (at start : ℕ) → at + start ≤ length s → start ≤ 11 → DigitsRead s at start start 0
begin s at start h limit =
    let none : start - start ≡ 0 = omega arith in
    record {
      begun = omega arith;
      few = limit;
      within = h;
      small = rw none (lit< tt);
      count = refl;
      number = refl;
      first = λ e. absurd (omega arith);
      leading = λ l e. omega arith;
    }

module _ (s : Bytes) (at start position value : ℕ) (read : DigitsRead s at start position value) where
  abbrev left : Bytes
  left = drop (at + position) s

  abbrev byte : ℕ
  byte = get_or s (at + position) 0

  value_none : position ≡ start → value ≡ 0
  value_none e =
      let none : position - start ≡ 0 = omega arith in
      let one = rw none at read.small in
      omega arith

  -- ---- where a digit stands
  module _ (b : Bool) (q : b ≡ begins_digit left) (e : b ≡ true) where
    pub inside : at + position < length s
    inside = (digit_there s (at + position) (sym q ∙ e)).inside

    here : Digit byte
    here = (digit_there s (at + position) (sym q ∙ e)).digit

    one_more_lem : digits_in left ≡ suc (digits_in (drop (suc (at + position)) s))
    one_more_lem = rw (drop-cons s (at + position) 0 inside) (digits_in_more byte (drop (suc (at + position)) s) here)

    pub digit_low : 48 ≤ byte
    digit_low = here.low

    pub one_too_many : (largest most : ℕ) → position ≡ most → 11 ≤ most → None ≡ number_from start largest s at
    one_too_many largest most z l = sym (past_limit start largest s at (omega (arith, read.count, one_more_lem)))

    module _ (z : Bool) (l : z ≡ lone_zero (position - start) value) where
      pub zero_leads : (largest : ℕ) → z ≡ true → None ≡ number_from start largest s at
      zero_leads largest h =
          let one = lone_count (position - start) value (sym l ∙ h) in
          let none = lone_value (position - start) value (sym l ∙ h) in
          sym (zero_before start largest s at (omega (arith, read.count, one_more_lem)) (sym (read.first one) ∙ rw none))

      module _ (g : z ≡ false) where
        rest_are : digits_of (first_digits left) value ≡ digits_of (first_digits (drop (suc (at + position)) s)) (value * 10 + (byte - 48))
        rest_are = rw (one_more_lem, drop-cons s (at + position) 0 inside) (digits_next byte (first_digits (drop (suc (at + position)) s)) value here)

        is_first : suc position - start ≡ 1 → 48 + (value * 10 + (byte - 48)) ≡ get_or s (at + start) 0
        is_first o =
            let same : position ≡ start = omega (arith, read.begun) in
            let none = value_none same in
            rw (← same) (omega (arith, here.low))

        no_zero_first : 1 < suc position - start → get_or s (at + start) 0 ≡ 48 → ⊥
        no_zero_first m zero =
            elim (ℕ_discrete (position - start) 1) [
              | yes o ↦ other_value (position - start) value (sym l ∙ g) o (omega (arith, read.first o))
              | no n ↦ read.leading (omega (arith, read.begun)) zero
            ]

        pub next : (position ≡ 11 → ⊥) → DigitsRead s at start (position + 1) (value * 10 + (byte - 48))
        next n =
            let along : at + suc position ≡ suc (at + position) = omega arith in
            let wider : suc position - start ≡ suc (position - start) = omega (arith, read.begun) in
            rw (add-one position) (record {
              begun = omega (arith, read.begun);
              few = omega (arith, read.few);
              within = omega (arith, inside);
              small = rw (wider, pow-suc 10 (position - start)) (omega (arith, read.small, here.high));
              count = rw along (omega (arith, read.count, one_more_lem));
              number = rw along (read.number ∙ rest_are);
              first = is_first;
              leading = no_zero_first;
            })

  -- ---- where none does
  module _ (b : Bool) (q : b ≡ begins_digit left) (e : b ≡ false) where
    abbrev field : Bytes
    field = first_digits (drop (at + start) s)

    all_read : start + digits_in (drop (at + start) s) ≡ position
    all_read = omega (arith, read.count, none_there left (sym q ∙ e))

    digits_are : digits_of field 0 ≡ O.some value
    unfolding digits_of
    digits_are = rw (none_there left (sym q ∙ e)) at read.number

    length_is : start + length field ≡ position
    length_is = rw (digits_length (drop (at + start) s)) all_read

    is_number : (largest : ℕ) → number_from start largest s at ≡ number_to largest (at + position) (number_of field)
    is_number largest =
        let end : at + start + digits_in (drop (at + start) s) ≡ at + position = omega (arith, all_read) in
        in_limit start largest s at (rw all_read read.few) ∙ rw end

    pub no_digit : (largest : ℕ) → position ≡ start → None ≡ number_from start largest s at
    no_digit largest z =
        let none : digits_in (drop (at + start) s) ≡ 0 = omega (arith, all_read) in
        sym (is_number largest ∙ rw (none, number_none))

    module _ (some : position ≡ start → ⊥) where
      alone : get_or field 0 0 ≡ 48 → length field ≡ 1
      alone zero =
          let here = first_is start 0 s at (omega (arith, all_read, read.begun)) in
          elim (dec_le (position - start) 1) [
            | yes h ↦ omega (arith, length_is, read.begun)
            | no h ↦ absurd (read.leading (omega arith) (sym here ∙ zero))
          ]

      form : NumberForm field
      form = record { some = omega (arith, length_is, read.begun); short = omega (arith, length_is, read.few); leading = alone }

      pub whole : (largest : ℕ) → (n : Std.Option ℤ) → n ≡ size_of largest (pos value) → Some (record { number = n; end = at + position }) ≡ number_from start largest s at
      whole largest n is =
          let number = number_digits field form ∙ digits_are in
          sym (is_number largest ∙ rw (number, ← is))
