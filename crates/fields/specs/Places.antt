-- What the code uses: a text from a place on, the byte that stands there, and the number.
use Rattle.std.specs.Prelude as Std
use Rattle.std.specs.Prelude.{Some, None, ℕ, suc, ◌+◌, ◌-◌, ◌^◌, ◌≤◌, ◌<◌, Bool, true, false, cond, [], ◌∷◌, ◌≡◌, eqb, leb, ℤ, pos, negsuc, neg_ℤ, nat_abs, length, get_or, take, drop}
use Rattle.std.proofs.Math.Option.{Option, none, some}
use Rattle.fields.specs.Pieces.{Bytes}
use Rattle.fields.specs.Numbers.{longest_field, digits_of, number_of, amount_of}
use Rattle.fields.specs.Digits.{digits_in, first_digits, amount_in}
use Rattle.fields.specs.declared.FieldAt.{FieldAt}

-- whether a text begins with the byte x
unfoldable pub begins : ℕ → Bytes → Bool
begins x [] = false
begins x (b ∷ bs) = eqb b x

-- how many bytes stand before the first byte x, or all of them
unfoldable pub before : ℕ → Bytes → ℕ
before x [] = 0
before x (b ∷ bs) = cond (eqb b x) 0 (suc (before x bs))

-- ---- how far the code has looked
-- no x among the first i bytes: the first x, or the end, stands i bytes past where it stands in the rest
pub record NoneBefore (x : ℕ) (s : Bytes) (i : ℕ) : Type 0 where
  pub within : i ≤ length s
  pub rest : before x s ≡ i + before x (drop i s)

-- Document 02, Job 5: "Turn that recursion into a loop over the digits." `position` bytes of the field at place `at` have been read, `start` of them before
-- its digits, no more than a field may have, and `value` is the number that the digits among them spell: it is below ten to their number, and the digits
-- left, read on from it, spell the number of the whole field. Where one digit has been read it is that digit, and where more have, the first is no zero
pub record DigitsRead (s : Bytes) (at start position value : ℕ) : Type 0 where
  pub begun : start ≤ position
  pub few : position ≤ longest_field
  pub within : at + position ≤ length s
  pub small : value < 10 ^ (position - start)
  pub count : start + digits_in (drop (at + start) s) ≡ position + digits_in (drop (at + position) s)
  pub number : digits_of (first_digits (drop (at + start) s)) 0 ≡ digits_of (first_digits (drop (at + position) s)) value
  pub first : position - start ≡ 1 → 48 + value ≡ get_or s (at + start) 0
  pub leading : 1 < position - start → get_or s (at + start) 0 ≡ 48 → ⊥

-- ---- the number that stands at a place, and the place past it
-- Document 02, Job 1: "The field reader's promise takes the caller's largest allowed number." A number is within it or above it; an amount
-- is so on either side of zero.
abbrev pub size_of : ℕ → ℤ → Std.Option ℤ
size_of largest n = cond (leb (nat_abs n) largest) (Some n) None

abbrev pub number_to : ℕ → ℕ → Option ℕ → Std.Option FieldAt
number_to largest end (some n) = Some (record { number = size_of largest (pos n); end = end })
number_to largest end none = None

abbrev pub amount_to : ℕ → ℕ → Option ℤ → Std.Option FieldAt
amount_to largest end (some t) = Some (record { number = size_of largest t; end = end })
amount_to largest end none = None

-- the number that stands at a place
unfoldable pub number_at : ℕ → Bytes → ℕ → Std.Option FieldAt
number_at largest s at = number_to largest (at + digits_in (drop at s)) (number_of (take (digits_in (drop at s)) (drop at s)))

-- the same of a field that has so many bytes before the number, and no more than eleven with it
unfoldable pub number_from : ℕ → ℕ → Bytes → ℕ → Std.Option FieldAt
number_from start largest s at = cond (leb (start + digits_in (drop (at + start) s)) longest_field) (number_at largest s (at + start)) None

unfoldable pub amount_at : ℕ → Bytes → ℕ → Std.Option FieldAt
amount_at largest s at = amount_to largest (at + amount_in (drop at s)) (amount_of (take (amount_in (drop at s)) (drop at s)))

-- of a field that may have a sign, or may not
abbrev pub field_at : Bool → ℕ → Bytes → ℕ → Std.Option FieldAt
field_at true largest s at = amount_at largest s at
field_at false largest s at = number_at largest s at

-- whether such a field begins with a minus
abbrev pub has_minus : Bool → Bytes → Bool
has_minus true t = begins 45 t
has_minus false t = false

-- what a minus makes of the number after it, whose field ends here: "a minus stands only before a nonzero rotation"
abbrev pub negated_to : ℕ → Std.Option ℤ → Std.Option FieldAt
negated_to end (Some n) = cond (eqb (nat_abs n) 0) None (Some (record { number = Some (neg_ℤ n); end = end }))
negated_to end None = Some (record { number = None; end = end })

-- whether a minus can turn it: a number within the largest is not below zero, and no more than the largest that any caller can name
abbrev pub is_unsigned : Std.Option ℤ → Bool
is_unsigned (Some (pos n)) = leb n 4294967295
is_unsigned (Some (negsuc n)) = false
is_unsigned None = true
