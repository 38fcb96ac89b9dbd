-- The digits that a text begins with. Assumes nothing.
use Prim.Native.Nat.{ℕ, suc, ◌≤◌, ◌<◌}
use native.Mathlib.Decide.{dec_lt}
use native.Mathlib.Omega.{arith}
use mathlib.Core.Bool.{true, false}
use mathlib.Core.Path.{◌≡◌, refl}
use mathlib.Core.List.{[], ◌∷◌}
use borrow.Author.Rules.{rules}
use borrow.Author.Tests.{le-leb, lt-leb, ne_eqb}
use lib.ListN.{length, get_or, drop, drop_of_length-le}
use lib.Seq.{length-take-le, drop-cons}
use Rattle.fields.specs.Pieces.{Bytes}
use Rattle.fields.specs.Numbers.{is_digit}
use Rattle.fields.specs.Digits.{begins_digit, digits_in, first_digits, amount_in}
use Rattle.fields.proofs.DigitLaws.{Digit}

-- ---- the first byte
module _ (b : ℕ) where
  pub is_digit_lem : Digit b → is_digit b ≡ true
  is_digit_lem d = simp (le-leb 48 b d.low, le-leb b 57 d.high)

  below_digits : b < 48 → is_digit b ≡ false
  below_digits l = simp (lt-leb 48 b l)

  above_digits : 57 < b → is_digit b ≡ false
  above_digits l = simp (le-leb 48 b (omega arith), lt-leb b 57 l)

  -- a byte is a digit or none
  pub data DigitOr : Type 0 where
    digit : Digit b → DigitOr
    other : is_digit b ≡ false → DigitOr

  pub digit_or : DigitOr
  digit_or =
      elim (dec_lt b 48) [
        | yes l ↦ other (below_digits l)
        | no l ↦ elim (dec_lt 57 b) [ yes h ↦ other (above_digits h) | no h ↦ digit (record { low = omega arith; high = omega arith }) ]
      ]

  module _ (bs : Bytes) where
    pub digits_in_other : is_digit b ≡ false → digits_in (b ∷ bs) ≡ 0
    unfolding digits_in
    digits_in_other e = rw e

    pub digits_in_more : Digit b → digits_in (b ∷ bs) ≡ suc (digits_in bs)
    unfolding digits_in
    digits_in_more d = rw (is_digit_lem d)

-- shown of the empty text, of one that begins with a digit and of one that begins with another byte, it holds of every text
pub digit_by_digit :
    (P : Bytes → Type 0) → P [] → ((b : ℕ) (bs : Bytes) → Digit b → P bs → P (b ∷ bs)) → ((b : ℕ) (bs : Bytes) → is_digit b ≡ false → P (b ∷ bs)) →
    (t : Bytes) → P t
digit_by_digit P empty more stop [] = empty
digit_by_digit P empty more stop (b ∷ bs) = go (digit_or b) (digit_by_digit P empty more stop bs)
  where
    go : DigitOr b → P bs → P (b ∷ bs)
    go (digit d) rest = more b bs d rest
    go (other e) rest = stop b bs e

-- ---- how many there are
pub digits_in_within : (t : Bytes) → digits_in t ≤ length t
unfolding digits_in
digits_in_within =
    digit_by_digit (λ t. digits_in t ≤ length t) (omega arith) (λ b bs d ih. rw (digits_in_more b bs d) (omega arith))
    (λ b bs e. rw (digits_in_other b bs e) (omega arith))

pub digits_length : (t : Bytes) → length (first_digits t) ≡ digits_in t
digits_length t = length-take-le (digits_in t) t (digits_in_within t)

-- ---- whether one stands at a place
pub record DigitThere (s : Bytes) (at : ℕ) : Type 0 where
  pub inside : at < length s
  pub digit : Digit (get_or s at 0)

module _ (s : Bytes) (at : ℕ) where
  pub past_digits : length s ≤ at → false ≡ begins_digit (drop at s)
  unfolding begins_digit
  past_digits h = rw (drop_of_length-le s h)

  module _ (h : at < length s) where
    pub begins_byte : begins_digit (drop at s) ≡ is_digit (get_or s at 0)
    unfolding begins_digit
    begins_byte = rw (drop-cons s at 0 h)

  pub digit_there : begins_digit (drop at s) ≡ true → DigitThere s at
  digit_there e =
      elim (dec_lt at (length s)) [
        | yes h ↦ record { inside = h; digit = is_there h (digit_or (get_or s at 0)) }
        | no h ↦ absurd (let z : ◌≡◌ {A = ℕ} 0 1 = let f = past_digits (omega arith) in cc in omega arith)
      ]
    where
      is_there : at < length s → DigitOr (get_or s at 0) → Digit (get_or s at 0)
      is_there h (digit d) = d
      is_there h (other o) = absurd (let z : ◌≡◌ {A = ℕ} 0 1 = let f = begins_byte h in cc in omega arith)

pub none_there : (t : Bytes) → begins_digit t ≡ false → digits_in t ≡ 0
unfolding begins_digit digits_in
none_there [] e = refl
none_there (b ∷ bs) e = digits_in_other b bs e

pub ruleset digit_laws = (rules, past_digits, begins_byte)

-- ---- with a minus in front, or without
pub amount_in_minus : (bs : Bytes) → amount_in (45 ∷ bs) ≡ suc (digits_in bs)
unfolding amount_in
amount_in_minus bs = refl

pub amount_in_plain : (b : ℕ) (bs : Bytes) → (b ≡ 45 → ⊥) → amount_in (b ∷ bs) ≡ digits_in (b ∷ bs)
unfolding amount_in
amount_in_plain b bs n = simp (ne_eqb b 45 n)
