-- Number fields: what number a field is, if it is one, and the field that a number is written as.
use Rattle.std.specs.Prelude.{ℕ, zero, suc, ◌+◌, ◌-◌, ◌*◌, ◌/◌, ◌%◌, Bool, cond, ◌&&◌, [], ◌∷◌, ◌++◌, leb, ltb, eqb, length, ℤ, pos, negsuc, neg_ℤ}
use Rattle.std.proofs.Math.Option.{Option, none, some}
use Rattle.fields.specs.Pieces.{Bytes}

-- "A field that is no number gives 1, as does one over 11 bytes."
abbrev pub longest_field : ℕ
longest_field = 11

abbrev pub is_digit : ℕ → Bool
is_digit b = leb 48 b && leb b 57

-- the number that these digits spell, after digits that spell n
unfoldable pub digits_of : Bytes → ℕ → Option ℕ
digits_of [] n = some n
digits_of (b ∷ bs) n =
    let more = digits_of bs (n * 10 + (b - 48)) in
    cond (is_digit b) more none

-- "Numbers are decimal without leading zeros or plus": 1 to 11 digits, and no zero in front of another digit
unfoldable pub number_of : Bytes → Option ℕ
number_of [] = none
number_of (b ∷ []) = digits_of (b ∷ []) 0
number_of (b ∷ c ∷ bs) =
    cond (eqb b 48) none (cond (leb (length (b ∷ c ∷ bs)) longest_field) (digits_of (b ∷ c ∷ bs) 0) none)

-- an amount after a minus, and without one
abbrev pub after_minus : Option ℕ → Option ℤ
after_minus (some n) = cond (eqb n 0) none (some (neg_ℤ (pos n)))
after_minus none = none

abbrev pub without_minus : Option ℕ → Option ℤ
without_minus (some n) = some (pos n)
without_minus none = none

-- "a minus stands only before a nonzero rotation"; the minus counts among the 11 bytes
unfoldable pub amount_of : Bytes → Option ℤ
amount_of [] = none
amount_of (b ∷ bs) =
    cond (leb (length (b ∷ bs)) longest_field) (cond (eqb b 45) (after_minus (number_of bs)) (without_minus (number_of (b ∷ bs)))) none

-- the decimal digits of n, its last k if there are more
unfoldable pub decimal_in : ℕ → ℕ → Bytes
decimal_in zero n = []
decimal_in (suc k) n =
    let more = decimal_in k (n / 10) ++ ((48 + n % 10) ∷ []) in
    cond (ltb n 10) ((48 + n) ∷ []) more

-- a number as a field; 20 digits are more than any number that a file can have
abbrev pub decimal : ℕ → Bytes
decimal n = decimal_in 20 n

-- a rotation amount as a field
abbrev pub amount_text : ℤ → Bytes
amount_text (pos n) = decimal n
amount_text (negsuc n) = 45 ∷ decimal (suc n)
