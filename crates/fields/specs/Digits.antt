-- What the code uses: the digits that a text begins with, also after a minus, and a zero that is the only one.
use Rattle.std.specs.Prelude.{ℕ, suc, Bool, false, cond, ◌&&◌, [], ◌∷◌, eqb, take}
use Rattle.fields.specs.Pieces.{Bytes}
use Rattle.fields.specs.Numbers.{is_digit}

-- whether a text begins with a digit
unfoldable pub begins_digit : Bytes → Bool
begins_digit [] = false
begins_digit (b ∷ bs) = is_digit b

-- how many digits stand before the first byte that is none, or all of them
unfoldable pub digits_in : Bytes → ℕ
digits_in [] = 0
digits_in (b ∷ bs) = cond (is_digit b) (suc (digits_in bs)) 0

-- these digits
abbrev pub first_digits : Bytes → Bytes
first_digits t = take (digits_in t) t

-- how many bytes a text begins with that are digits, or a minus and digits
unfoldable pub amount_in : Bytes → ℕ
amount_in [] = 0
amount_in (b ∷ bs) = cond (eqb b 45) (suc (digits_in bs)) (digits_in (b ∷ bs))

-- whether so many digits, which spell this number, are one zero
unfoldable pub lone_zero : ℕ → ℕ → Bool
lone_zero count value = eqb count 1 && eqb value 0
