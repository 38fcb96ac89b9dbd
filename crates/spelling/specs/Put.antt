-- What writing a text into a buffer comes to, and how long a text is.
use Rattle.std.specs.Prelude.{ℕ, ◌+◌, ◌%◌, ◌≤◌, Bool, true, false, ◌++◌, ◌≡◌, ℤ, pos, negsuc, length, take, drop}
use Rattle.fields.specs.Pieces.{Bytes}

-- A text was written into a buffer from the place `at` on, which held the bytes `before` and now holds `after`: the text, and before and
-- past it what stood there. `next` is the place past the text.
pub record Put (before : Bytes) (at : ℕ) (text : Bytes) (next : ℕ) (after : Bytes) : Type 0 where
  pub place : next ≡ at + length text
  pub bytes : after ≡ take at before ++ (text ++ drop (at + length text) before)

-- A text has `count` bytes, at most `most`.
pub record Counted (text : Bytes) (most count : ℕ) : Type 0 where
  pub counted : count ≡ length text
  pub bounded : count ≤ most

-- the byte of a number's last digit
abbrev pub last_digit : ℕ → ℕ
last_digit n = 48 + n % 10

-- whether a number is below 0
abbrev pub is_negative : ℤ → Bool
is_negative (pos n) = false
is_negative (negsuc n) = true
