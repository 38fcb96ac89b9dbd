-- What writing a file comes to.
use Rattle.std.specs.Prelude.{ℕ, ◌++◌, ◌≡◌, length, drop}
use Rattle.fields.specs.Pieces.{Bytes}

-- A text was written at the front of a buffer, which held the bytes `before` and now holds `after`: the text, and past it what stood
-- there before. `count` is how many bytes were written.
pub record Written (before text : Bytes) (count : ℕ) (after : Bytes) : Type 0 where
  pub counted : count ≡ length text
  pub bytes : after ≡ text ++ drop (length text) before
