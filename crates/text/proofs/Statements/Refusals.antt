-- Demand 1, "gets one reply": what a text that is not accepted comes to. Every text has a reading, since it is a function of the bytes; this says which
-- refusals there are, where they stand, and that "files are read top to bottom": whatever follows the closed lines that a refusal was found in, it stays.
use Prim.Native.Nat.{ℕ, ◌≤◌}
use mathlib.Core.Path.{◌≡◌}
use mathlib.Core.List.{[], ◌∷◌, ◌++◌}
use lib.ListN.{length}
use Rattle.fields.specs.Pieces.{Bytes, line_feed, split}
use Rattle.text.specs.declared.Context.{Context}
use Rattle.rows.specs.Rows.{refused}
use Rattle.text.specs.Files.{read_text}

-- the numbers that reading a file can give
pub data IsNumber : ℕ → Type 0 where
  form : IsNumber 1
  header : IsNumber 2
  many : IsNumber 3
  operand : IsNumber 4
  kind : IsNumber 5
  range : IsNumber 11

pub record IsRefusal (text : Bytes) (n p : ℕ) : Type 0 where
  pub number : IsNumber n
  pub first : 1 ≤ p
  pub last : p ≤ length (split line_feed text)

pub record Statement : Type 0 where
  pub refusal : (c : Context) (text : Bytes) (n p : ℕ) → read_text c text ≡ refused n p → IsRefusal text n p
  pub stays : (c : Context) (text more : Bytes) (n p : ℕ) → read_text c (text ++ (line_feed ∷ [])) ≡ refused n p → read_text c ((text ++ (line_feed ∷ [])) ++ more) ≡ refused n p
