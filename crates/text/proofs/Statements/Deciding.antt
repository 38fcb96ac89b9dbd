-- The first 4,400 bytes of a text decide its reading as a circuit, so that a program need read no more. A good header line has at most
-- 20 bytes with its line feed, and each of the 256 lines at most 17, in all 4,372; a line of a circuit's words and of the form has at most 28.
use mathlib.Core.Path.{◌≡◌}
use lib.ListN.{take}
use Rattle.fields.specs.Pieces.{Bytes}
use Rattle.text.specs.Files.{read_text, circuit_context}

abbrev pub Statement : Type 0
Statement = (text : Bytes) → read_text circuit_context text ≡ read_text circuit_context (take 4400 text)
