-- A text as lines: "every line closed by a line feed", and what stands after the last line feed, which is no line if it is empty.
use Rattle.std.specs.Prelude.{ℕ, cond, List, [], ◌∷◌, ◌++◌, eqb}
use Rattle.fields.specs.Pieces.{Bytes, line_feed}

-- the closed lines without their line feeds, and the rest
pub data Lines : Type 0 where
  lines : List Bytes → Bytes → Lines

-- a closed line before the others
abbrev pub closed : Bytes → Lines → Lines
closed p (lines ps rest) = lines (p ∷ ps) rest

-- a byte before the first line, or before the rest if there is no line
abbrev pub in_front : ℕ → Lines → Lines
in_front b (lines [] rest) = lines [] (b ∷ rest)
in_front b (lines (p ∷ ps) rest) = lines ((b ∷ p) ∷ ps) rest

unfoldable pub lines_of : Bytes → Lines
lines_of [] = lines [] []
lines_of (b ∷ bs) = cond (eqb b line_feed) (closed [] (lines_of bs)) (in_front b (lines_of bs))

-- the text of closed lines
unfoldable pub text_of : List Bytes → Bytes
text_of [] = []
text_of (p ∷ ps) = p ++ (line_feed ∷ text_of ps)
