-- What the code uses: a text from a place on, as far as the line that stands there goes.
use Rattle.std.specs.Prelude.{Bool, true, false, cond, not, ◌&&◌, ◌||◌, List, [], ◌∷◌, eqb, ℤ}
use Rattle.std.proofs.Math.Option.{Option, none}
use Rattle.fields.specs.Pieces.{Bytes, tab, line_feed, split}
use Rattle.rows.specs.Fields.{Holds, read_fields}

-- ---- the line
-- its bytes, up to the line feed or the end
unfoldable pub line_in : Bytes → Bytes
line_in [] = []
line_in (b ∷ bs) = cond (eqb b line_feed) [] (b ∷ line_in bs)

-- whether a line feed closes it
unfoldable pub is_closed : Bytes → Bool
is_closed [] = false
is_closed (b ∷ bs) = cond (eqb b line_feed) true (is_closed bs)

-- what follows its line feed
unfoldable pub after_line : Bytes → Bytes
after_line [] = []
after_line (b ∷ bs) = cond (eqb b line_feed) bs (after_line bs)

-- ---- its first field
-- a field that stands before this text ends here
unfoldable pub ends_field : Bytes → Bool
ends_field [] = true
ends_field (b ∷ bs) = eqb b tab || eqb b line_feed

unfoldable pub field_in : Bytes → Bytes
field_in [] = []
field_in (b ∷ bs) = cond (ends_field (b ∷ bs)) [] (b ∷ field_in bs)

-- a word has neither tab nor line feed
abbrev pub is_plain : Bytes → Bool
is_plain [] = true
is_plain (b ∷ bs) = not (eqb b tab || eqb b line_feed) && is_plain bs

-- ---- its other fields
-- the numbers of the fields after a word that ends here: a tab before each field, and a line feed after the last
unfoldable pub numbers_in : List Holds → Bytes → Option (List ℤ)
numbers_in fs [] = none
numbers_in fs (b ∷ bs) =
    cond (eqb b line_feed) (read_fields fs []) (cond (eqb b tab && is_closed bs) (read_fields fs (split tab (line_in bs))) none)
