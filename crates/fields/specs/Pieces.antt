-- A text as pieces with a byte between each two: the tab between document 01's fields, and the line feed, after which the next line stands.
use Rattle.std.specs.Prelude.{ℕ, Bool, true, false, cond, ◌&&◌, List, [], ◌∷◌, ◌++◌, eqb}

abbrev pub Bytes : Type 0
Bytes = List ℕ

abbrev pub tab : ℕ
tab = 9

abbrev pub line_feed : ℕ
line_feed = 10

-- a byte in front of the first piece
abbrev pub in_front : ℕ → List Bytes → List Bytes
in_front b [] = (b ∷ []) ∷ []
in_front b (p ∷ ps) = (b ∷ p) ∷ ps

-- the pieces between the bytes x: one more than there are such bytes
unfoldable pub split : ℕ → Bytes → List Bytes
split x [] = [] ∷ []
split x (b ∷ bs) = cond (eqb b x) ([] ∷ split x bs) (in_front b (split x bs))

-- the pieces with a byte x between each two
unfoldable pub join : ℕ → List Bytes → Bytes
join x [] = []
join x (p ∷ []) = p
join x (p ∷ q ∷ ps) = p ++ (x ∷ join x (q ∷ ps))

-- the same bytes
unfoldable pub same_bytes : Bytes → Bytes → Bool
same_bytes [] [] = true
same_bytes [] (c ∷ cs) = false
same_bytes (b ∷ bs) [] = false
same_bytes (b ∷ bs) (c ∷ cs) = eqb b c && same_bytes bs cs
