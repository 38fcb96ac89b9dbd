-- The fields of a line, read off their description: a list of what each holds.
use Rattle.std.specs.Prelude.{ℕ, Bool, true, ◌&&◌, List, [], ◌∷◌, leb, ℤ, pos, neg_ℤ}
use Rattle.std.proofs.Math.Option.{Option, none, some}
use Rattle.std.specs.Int.Signed.{le_z}
use Rattle.ints.specs.Parts.{positive}
use Rattle.fields.specs.Pieces.{Bytes}
use Rattle.fields.specs.Numbers.{number_of, without_minus, amount_of}

-- What a field holds: a value number, which "has no range of its own"; a number from the first to the second; a level, from 1 to the top
-- level; a rotation amount, from minus so much to so much.
pub data Holds : Type 0 where
  operand : Holds
  ranged : ℕ → ℕ → Holds
  up_to_top : Holds
  amount : ℕ → Holds

-- ---- reading: the number that stands in a field, if one does
-- "a minus stands only before a nonzero rotation"
abbrev pub read_field : Holds → Bytes → Option ℤ
read_field operand field = without_minus (number_of field)
read_field (ranged low high) field = without_minus (number_of field)
read_field up_to_top field = without_minus (number_of field)
read_field (amount most) field = amount_of field

abbrev pub both : Option ℤ → Option (List ℤ) → Option (List ℤ)
both none more = none
both (some n) none = none
both (some n) (some ns) = some (n ∷ ns)

-- as many fields as are described, and a number in each
unfoldable pub read_fields : List Holds → List Bytes → Option (List ℤ)
read_fields [] [] = some []
read_fields [] (field ∷ fields) = none
read_fields (f ∷ fs) [] = none
read_fields (f ∷ fs) (field ∷ fields) = both (read_field f field) (read_fields fs fields)

-- ---- ranges, under a top level
-- n is from low to high
abbrev pub within : ℕ → ℕ → ℕ → Bool
within low high n = leb low n && leb n high

abbrev pub in_range : ℕ → Holds → ℤ → Bool
in_range top operand n = true
in_range top (ranged low high) n = within low high (positive n)
in_range top up_to_top n = within 1 top (positive n)
in_range top (amount most) n = le_z (neg_ℤ (pos most)) n && le_z n (pos most)

-- each field; after the last one nothing is added
abbrev pub all_in_range : ℕ → List Holds → List ℤ → Bool
all_in_range top [] ns = true
all_in_range top (f ∷ fs) [] = true
all_in_range top (f ∷ []) (n ∷ ns) = in_range top f n
all_in_range top (f ∷ f' ∷ fs) (n ∷ ns) = in_range top f n && all_in_range top (f' ∷ fs) ns
