-- Document 01, its opening: scales in bits, the header's numbers, the modulus and the reserve. Document 02, Job 3: the headroom.
use Rattle.std.specs.Prelude.{ℕ, ◌*◌, Bool, List, [], ◌∷◌, ◌++◌, ℤ, pos, ◌-ℤ◌, Option, Some, None}
use Rattle.rows.specs.Fields.{Holds, ranged, all_in_range}
use Rattle.model.specs.declared.Header.{Header}

-- "F is the rescale factor, W the waterline, L the top level, all whole numbers from 1 to 60."
abbrev pub three_fields : List Holds
three_fields = ranged 1 60 ∷ ranged 1 60 ∷ ranged 1 60 ∷ []

-- "The header gains a fourth number H, bits of size with the sign, from 1 to 60"
abbrev pub header_fields : List Holds
header_fields = three_fields ++ (ranged 1 60 ∷ [])

-- "three numbers mean none, and none is written so."
abbrev pub headroom_numbers : Option ℕ → List ℤ
headroom_numbers None = []
headroom_numbers (Some bits) = pos bits ∷ []

abbrev pub header_numbers : Header → List ℤ
header_numbers h = pos h.factor ∷ pos h.waterline ∷ pos h.top ∷ headroom_numbers h.headroom

-- no range of these fields goes up to the top level, so any may be handed on; a field without a number is in range
abbrev pub header_in_range : Header → Bool
header_in_range h = all_in_range 0 header_fields (header_numbers h)

-- "the modulus at level l has F·l bits"
abbrev pub modulus : Header → ℕ → ℕ
modulus h l = h.factor * l

-- "The reserve of a ciphertext is F·l − s"
abbrev pub reserve : Header → ℕ → ℕ → ℤ
reserve h s l = pos (modulus h l) -ℤ pos s

-- The bits that must be left: "Each scale must satisfy scale + H ≤ F·level, and a best reserve below H is too few levels." Where none is
-- given it is "scale ≤ F·level" and "below zero", document 01's.
unfoldable pub headroom : Header → ℕ
headroom h = elim h.headroom [ None ↦ 0 | Some bits ↦ bits ]

-- The header with another top level: H "travels with" the others.
abbrev pub with_top : Header → ℕ → Header
with_top h l = record { factor = h.factor; waterline = h.waterline; top = l; headroom = h.headroom }
