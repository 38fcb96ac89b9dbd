-- What the code uses: what is asked of the fields of a line, and what is found of their numbers.
use Rattle.std.specs.Prelude as Std
use Rattle.std.specs.Prelude.{Some, None, Result, Ok, Err, ℕ, ◌+◌, Bool, true, false, cond, ◌||◌, List, [], ◌∷◌, ltb, eqb, ℤ, pos, get_or, take, drop}
use Rattle.std.proofs.Math.Option.{Option, none, some}
use Rattle.std.specs.Int.Signed.{lt_z}
use Rattle.fields.specs.Pieces.{Bytes, tab}
use Rattle.fields.specs.Places.{begins, size_of, field_at}
use Rattle.fields.specs.declared.FieldAt.{FieldAt}
use Rattle.rows.specs.Fields.{Holds, operand, amount}
use Rattle.forms.specs.declared.FieldsAsked.{FieldsAsked}
use Rattle.forms.specs.declared.Numbers.{Numbers}
use Rattle.model.specs.declared.Fault.TheVariants.{NotOfForm, NumberOutOfRange}
use Rattle.model.specs.declared.Refusal.{Refusal}

-- ---- field i, counted from 0, of which the first so many are value numbers
unfoldable pub signed_at : FieldsAsked → ℕ → Bool
signed_at asked i = cond (ltb i asked.operands) false (lt_z asked.least (pos 0))

unfoldable pub largest_at : FieldsAsked → ℕ → ℕ
largest_at asked i = cond (ltb i asked.operands) 1791 (cond (eqb i 2) asked.third asked.largest)

abbrev pub below_or_above : ℤ → Std.Option ℤ → Bool
below_or_above least (Some n) = lt_z n least
below_or_above least None = true

unfoldable pub outside_at : FieldsAsked → ℕ → Std.Option ℤ → Bool
outside_at asked i found = cond (ltb i asked.operands) false (below_or_above asked.least found)

abbrev pub held_as : Std.Option ℤ → ℤ
held_as (Some n) = n
held_as None = pos 1792

-- the number of a field after a tab that stands here
unfoldable pub field_after : Bool → ℕ → Bytes → ℕ → Std.Option FieldAt
field_after signed largest s at = cond (begins tab (drop at s)) (field_at signed largest s (at + 1)) None

-- ---- what is asked of a field: a value number, or a number from the first to the second, with a sign where the first is below zero
pub data Asked : Type 0 where
  value : Asked
  number : ℤ → ℕ → Asked

unfoldable pub asked_at : FieldsAsked → ℕ → Asked
asked_at asked i = cond (ltb i asked.operands) value (number asked.least (cond (eqb i 2) asked.third asked.largest))

abbrev pub described : FieldsAsked → List Asked
described asked = take asked.count (asked_at asked 0 ∷ asked_at asked 1 ∷ asked_at asked 2 ∷ [])

abbrev pub signed_in : Asked → Bool
signed_in value = false
signed_in (number least largest) = lt_z least (pos 0)

abbrev pub largest_in : Asked → ℕ
largest_in value = 1791
largest_in (number least largest) = largest

abbrev pub outside_in : Asked → Std.Option ℤ → Bool
outside_in value found = false
outside_in (number least largest) found = below_or_above least found

-- by which it is read
abbrev pub read_as : Asked → Holds
read_as f = cond (signed_in f) (amount 0) operand

-- ---- what is found of the numbers
abbrev pub size_in : Asked → ℤ → Std.Option ℤ
size_in f n = size_of (largest_in f) n

abbrev pub any_outside : List Asked → List ℤ → Bool
any_outside [] ns = false
any_outside (f ∷ fs) [] = false
any_outside (f ∷ fs) (n ∷ ns) = outside_in f (size_in f n) || any_outside fs ns

abbrev pub all_held : List Asked → List ℤ → List ℤ
all_held [] ns = []
all_held (f ∷ fs) [] = []
all_held (f ∷ fs) (n ∷ ns) = held_as (size_in f n) ∷ all_held fs ns

abbrev pub numbers_from : List ℤ → ℕ → Numbers
numbers_from ns end = record { first = get_or ns 0 (pos 0); second = get_or ns 1 (pos 0); third = get_or ns 2 (pos 0); end = end }

-- of a line with this place
abbrev pub unless_outside : Bool → ℕ → Numbers → Result Numbers Refusal
unless_outside outside place ns = cond outside (Err (record { fault = NumberOutOfRange; place = place })) (Ok ns)

-- what is read of a line with that place whose line feed stands at `end`
abbrev pub numbers_to : List Asked → ℕ → ℕ → Option (List ℤ) → Result Numbers Refusal
numbers_to fs place end none = Err (record { fault = NotOfForm; place = place })
numbers_to fs place end (some ns) = unless_outside (any_outside fs ns) place (numbers_from (all_held fs ns) end)
