-- What is asked of one field: a law for each return of the code, and what is asked of field i of a line. Assumes nothing.
use Prim.Native.Nat.{ℕ}
use mathlib.Core.Bool.{Bool, true, false, cond}
use mathlib.Core.Path.{◌≡◌, refl}
use lib.Dec.{ltb, eqb}
use lib.IntN.{ℤ, pos}
use lib.Signed.{lt_z}
use Rattle.std.specs.Prelude as Std
use Rattle.std.specs.Prelude.{Some, None, Ok, Err}
use Rattle.forms.specs.declared.FieldsAsked.{FieldsAsked}
use Rattle.forms.specs.Asked.{signed_at, largest_at, below_or_above, outside_at, value, number, asked_at, signed_in, largest_in, outside_in}

-- ---- what is asked of field i
module _ (asked : FieldsAsked) (i : ℕ) where
  pub signed_in_lem : signed_at asked i ≡ signed_in (asked_at asked i)
  unfolding signed_at asked_at
  signed_in_lem = go (ltb i asked.operands)
    where
      go : (b : Bool) → cond b false (lt_z asked.least (pos 0)) ≡ signed_in (cond b value (number asked.least (cond (eqb i 2) asked.third asked.largest)))
      go true = refl
      go false = refl

  pub largest_in_lem : largest_at asked i ≡ largest_in (asked_at asked i)
  unfolding largest_at asked_at
  largest_in_lem = go (ltb i asked.operands)
    where
      go : (b : Bool) → cond b 1791 (cond (eqb i 2) asked.third asked.largest) ≡ largest_in (cond b value (number asked.least (cond (eqb i 2) asked.third asked.largest)))
      go true = refl
      go false = refl

  pub outside_in_lem : (found : Std.Option ℤ) → outside_at asked i found ≡ outside_in (asked_at asked i) found
  unfolding outside_at asked_at
  outside_in_lem found = go (ltb i asked.operands)
    where
      go : (b : Bool) → cond b false (below_or_above asked.least found) ≡ outside_in (cond b value (number asked.least (cond (eqb i 2) asked.third asked.largest))) found
      go true = refl
      go false = refl
