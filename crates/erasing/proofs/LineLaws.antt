-- What erasing makes of one line, by its word and its operands' origins. Assumes nothing.
use Prim.Native.Nat.{ℕ, zero, suc, ◌<◌}
use native.Mathlib.Nat.{not-suc-le-zero, le_of_suc-le-suc}
use mathlib.Core.Path.{◌≡◌, refl, ap}
use mathlib.Core.Bool.{Bool, true, false, cond}
use mathlib.Core.List.{List, [], ◌∷◌}
use lib.ListN.{length, get_or}
use Rattle.model.specs.declared.Line.{Line}
use Rattle.model.specs.Services.{kept, made_from, fate_of, renamed}
use Rattle.model.proofs.EveryWord.{each_line}
use Rattle.tables.specs.Records.{is_struck}
use Rattle.operands.specs.Operands.{first_operand, second_operand, with_operands}

-- ---- the fate of a line: a struck one was made from its first operand
module _ (x : Line) where
  pub line_kept : is_struck x ≡ false → fate_of x ≡ kept
  unfolding first_operand
  line_kept e = ap (λ (b : Bool). cond b (made_from (first_operand x)) kept) e

  pub line_struck : is_struck x ≡ true → fate_of x ≡ made_from (first_operand x)
  unfolding first_operand
  line_struck e = ap (λ (b : Bool). cond b (made_from (first_operand x)) kept) e

-- ---- other operands
-- a line is renamed by its operands' new numbers
pub renamed_is : (f : ℕ → ℕ) (x : Line) → with_operands x (f (first_operand x)) (f (second_operand x)) ≡ renamed f x
unfolding first_operand second_operand
renamed_is f x = each_line (λ y. with_operands y (f (first_operand y)) (f (second_operand y))) (renamed f) (λ ns. refl) x

-- ---- origins
-- an origin that is there is found whatever stands for one that is not
pub origin_held : (origins : List ℕ) (a d : ℕ) → a < length origins → get_or origins a 0 ≡ get_or origins a d
origin_held [] a d h = absurd (not-suc-le-zero h)
origin_held (o ∷ os) zero d h = refl
origin_held (o ∷ os) (suc a) d h = origin_held os a d (le_of_suc-le-suc h)
