-- The best reserve of a sum and of a product of values a and b, from their reserves and whether their records hold bare constants. Two
-- constants are no pair.
use Rattle.std.specs.Prelude.{ℕ, ◌<◌, Bool, cond, List, ℤ, pos, ◌-ℤ◌, length, get_or}
use Rattle.model.specs.declared.Header.{Header}
use Rattle.model.specs.Files.{kind_at, is_constant}
use Rattle.model.specs.Plan.{smaller, product_choice}
use Rattle.tables.specs.declared.Record.{Record}
use Rattle.tables.specs.Records.{lines_of}
use Rattle.choices.specs.Ranges.{Small}

-- value a has a record and a reserve
pub record KnownOperand (records : List Record) (reserves : List ℤ) (a : ℕ) : Type 0 where
  pub recorded : a < length records
  pub known : a < length reserves
  pub small : Small (get_or reserves a (pos 0))

abbrev pub is_bare : List Record → ℕ → Bool
is_bare records a = is_constant (kind_at (lines_of records) a)

-- both: of two ciphertexts; one: of the ciphertext beside a constant
abbrev pub pair_reserve : (ℤ → ℤ → ℤ) → (ℤ → ℤ) → List Record → List ℤ → ℕ → ℕ → ℤ
pair_reserve both one records reserves a b =
    cond (is_bare records a) (one (get_or reserves b (pos 0)))
    (cond (is_bare records b) (one (get_or reserves a (pos 0))) (both (get_or reserves a (pos 0)) (get_or reserves b (pos 0))))

unfoldable pub sum_reserve : List Record → List ℤ → ℕ → ℕ → ℤ
sum_reserve = pair_reserve smaller (λ r. r)

unfoldable pub product_reserve : Header → List Record → List ℤ → ℕ → ℕ → ℤ
product_reserve h = pair_reserve (λ r r'. (product_choice h r r').reserve) (λ r. r -ℤ pos h.waterline)
