-- The values that a well-formed line names stand before it. Assumes nothing.
use Prim.Native.Nat.{ℕ, zero, suc, ◌≤◌, ◌<◌}
use native.Mathlib.Omega.{arith}
use mathlib.Core.List.{List, [], ◌∷◌}
use lib.Dec.{T}
use lib.ListN.{length, get_or}
use Rattle.model.specs.declared.Line.{Line}
use Rattle.model.specs.Files.{is_usable, kind_at, every_usable}
use Rattle.model.proofs.Tests.{and_first, and_second}
use Rattle.model.proofs.Formed.{usable_below}

-- what a well-formed line names stands before it, and 0 is named where it names nothing
pub operand_below :
    (before : List Line) (most : ℕ) → length before ≤ most → 0 < most → (names : List ℕ) → T (every_usable before names) → (j : ℕ) → get_or names j 0 < most
operand_below before most few some [] u j = omega arith
operand_below before most few some (a ∷ names) u zero =
    let below = usable_below before a (and_first (is_usable (kind_at before a)) (every_usable before names) u) in omega arith
operand_below before most few some (a ∷ names) u (suc j) =
    operand_below before most few some names (and_second (is_usable (kind_at before a)) (every_usable before names) u) j
