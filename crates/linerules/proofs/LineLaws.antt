-- A rescale is a `ds` only where it is by no level. Assumes nothing.
use Prim.Native.Nat.{ℕ}
use mathlib.Core.Path.{◌≡◌}
use borrow.Author.Tests.{ne_eqb}
use Rattle.model.specs.declared.Line.TheVariants.{Rs}
use Rattle.listings.specs.Held.{counted_line}

-- a rescale by some levels is no `ds`
pub rescale_counted : (a c : ℕ) → (c ≡ 0 → ⊥) → counted_line (Rs a c) ≡ Rs a c
rescale_counted a c some = rw (ne_eqb c 0 some)
