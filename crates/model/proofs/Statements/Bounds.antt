-- "Every ciphertext or encoded constant has W ≤ scale ≤ F·level", where the header gives no headroom; and document 02, Job 3, where it gives one: "Each
-- scale must satisfy scale + H ≤ F·level".
use Rattle.std.specs.Prelude.{Some, None}
use Prim.Native.Nat.{ℕ, ◌+◌, ◌*◌, ◌≤◌}
use mathlib.Core.Path.{◌≡◌}
use mathlib.Core.Logic.{◌↔◌}
use Rattle.model.specs.declared.Header.{Header}
use Rattle.model.specs.Rules.{Bounds}

pub record BoundsAre (h : Header) (scale level : ℕ) : Type 0 where
  pub none : h.headroom ≡ None → Bounds h scale level ↔ ((h.waterline ≤ scale) × (scale ≤ h.factor * level))
  pub given : (bits : ℕ) → h.headroom ≡ Some bits → Bounds h scale level ↔ ((h.waterline ≤ scale) × (scale + bits ≤ h.factor * level))

abbrev pub Statement : Type 0
Statement = (h : Header) (scale level : ℕ) → BoundsAre h scale level
