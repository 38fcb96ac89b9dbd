-- A circuit that fits at one top level fits at every higher one up to 60.
use Prim.Native.Nat.{ℕ, ◌≤◌}
use mathlib.Core.List.{List}
use lib.Dec.{T}
use Rattle.model.specs.declared.Header.{Header}
use Rattle.model.specs.declared.Line.{Line}
use Rattle.model.specs.declared.Grammar.TheVariants.{Circuit}
use Rattle.model.specs.Scales.{with_top}
use Rattle.model.specs.Files.{well_formed}
use Rattle.model.specs.Demands.{Schedulable}

abbrev pub Statement : Type 0
Statement =
    (h : Header) (circuit : List Line) → T (well_formed Circuit h circuit) → (l : ℕ) → h.top ≤ l → l ≤ 60
    → Schedulable h circuit → Schedulable (with_top h l) circuit
