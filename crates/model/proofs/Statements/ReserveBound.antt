-- In every schedule of any length that keeps the rules and erases to the circuit, each ciphertext line's reserve, that of an `out` too, is at most
-- the best reserve of the circuit line that it comes from; and the circuit has a best reserve at every line.
use Prim.Native.Nat.{ℕ, ◌<◌}
use mathlib.Core.Path.{◌≡◌}
use mathlib.Core.List.{List}
use mathlib.Core.Option.{some}
use lib.Dec.{T}
use lib.ListN.{length, get_or, get_elem?}
use lib.Signed.{◌≤ℤ◌}
use Rattle.model.specs.declared.Header.{Header}
use Rattle.model.specs.declared.Line.{Line}
use Rattle.model.specs.declared.Line.TheVariants.{Free}
use Rattle.model.specs.declared.Grammar.TheVariants.{Schedule}
use Rattle.model.specs.Scales.{reserve}
use Rattle.model.specs.Files.{well_formed}
use Rattle.model.specs.Machine.{finished, run}
use Rattle.model.specs.Rules.{KeepsRules}
use Rattle.model.specs.declared.Choice.{Choice}
use Rattle.model.specs.declared.Best.{Best}
use Rattle.model.specs.declared.Best.TheVariants as Bests
use Rattle.model.specs.Plan.{best_machine}
use Rattle.model.specs.Services.{erase}
use Rattle.model.specs.Demands.{is_ciphertext_line}
use Rattle.model.proofs.Statements.Erasing.{origins}

-- line i of the schedule, against its circuit line
pub record AtMostBest (h : Header) (schedule : List Line) (keeps : KeepsRules h schedule) (best : List Best) (i : ℕ) : Type 0 where
  pub from : ℕ
  pub choice : Choice
  pub comes_from : get_elem? (origins schedule) i ≡ some from
  pub best_is : get_elem? best from ≡ some (Bests.Ciphertext choice)
  pub at_most : reserve h (keeps.scale i) (keeps.level i) ≤ℤ choice.reserve

pub record Bounded (h : Header) (circuit schedule : List Line) (keeps : KeepsRules h schedule) : Type 0 where
  pub best : List Best
  pub runs : run (best_machine h) circuit ≡ finished best
  pub lines : (i : ℕ) → i < length schedule → T (is_ciphertext_line (get_or schedule i Free)) → AtMostBest h schedule keeps best i

abbrev pub Statement : Type 0
Statement =
    (h : Header) (circuit schedule : List Line) → T (well_formed Schedule h schedule) → (keeps : KeepsRules h schedule) → erase schedule ≡ circuit
    → Bounded h circuit schedule keeps
