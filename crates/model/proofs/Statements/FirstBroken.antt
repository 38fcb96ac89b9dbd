-- What the rules refuse is refused at the first line that breaks one: the lines before it keep the rules, and with it they do not. The number is
-- that of the first test that applies to the line, one of 7, 8, 9 and 10.
use Prim.Native.Nat.{ℕ, ◌≤◌}
use mathlib.Core.Path.{◌≡◌}
use mathlib.Core.List.{List}
use lib.Dec.{T}
use Rattle.model.specs.declared.Header.{Header}
use Rattle.model.specs.declared.Line.{Line}
use Rattle.model.specs.declared.Grammar.TheVariants.{Schedule}
use Rattle.model.specs.declared.Answer.TheVariants.{Refused}
use Rattle.model.specs.Files.{well_formed}
use Rattle.model.specs.Answers.{rules_answer}
use Rattle.model.specs.Broken.{FirstBroken}

pub record IsFirstBroken (h : Header) (schedule : List Line) (n p : ℕ) : Type 0 where
  pub broken : FirstBroken h schedule n p
  pub least : 7 ≤ n
  pub most : n ≤ 10

abbrev pub Statement : Type 0
Statement =
    (h : Header) (schedule : List Line) → T (well_formed Schedule h schedule) → (n p : ℕ) → rules_answer h schedule ≡ Refused n p → IsFirstBroken h schedule n p
