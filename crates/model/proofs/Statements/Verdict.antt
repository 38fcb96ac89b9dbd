-- The check's verdict on a schedule's lines, with its numbers and their order, is the rules, said without either.
use mathlib.Core.Path.{◌≡◌}
use mathlib.Core.Logic.{◌↔◌}
use mathlib.Core.List.{List}
use lib.Dec.{T}
use Rattle.model.specs.declared.Header.{Header}
use Rattle.model.specs.declared.Line.{Line}
use Rattle.model.specs.declared.Grammar.TheVariants.{Schedule}
use Rattle.model.specs.declared.Answer.TheVariants.{Done}
use Rattle.model.specs.Files.{well_formed}
use Rattle.model.specs.Rules.{KeepsRules}
use Rattle.model.specs.Answers.{rules_answer}

abbrev pub Statement : Type 0
Statement = (h : Header) (schedule : List Line) → T (well_formed Schedule h schedule) → (rules_answer h schedule ≡ Done) ↔ KeepsRules h schedule
