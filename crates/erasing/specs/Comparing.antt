-- How a circuit compares with what a schedule erases to, and what a check makes of that.
use Rattle.std.specs.Prelude.{Bool, false, List, [], ◌∷◌, Result, Ok, Err}
use Rattle.model.specs.declared.Line.{Line}
use Rattle.model.specs.declared.Answer.{Answer}
use Rattle.model.specs.declared.Answer.TheVariants.{Refused}
use Rattle.model.specs.Answers.{same_line}
use Rattle.model.specs.declared.Refusal.{Refusal}
use Rattle.model.specs.Refusals.{number_of}

-- "12, then" the rules: the refusal where they differ, and what the rules say where they do not
abbrev pub after_compared : Result Unit Refusal → Answer → Answer
after_compared (Ok u) rules = rules
after_compared (Err r) rules = Refused (number_of r.fault) r.place

-- whether there is a first line and it is this one
abbrev pub begin_with : List Line → Line → Bool
begin_with [] x = false
begin_with (y ∷ ys) x = same_line y x
