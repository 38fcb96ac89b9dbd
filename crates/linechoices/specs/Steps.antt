-- What the best machine makes of a line whose operands are known.
use Rattle.std.specs.Prelude.{ℕ, [], ◌∷◌, ◌≡◌, T}
use Rattle.model.specs.declared.Header.{Header}
use Rattle.model.specs.declared.Line.{Line}
use Rattle.model.specs.declared.Best.{Best}
use Rattle.model.specs.Scales.{header_in_range}
use Rattle.model.specs.Machine.{Step, goes, stops, step}
use Rattle.model.specs.Plan.{choice_of, best_machine}
use Rattle.operands.specs.Operands.{with_operands}
use Rattle.choices.specs.Ranges.{Small}
use Rattle.conversions.specs.declared.Operand.{Operand}
use Rattle.conversions.specs.Operands.{best_of}
use Rattle.std.specs.Prelude.{Result, Ok, Err}
use Rattle.model.specs.declared.Choice.{Choice}
use Rattle.model.specs.declared.Fault.{Fault}
use Rattle.model.specs.declared.Fault.TheVariants.{TooFewLevels}

-- the machine's step for line x, in a circuit whose values 0 and 1 are its operands
unfoldable pub step_on : Header → Line → Operand → Operand → Step Best ℕ
step_on h x a b = step (best_machine h) 0 (best_of a ∷ best_of b ∷ []) (with_operands x 0 1)

abbrev pub line_choice : Step Best ℕ → Result Choice Fault
line_choice (goes v) = Ok (choice_of v)
line_choice (stops n) = Err TooFewLevels

-- The header is in its ranges, the operands have reserves, and a line that stops the machine has too few levels: no operand is missing or
-- of the wrong kind.
pub record Known (h : Header) (x : Line) (a b : Operand) : Type 0 where
  pub range_held : T (header_in_range h)
  pub first : Small a.reserve
  pub second : Small b.reserve
  pub only_six : (n : ℕ) → step_on h x a b ≡ stops n → n ≡ 6
