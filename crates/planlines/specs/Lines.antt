-- The lines of one circuit line, from what is known of its operands.
use Rattle.std.specs.Prelude.{◌+◌, ◌*◌, ◌≤◌, true, List, [], ◌∷◌, ◌≡◌, T}
use Rattle.ints.specs.Parts.{positive}
use Rattle.model.specs.declared.Header.{Header}
use Rattle.model.specs.declared.Line.{Line}
use Rattle.model.specs.declared.Choice.{Choice}
use Rattle.model.specs.declared.Best.{Best}
use Rattle.model.specs.Scales.{header_in_range, headroom}
use Rattle.model.specs.Machine.{goes}
use Rattle.model.specs.Plan.{Draft, emit, choice_of, plan_line}
use Rattle.operands.specs.Operands.{with_operands}
use Rattle.choices.specs.Ranges.{Small}
use Rattle.conversions.specs.declared.Operand.{Operand}
use Rattle.conversions.specs.Operands.{best_of, supplied}
use Rattle.linechoices.specs.Steps.{step_on}

-- The plan's lines for line x where it is done as p says, in a circuit whose values 0 and 1 are its operands.
unfoldable pub line_on : Header → Choice → Line → Operand → Operand → List Line → Draft
line_on h p x a b lines = plan_line h (best_of a ∷ best_of b ∷ []) (a.number ∷ b.number ∷ []) p (with_operands x 0 1) lines

-- the lines of one operand, or of two, then line x itself
unfoldable pub with_one : Header → Choice → Line → Operand → List Line → Draft
with_one h p x a lines =
    let d = supplied h a p.first p.level lines in
    emit d.lines (with_operands x d.number 0)

unfoldable pub with_two : Header → Choice → Line → Operand → Operand → List Line → Draft
with_two h p x a b lines =
    let d = supplied h a p.first p.level lines in
    let e = supplied h b p.second p.level d.lines in
    emit e.lines (with_operands x d.number e.number)

-- A ciphertext has a reserve that its level can have.
pub record Stands (h : Header) (o : Operand) : Type 0 where
  pub fits : positive o.reserve + h.waterline ≤ h.factor * o.level
  pub least : headroom h ≤ positive o.reserve
  pub top : o.level ≤ h.top

-- What is known of an operand is so.
pub record Plannable (h : Header) (o : Operand) : Type 0 where
  pub small : Small o.reserve
  pub stands : o.ciphertext ≡ true → Stands h o

-- The machine goes on with line x, which is then done as p says. The header is in its ranges.
pub record DoneAs (h : Header) (x : Line) (a b : Operand) (p : Choice) : Type 0 where
  pub range_held : T (header_in_range h)
  pub first : Plannable h a
  pub second : Plannable h b
  pub best : Best
  pub goes_on : step_on h x a b ≡ goes best
  pub is : p ≡ choice_of best
