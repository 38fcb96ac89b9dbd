-- What erasing makes of a line of a schedule, as the code has it.
use Rattle.std.specs.Prelude.{ℕ, cond, List, get_or}
use Rattle.model.specs.declared.Line.{Line}
use Rattle.tables.specs.Records.{line_of, is_struck}
use Rattle.operands.specs.Operands.{first_operand, second_operand, with_operands}
use Rattle.erasing.specs.declared.Erased.{Erased}
use Rattle.erasing.specs.declared.Erased.TheVariants.{Kept, Struck}

-- what erasing makes of a line: it is kept as another line, or struck, with the origin that it then has
pub data LineErased : Type 0 where
  kept_as : Line → LineErased
  struck_from : ℕ → LineErased

-- what the code has made of it, by the record's numbers where it is kept
abbrev pub erased_to : Erased → LineErased
erased_to (Kept numbers) = kept_as (line_of numbers)
erased_to (Struck o) = struck_from o

-- a line by the origins of the lines before it: where it is kept, with its operands' origins as operands
abbrev pub erased_by : List ℕ → Line → LineErased
erased_by origins x =
    let first = get_or origins (first_operand x) 0 in
    cond (is_struck x) (struck_from first) (kept_as (with_operands x first (get_or origins (second_operand x) 0)))
