-- The values that a line names, each by itself.
use Rattle.std.specs.Prelude.{ℕ, List, [], ◌∷◌, get_or}
use Rattle.model.specs.declared.Line.{Line}
use Rattle.model.specs.declared.Line.TheVariants.{In, Const, Neg, Rot, Add, Mul, Out, Enc, Rs, Ms, Us, Free}
use Rattle.model.specs.Files.{operands}
use Rattle.operands.specs.declared.OperandsOf.{OperandsOf}
use Rattle.operands.specs.declared.OperandsOf.TheVariants.{None, One, Two}

-- the values that the code has taken out of a line, as the list of those that the line names
abbrev pub operands_in : OperandsOf → List ℕ
operands_in None = []
operands_in (One a) = a ∷ []
operands_in (Two a b) = a ∷ b ∷ []

-- 0 where a line names none
unfoldable pub first_operand : Line → ℕ
first_operand x = get_or (operands x) 0 0

unfoldable pub second_operand : Line → ℕ
second_operand x = get_or (operands x) 1 0

-- the line that names these values instead of its own
abbrev pub with_operands : Line → ℕ → ℕ → Line
with_operands In m n = In
with_operands (Const k) m n = Const k
with_operands (Neg a) m n = Neg m
with_operands (Rot a t) m n = Rot m t
with_operands (Add a b) m n = Add m n
with_operands (Mul a b) m n = Mul m n
with_operands (Out a) m n = Out m
with_operands (Enc a s e) m n = Enc m s e
with_operands (Rs a c) m n = Rs m c
with_operands (Ms a c) m n = Ms m c
with_operands (Us a b) m n = Us m b
with_operands Free m n = Free
