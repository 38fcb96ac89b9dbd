-- What the code uses: a line's operands and kinds, by its word and the kinds of what its first two numbers name, which numbers fit a
-- record, and what an answer says of a line.
use Rattle.std.specs.Prelude.{Result, Ok, Err, ℕ, Bool, true, false, cond, ◌&&◌, List, [], ◌∷◌, ◌≡◌, T, ℤ, nat_abs}
use Rattle.std.specs.Int.Signed.{non_neg}
use Rattle.std.specs.Int.{w16, w32}
use Rattle.std.proofs.Common.{Fits, SFits}
use Rattle.rows.specs.Rows.{Judgement, Reading, read, refused, Tests, judged, at}
use Rattle.model.specs.declared.Grammar.{Grammar}
use Rattle.model.specs.declared.Line.{Line}
use Rattle.model.specs.declared.Kind.{Kind}
use Rattle.model.specs.declared.Word.{Word}
use Rattle.model.specs.declared.Fault.{Fault}
use Rattle.model.specs.declared.Fault.TheVariants.{NoUsableLine, WrongKind}
use Rattle.model.specs.declared.Refusal.{Refusal}
use Rattle.model.specs.Refusals.{number_of}
use Rattle.model.specs.declared.Word.TheVariants.{Const, Rot}
use Rattle.model.specs.Words.{no_operand, a_ciphertext, a_constant, a_pair}
use Rattle.model.specs.Numbering.{same_word}
use Rattle.model.specs.Files.{operands, is_usable, every_usable, asks_for, kinds_fit}
use Rattle.tables.specs.Records as Records
use Rattle.words.specs.declared.OperandsAsked.{OperandsAsked}
use Rattle.words.specs.declared.OperandsAsked.TheVariants.{NoOperand, Ciphertext, Constant, Pair}
use Rattle.judging.specs.declared.StoredLine.{StoredLine}

-- ---- what the operands are to a line
-- by whether the operands are usable, and then by whether their kinds fit
abbrev pub fitness : Bool → Bool → Result (Unit {0}) Fault
fitness usable fit = cond usable (cond fit (Ok tt) (Err WrongKind)) (Err NoUsableLine)

abbrev pub usable_by : OperandsAsked → Kind → Kind → Bool
usable_by NoOperand j k = true
usable_by Ciphertext j k = is_usable j
usable_by Constant j k = is_usable j
usable_by Pair j k = is_usable j && is_usable k

abbrev pub kinds_fit_by : Grammar → OperandsAsked → Kind → Kind → Bool
kinds_fit_by g NoOperand j k = asks_for g no_operand j k
kinds_fit_by g Ciphertext j k = asks_for g a_ciphertext j k
kinds_fit_by g Constant j k = asks_for g a_constant j k
kinds_fit_by g Pair j k = asks_for g a_pair j k

-- what operands of these kinds are to a line that asks so
abbrev pub fitness_by : Grammar → OperandsAsked → Kind → Kind → Result (Unit {0}) Fault
fitness_by g asked j k = fitness (usable_by asked j k) (kinds_fit_by g asked j k)

-- ---- a line's numbers
-- they fit what a record has for them: a constant number two of its numbers, a rotation's amount one with a sign, each other number one
pub record Natural (z : ℤ) : Type 0 where
  pub unsigned : T (non_neg z)
  pub fits : Fits w16 (nat_abs z)

pub record FirstFits (w : Word) (z : ℤ) : Type 0 where
  pub unsigned : T (non_neg z)
  pub constant : same_word w Const ≡ true → Fits w32 (nat_abs z)
  pub number : same_word w Const ≡ false → Fits w16 (nat_abs z)

pub record SecondFits (w : Word) (z : ℤ) : Type 0 where
  pub amount : same_word w Rot ≡ true → SFits w16 z
  pub number : same_word w Rot ≡ false → Natural z

pub record NumbersFit (w : Word) (first second third : ℤ) : Type 0 where
  pub one : FirstFits w first
  pub two : SecondFits w second
  pub three : Natural third

-- ---- what is found of a line
-- what an answer says: the line that its record holds and the place past it, or a refusal
abbrev pub line_stored : StoredLine → Line × ℕ
line_stored s = (Records.line_of s.held, s.end)

abbrev pub line_read : Result StoredLine Refusal → Reading (Line × ℕ)
line_read (Ok s) = read (line_stored s)
line_read (Err r) = refused (number_of r.fault) r.place

abbrev pub line_to : ℕ → ℕ → Judgement Line → Reading (Line × ℕ)
line_to place end j = at place j (λ x. read (x, end))

-- "per line … 4, 5"
abbrev pub operand_tests : Grammar → List Line → Line → Tests
operand_tests g done x = (4, every_usable done (operands x)) ∷ (5, kinds_fit g done x) ∷ []

unfoldable pub judged_as : Grammar → List Line → Line → Judgement Line
judged_as g done x = judged (operand_tests g done x) x
