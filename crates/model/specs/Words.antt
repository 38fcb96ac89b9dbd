-- Document 01, "The two files": the words of lines as one table. What follows from a word alone stands in its row: its bytes, the files
-- that have it, what its fields hold and within which ranges, the kind of its value, and what it asks of its operands'
-- kinds. Whether erasing keeps it follows from the files that have it.
use Rattle.std.specs.Prelude.{ℕ, Bool, true, false, cond, List, [], ◌∷◌, ℤ, pos}
use Prim.Native.Char.{code}
use Prim.Native.String as Text
use Prim.Native.String.{String}
use Rattle.ints.specs.Parts.{positive}
use Rattle.rows.specs.Fields.{Holds, operand, ranged, up_to_top, amount}
use Rattle.model.specs.declared.Grammar.{Grammar}
use Rattle.model.specs.declared.Grammar.TheVariants.{Circuit, Schedule}
use Rattle.model.specs.declared.Kind.{Kind}
use Rattle.model.specs.declared.Kind.TheVariants.{Ciphertext, Constant, Encoded, Nothing}
use Rattle.model.specs.declared.Word.{Word}
use Rattle.model.specs.declared.Word.TheVariants.{In, Const, Neg, Rot, Add, Mul, Out, Enc, Rs, Ms, Us, NoWord}

-- the bytes of a text
abbrev pub ascii : String → List ℕ
ascii Text.[] = []
ascii (Text.◌∷◌ c rest) = code c ∷ ascii rest

-- What a word asks of its operands: nothing, where it has none; a ciphertext; a constant; or a pair, of which one is a ciphertext.
pub data Asks : Type 0 where
  no_operand a_ciphertext a_constant a_pair : Asks

pub record Entry : Type 0 where
  pub bytes : List ℕ
  pub circuit : Bool
  pub schedule : Bool
  pub fields : List Holds
  pub kind : Kind
  pub asks : Asks

-- "Schedule: … those above and …": a circuit's word, which a schedule has too; a schedule's own
abbrev pub shared : String → List Holds → Kind → Asks → Entry
shared word fs k a = record { bytes = ascii word; circuit = true; schedule = true; fields = fs; kind = k; asks = a }

abbrev pub own : String → List Holds → Kind → Asks → Entry
own word fs k a = record { bytes = ascii word; circuit = false; schedule = true; fields = fs; kind = k; asks = a }

-- Circuit: "`in`: a ciphertext input. `const K`: constant number K … `neg A`. `rot A T` … T from −32767 to 32767. `add A B`. `mul A B`.
-- `out A`." Schedule: "those above and `enc A S E` (constant A encoded at scale S, 1 to 3600, level E, 1 to L), `rs A C` (C rescales, 1 to
-- 60), `ms A C` (C modswitches, 1 to 60), `us A B` (scale raised by B bits, 1 to 3600)." "Kinds: `neg`, `rot`, `out`, `rs`, `ms`, `us` take
-- a ciphertext and `enc` a constant. `add` and `mul` take two ciphertexts, or …" Document 02, Job 1: "A constant number runs from 0 to
-- 4294967295."
abbrev pub entry : Word → Entry
entry In = shared "in" [] Ciphertext no_operand
entry Const = shared "const" (ranged 0 4294967295 ∷ []) Constant no_operand
entry Neg = shared "neg" (operand ∷ []) Ciphertext a_ciphertext
entry Rot = shared "rot" (operand ∷ amount 32767 ∷ []) Ciphertext a_ciphertext
entry Add = shared "add" (operand ∷ operand ∷ []) Ciphertext a_pair
entry Mul = shared "mul" (operand ∷ operand ∷ []) Ciphertext a_pair
entry Out = shared "out" (operand ∷ []) Nothing a_ciphertext
entry Enc = own "enc" (operand ∷ ranged 1 3600 ∷ up_to_top ∷ []) Encoded a_constant
entry Rs = own "rs" (operand ∷ ranged 1 60 ∷ []) Ciphertext a_ciphertext
entry Ms = own "ms" (operand ∷ ranged 1 60 ∷ []) Ciphertext a_ciphertext
entry Us = own "us" (operand ∷ ranged 1 3600 ∷ []) Ciphertext a_ciphertext
entry NoWord = record { bytes = []; circuit = false; schedule = false; fields = []; kind = Nothing; asks = no_operand }

-- all words
abbrev pub words : List Word
words = In ∷ Const ∷ Neg ∷ Rot ∷ Add ∷ Mul ∷ Out ∷ Enc ∷ Rs ∷ Ms ∷ Us ∷ []

-- whether a file has the word
abbrev pub has_word : Grammar → Word → Bool
has_word Circuit w = (entry w).circuit
has_word Schedule w = (entry w).schedule

-- whether a field holds a value number
abbrev pub is_operand : Holds → Bool
is_operand operand = true
is_operand (ranged low high) = false
is_operand up_to_top = false
is_operand (amount most) = false

-- the value numbers among the numbers of a line's fields, in their order
abbrev pub operands_among : List Holds → List ℤ → List ℕ
operands_among [] ns = []
operands_among (f ∷ fs) [] = []
operands_among (f ∷ fs) (n ∷ ns) = cond (is_operand f) (positive n ∷ operands_among fs ns) (operands_among fs ns)

-- the numbers with other value numbers among them
abbrev pub renumber : (ℕ → ℕ) → List Holds → List ℤ → List ℤ
renumber name [] ns = []
renumber name (f ∷ fs) [] = []
renumber name (f ∷ fs) (n ∷ ns) = cond (is_operand f) (pos (name (positive n))) n ∷ renumber name fs ns
