-- The words' numbering, by which code and proofs tell them apart. No promise rests on it.
use Rattle.std.specs.Prelude.{ℕ, Bool, eqb}
use Rattle.model.specs.declared.Word.{Word}
use Rattle.model.specs.declared.Word.TheVariants.{In, Const, Neg, Rot, Add, Mul, Out, Enc, Rs, Ms, Us, NoWord}

-- the place of a word in `Words.words`, and one past them for no word
abbrev pub order : Word → ℕ
order In = 0
order Const = 1
order Neg = 2
order Rot = 3
order Add = 4
order Mul = 5
order Out = 6
order Enc = 7
order Rs = 8
order Ms = 9
order Us = 10
order NoWord = 11

abbrev pub same_word : Word → Word → Bool
same_word v w = eqb (order v) (order w)
