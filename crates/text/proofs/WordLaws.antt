-- What the table of words says of every word, and a line as its word and its numbers. Assumes nothing.
use mathlib.Core.Path.{◌≡◌, refl, ap}
use mathlib.Core.Bool.{Bool, true, false, not, ◌||◌}
use mathlib.Core.List.{List}
use mathlib.Core.Option.{Option, none, some}
use lib.Dec.{T}
use lib.IntN.{ℤ}
use Rattle.fields.specs.Pieces.{same_bytes}
use Rattle.rows.specs.Forms.{named}
use Rattle.rows.proofs.FieldLaws.{Held, number, Fields, no_field, field}
use Rattle.rows.proofs.FormLaws.{Letters, letters, letters_are}
use Rattle.model.specs.declared.Grammar.{Grammar}
use Rattle.model.specs.declared.Grammar.TheVariants.{Circuit, Schedule}
use Rattle.model.specs.declared.Line.{Line}
use Rattle.model.specs.declared.Line.TheVariants.{In, Const, Neg, Rot, Add, Mul, Out, Enc, Rs, Ms, Us, Free}
use Rattle.model.specs.declared.Word as Words
use Rattle.model.specs.declared.Word.{Word}
use Rattle.model.specs.Words.{entry, words, has_word}
use Rattle.model.specs.Numbering.{same_word}
use Rattle.model.specs.Files.{said, line_of, row_of}
use Rattle.rows.specs.Forms.{saying}
use Rattle.model.proofs.EveryWord.{every, every_word_lem, same_word_lem}
use Rattle.text.specs.Files.{header_word, vocabulary}

-- ---- facts about every word, each a test over the table
pub word_letters : (w : Word) → Letters (entry w).bytes
word_letters w = letters_are (entry w).bytes (every_word_lem (λ v. letters (entry v).bytes) tt w)

pub header_letters : (g : Grammar) → Letters (header_word g)
header_letters Circuit = letters_are (header_word Circuit) tt
header_letters Schedule = letters_are (header_word Schedule) tt

-- a test where a word is one of a file's
implies : (a b : Bool) → T (not a || b) → T a → T b
implies true b t u = t
implies false b t u = absurd u

abbrev pub every_of : Grammar → (Word → Bool) → Bool
every_of g p = every (λ w. not (has_word g w) || p w)

pub word_of_lem : (g : Grammar) (p : Word → Bool) → T (every_of g p) → (w : Word) → T (has_word g w) → T (p w)
word_of_lem g p t w = implies (has_word g w) (p w) (every_word_lem (λ v. not (has_word g v) || p v) t w)

pub any_word : (g : Grammar) (w : Word) → T (has_word g w) → T (has_word Schedule w)
any_word Circuit w t = word_of_lem Circuit (has_word Schedule) tt w t
any_word Schedule w t = t

abbrev is_named : Word → Option Word → Bool
is_named w none = false
is_named w (some v) = same_word v w

-- the bytes of a word name it, and no other
pub named_word : (w : Word) → T (has_word Schedule w) → named vocabulary words (entry w).bytes ≡ some w
unfolding named same_bytes
named_word w t = go (named vocabulary words (entry w).bytes) (word_of_lem Schedule (λ v. is_named v (named vocabulary words (entry v).bytes)) tt w t)
  where
    go : (o : Option Word) → T (is_named w o) → o ≡ some w
    go none u = absurd u
    go (some v) u = ap some (same_word_lem v w u)

-- ---- the numbers of a line are those of its word's fields, and make the line again
pub said_held : (x : Line) → Fields Held (row_of x).fields (said x).numbers
said_held In = no_field
said_held (Const k) = field (number k) no_field
said_held (Neg a) = field (number a) no_field
said_held (Rot a t) = field (number a) (field tt no_field)
said_held (Add a b) = field (number a) (field (number b) no_field)
said_held (Mul a b) = field (number a) (field (number b) no_field)
said_held (Out a) = field (number a) no_field
said_held (Enc a s e) = field (number a) (field (number s) (field (number e) no_field))
said_held (Rs a c) = field (number a) (field (number c) no_field)
said_held (Ms a c) = field (number a) (field (number c) no_field)
said_held (Us a b) = field (number a) (field (number b) no_field)
said_held Free = no_field

pub said_line : (w : Word) {ns : List ℤ} → Fields Held (entry w).fields ns → said (line_of w ns) ≡ saying w ns
said_line Words.TheVariants.In no_field = refl
said_line Words.TheVariants.Const (field (number k) no_field) = refl
said_line Words.TheVariants.Neg (field (number a) no_field) = refl
said_line Words.TheVariants.Rot (field (number a) (field t no_field)) = refl
said_line Words.TheVariants.Add (field (number a) (field (number b) no_field)) = refl
said_line Words.TheVariants.Mul (field (number a) (field (number b) no_field)) = refl
said_line Words.TheVariants.Out (field (number a) no_field) = refl
said_line Words.TheVariants.Enc (field (number a) (field (number s) (field (number e) no_field))) = refl
said_line Words.TheVariants.Rs (field (number a) (field (number c) no_field)) = refl
said_line Words.TheVariants.Ms (field (number a) (field (number c) no_field)) = refl
said_line Words.TheVariants.Us (field (number a) (field (number b) no_field)) = refl
said_line Words.TheVariants.NoWord no_field = refl
