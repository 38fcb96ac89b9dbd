-- What the code uses: the word of a line's first field, how it is found, and its row; also of a line of a listing.
use Rattle.std.specs.Prelude.{ℕ, ◌+◌, Bool, false, cond, List, [], ◌∷◌, ◌++◌, map, eqb, ltb, ℤ, pos, neg_ℤ, length, get_or}
use Rattle.std.proofs.Math.Option.{Option, none, some}
use Rattle.fields.specs.Pieces.{Bytes, same_bytes}
use Rattle.rows.specs.Fields.{Holds, operand, ranged, up_to_top, amount}
use Rattle.rows.specs.Forms.{Vocabulary, named}
use Rattle.model.specs.declared.Word.{Word}
use Rattle.model.specs.declared.Word.TheVariants.{In, Const, Neg, Rot, Add, Mul, Out, Enc, Rs, Ms, Us, NoWord}
use Rattle.model.specs.Words.{Asks, no_operand, a_ciphertext, a_constant, a_pair, entry, words, is_operand}
use Rattle.text.specs.Files.{vocabulary}
use Rattle.listings.specs.declared.Levels.{Levels}
use Rattle.listings.specs.declared.Levels.TheVariants.{Falling, Rising}
use Rattle.listings.specs.Listings.{ListedWord, word, ds, word_bytes, word_fields}
use Rattle.forms.specs.Along.{field_in}
use Rattle.words.specs.declared.OperandsAsked.{OperandsAsked}
use Rattle.words.specs.declared.OperandsAsked.TheVariants.{NoOperand, Ciphertext, Constant, Pair}
use Rattle.words.specs.declared.WordRow.{WordRow}
use Rattle.words.specs.declared.Spelled.{Spelled}
use Rattle.words.specs.declared.WordAt.{WordAt}

abbrev pub or_no_word : Option Word → Word
or_no_word none = NoWord
or_no_word (some w) = w

-- the word that a text's first field is
unfoldable pub word_in : Bytes → Word
word_in t = or_no_word (named vocabulary words (field_in t))

-- the first byte of a word
abbrev pub first_byte : Word → ℕ
first_byte w = get_or (entry w).bytes 0 0

-- the only word that a field with this first byte can be, by whether an `s` follows: `rs` and `rot` begin alike, and `ms` and `mul`
abbrev pub candidate_by : ℕ → Bool → Word
candidate_by first s =
    cond (eqb first (first_byte In)) In
    (cond (eqb first (first_byte Const)) Const
    (cond (eqb first (first_byte Neg)) Neg
    (cond (eqb first (first_byte Rot)) (cond s Rs Rot)
    (cond (eqb first (first_byte Add)) Add
    (cond (eqb first (first_byte Mul)) (cond s Ms Mul)
    (cond (eqb first (first_byte Out)) Out
    (cond (eqb first (first_byte Enc)) Enc
    (cond (eqb first (first_byte Us)) Us NoWord))))))))

unfoldable pub candidate_of : Bytes → Word
candidate_of t = cond (ltb (length t) 2) NoWord (candidate_by (get_or t 0 0) (eqb (get_or t 1 0) 115))

-- this word, if it is a text's first field, and the place past it
unfoldable pub word_if : Word → Bytes → Word
word_if w t = cond (same_bytes (field_in t) (entry w).bytes) w NoWord

abbrev pub spelled_at : ℕ → Word → Spelled
spelled_at at w = record { word = w; end = at + length (entry w).bytes }

-- ---- the row of a word in code
abbrev pub operands_asked : Asks → OperandsAsked
operands_asked no_operand = NoOperand
operands_asked a_ciphertext = Ciphertext
operands_asked a_constant = Constant
operands_asked a_pair = Pair

-- how many fields are operands
abbrev pub operands_in : List Holds → ℕ
operands_in [] = 0
operands_in (f ∷ fs) = cond (is_operand f) (1 + operands_in fs) (operands_in fs)

-- the least and the largest of the first field that is none; 0 where each is one
abbrev pub least_in : List Holds → ℤ
least_in [] = pos 0
least_in (operand ∷ fs) = least_in fs
least_in (ranged low high ∷ fs) = pos low
least_in (up_to_top ∷ fs) = pos 1
least_in (amount most ∷ fs) = neg_ℤ (pos most)

abbrev pub largest_in : List Holds → ℕ
largest_in [] = 0
largest_in (operand ∷ fs) = largest_in fs
largest_in (ranged low high ∷ fs) = high
largest_in (up_to_top ∷ fs) = 0
largest_in (amount most ∷ fs) = most

-- of a word that has these fields and asks this of its operands
abbrev pub row_with : List Holds → Asks → WordRow
row_with fs asks =
    record {
      fields = length fs;
      operands = operands_in fs;
      least = least_in fs;
      largest = largest_in fs;
      asks = operands_asked asks;
    }

abbrev pub row_of : Word → WordRow
row_of w = row_with (entry w).fields (entry w).asks

-- ---- the words of a file that counts levels so: `ds` where they rise
abbrev pub words_of : Levels → List ListedWord
words_of Falling = map word words
words_of Rising = map word words ++ (ds ∷ [])

abbrev pub vocabulary_of : Levels → Vocabulary ListedWord
vocabulary_of levels = record { words = words_of levels; bytes = word_bytes; fields = word_fields }

abbrev pub or_none : Option ListedWord → ListedWord
or_none none = word NoWord
or_none (some v) = v

-- the word that a text's first field is
unfoldable pub listed_in : Levels → Bytes → ListedWord
listed_in levels t = or_none (named (vocabulary_of levels) (words_of levels) (field_in t))

unfoldable pub begins_downscale : Levels → Bytes → Bool
begins_downscale Falling t = false
begins_downscale Rising t = same_bytes (field_in t) (word_bytes ds)

-- the word that a table holds it as, and its row in code
abbrev pub held_word : ListedWord → Word
held_word (word w) = w
held_word ds = Rs

abbrev pub row_in : ListedWord → WordRow
row_in v = row_with (word_fields v) (entry (held_word v)).asks

-- the word as the code has it, and from there the word: a `ds` has fewer fields than what it is held as
abbrev pub word_found : ListedWord → ℕ → WordAt
word_found v end = record { word = held_word v; row = row_in v; end = end }

abbrev pub listed_word : WordAt → ListedWord
listed_word found = cond (ltb found.row.fields (length (entry found.word).fields)) ds (word found.word)

abbrev pub past_word : ℕ → ListedWord → ℕ
past_word at v = at + length (word_bytes v)
