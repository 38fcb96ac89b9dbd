-- The form of a line: how it is read, and how it is written. "fields parted by one tab"
use Rattle.std.specs.Prelude.{cond, List, [], ◌∷◌, map, ℤ}
use Rattle.std.proofs.Math.Option
use Rattle.std.proofs.Math.Option.{Option, none, some}
use Rattle.fields.specs.Pieces.{Bytes, tab, split, join, same_bytes}
use Rattle.fields.specs.Numbers.{amount_text}
use Rattle.rows.specs.Fields.{Holds, read_fields}

-- what a line's bytes are, if it is of the form, and its bytes, both without the line feed
pub record Form (A : Type 0) : Type 0 where
  pub reads : Bytes → Option A
  pub text : A → Bytes

-- a word and the numbers of the fields after it
abbrev pub said_text : Bytes → List ℤ → Bytes
said_text word ns = join tab (word ∷ map amount_text ns)

-- ---- lines that begin with one word
abbrev pub after_word : Bytes → List Holds → List Bytes → Option (List ℤ)
after_word word fs [] = none
after_word word fs (field ∷ fields) = cond (same_bytes field word) (read_fields fs fields) none

abbrev pub titled : Bytes → List Holds → Form (List ℤ)
titled word fs = record { reads = λ p. after_word word fs (split tab p); text = said_text word }

-- ---- lines of one form, or else of another that is written in the same way
abbrev pub or_else : {A : Type 0} → Option A → Option A → Option A
or_else none other = other
or_else (some x) other = some x

abbrev pub either : {A : Type 0} → Form A → Form A → Form A
either one other = record { reads = λ p. or_else (one.reads p) (other.reads p); text = one.text }

-- ---- lines that begin with one of several words
-- words, each with its bytes and what the fields after it hold
pub record Vocabulary (W : Type 0) : Type 0 where
  pub words : List W
  pub bytes : W → Bytes
  pub fields : W → List Holds

pub record Said (W : Type 0) : Type 0 where
  pub word : W
  pub numbers : List ℤ

abbrev pub saying : {W : Type 0} → W → List ℤ → Said W
saying w ns = record { word = w; numbers = ns }

module _ {W : Type 0} (v : Vocabulary W) where
  -- the first of the words that has these bytes
  unfoldable pub named : List W → Bytes → Option W
  named [] field = none
  named (w ∷ ws) field = cond (same_bytes field (v.bytes w)) (some w) (named ws field)

  abbrev pub read_said : List Bytes → Option (Said W)
  read_said [] = none
  read_said (field ∷ fields) =
      elim (named v.words field) [ none ↦ none | some w ↦ Option.map (saying w) (read_fields (v.fields w) fields) ]

abbrev pub worded : {W : Type 0} → Vocabulary W → Form (Said W)
worded v = record { reads = λ p. read_said v (split tab p); text = λ s. said_text (v.bytes s.word) s.numbers }

-- ---- the same lines as another type
abbrev pub made : {R A : Type 0} → (R → A) → (A → R) → Form R → Form A
made make take form = record { reads = λ p. Option.map make (form.reads p); text = λ x. form.text (take x) }
