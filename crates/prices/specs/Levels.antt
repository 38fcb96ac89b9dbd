-- A line by the level of its operand, as the code has it. No promise of a service rests on this.
use Rattle.std.specs.Prelude.{ℕ, ◌-◌, ◌≤◌, cond, ◌&&◌, List, [], ◌∷◌, ◌≡◌, T, length}
use Rattle.model.specs.declared.Header.{Header}
use Rattle.model.specs.declared.Line.{Line}
use Rattle.model.specs.declared.Line.TheVariants.{In, Const, Neg, Rot, Add, Mul, Out, Enc, Rs, Ms, Us, Free}
use Rattle.model.specs.declared.Grammar.TheVariants.{Schedule}
use Rattle.model.specs.declared.Kind.{Kind}
use Rattle.model.specs.Scales.{header_in_range}
use Rattle.model.specs.Files.{is_word, in_range, well_formed, is_ciphertext}
use Rattle.model.specs.Rules.{KeepsRules}
use Rattle.tables.specs.declared.Record.{Record}
use Rattle.tables.specs.Records.{lines_held}
use Rattle.prices.specs.Prices.{summed, starts_at}

-- the levels at which the operations of a line start, summed, where its operand has level l
unfoldable pub summed_starts : Line → ℕ → ℕ
summed_starts x l = summed (starts_at (λ a. l) x)

-- the levels that a line takes away
abbrev pub taken : Line → ℕ
taken In = 0
taken (Const k) = 0
taken (Neg a) = 0
taken (Rot a t) = 0
taken (Add a b) = 0
taken (Mul a b) = 0
taken (Out a) = 0
taken (Enc a s e) = 0
taken (Rs a c) = c
taken (Ms a c) = c
taken (Us a b) = 0
taken Free = 0

-- the level that a line has, where its operand has level l; a bare constant has none, and here it is 0
abbrev pub level_after : Header → Line → ℕ → ℕ
level_after h In l = h.top
level_after h (Const k) l = 0
level_after h (Neg a) l = l
level_after h (Rot a t) l = l
level_after h (Add a b) l = l
level_after h (Mul a b) l = l
level_after h (Out a) l = l
level_after h (Enc a s e) l = e
level_after h (Rs a c) l = l - c
level_after h (Ms a c) l = l - c
level_after h (Us a b) l = l
level_after h Free l = 0

-- A table that holds a schedule whose lines keep the rules.
pub record RuledTable (h : Header) (records : List Record) (count : ℕ) : Type 0 where
  pub room : length records ≡ 1792
  pub few : count ≤ 1792
  pub formed : T (well_formed Schedule h (lines_held records count))
  pub keeps : KeepsRules h (lines_held records count)

-- a line whose numbers are in their ranges, under a header whose numbers are, and where its operand has level l there are the levels that it takes
pub record OnLevel (h : Header) (x : Line) (l : ℕ) : Type 0 where
  pub header_range : T (header_in_range h)
  pub word : T (is_word Schedule x)
  pub range : T (in_range h x)
  pub low : taken x ≤ l
  pub high : l ≤ 60

-- the prices per level by kind of operation, which is the number of the word; last that of a product with a constant
abbrev pub prices : List ℕ
prices = 0 ∷ 0 ∷ 0 ∷ 1 ∷ 32 ∷ 1 ∷ 40 ∷ 0 ∷ 2 ∷ 6 ∷ 1 ∷ 4 ∷ 4 ∷ []

-- the kind of a product: of two ciphertexts, or with a constant
abbrev pub product_of : Kind → Kind → ℕ
product_of j k = cond (is_ciphertext j && is_ciphertext k) 6 12
