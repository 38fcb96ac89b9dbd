-- Words and lines by their rows: a fact about every word is one test computed over the table; a word is known by its number, and a line by its
-- word and its numbers. Assumes nothing.
use Prim.Native.Nat.{ℕ, zero, suc}
use mathlib.Core.Path.{◌≡◌, refl, sym, ap, ◌∙◌, subst}
use mathlib.Core.Bool.{Bool, true, ◌&&◌}
use mathlib.Core.List.{List, [], ◌∷◌, ◌++◌, map}
use lib.Dec.{T, eqb→eq}
use lib.IntN.{ℤ}
use lib.ListN.{get_or}
use Rattle.model.specs.declared.Line.{Line}
use Rattle.model.specs.declared.Line.TheVariants as Lines
use Rattle.model.specs.declared.Word.{Word}
use Rattle.model.specs.declared.Word.TheVariants.{In, Const, Neg, Rot, Add, Mul, Out, Enc, Rs, Ms, Us, NoWord}
use Rattle.model.specs.Words.{words}
use Rattle.model.specs.Numbering.{order, same_word}
use Rattle.model.specs.Files.{said, line_of, word_of}
use Rattle.model.proofs.Tests.{and_first, and_second}

-- ---- a word is known by its number
-- what is told of each word, in their order; of no word last
abbrev pub table : {A : Type 0} → (Word → A) → List A
table f = map f words ++ (f NoWord ∷ [])

row_at : {A : Type 0} (f : Word → A) (d : A) (w : Word) → get_or (table f) (order w) d ≡ f w
row_at f d In = refl
row_at f d Const = refl
row_at f d Neg = refl
row_at f d Rot = refl
row_at f d Add = refl
row_at f d Mul = refl
row_at f d Out = refl
row_at f d Enc = refl
row_at f d Rs = refl
row_at f d Ms = refl
row_at f d Us = refl
row_at f d NoWord = refl

word_at : (w : Word) → get_or (table (λ v. v)) (order w) NoWord ≡ w
word_at w = row_at (λ v. v) NoWord w

pub same_word_lem : (v w : Word) → T (same_word v w) → v ≡ w
same_word_lem v w t = sym (word_at v) ∙ ap (λ (n : ℕ). get_or (table (λ v. v)) n NoWord) (eqb→eq (order v) (order w) t) ∙ word_at w

-- ---- what is told of every word: where two tables are one, the same is told; a test that is passed throughout its table is passed
pub each_word : {A : Type 0} (f g : Word → A) → table f ≡ table g → (w : Word) → f w ≡ g w
each_word f g e w = sym (row_at f (f w) w) ∙ ap (λ l. get_or l (order w) (f w)) e ∙ row_at g (f w) w

abbrev pub all : List Bool → Bool
all [] = true
all (b ∷ bs) = b && all bs

abbrev pub every : (Word → Bool) → Bool
every p = all (table p)

pub every_word_lem : (p : Word → Bool) → T (every p) → (w : Word) → T (p w)
every_word_lem p t w = subst T (row_at p true w) (at (table p) (order w) t)
  where
    at : (bs : List Bool) (n : ℕ) → T (all bs) → T (get_or bs n true)
    at [] n u = tt
    at (b ∷ bs) zero u = and_first b (all bs) u
    at (b ∷ bs) (suc n) u = at bs n (and_second b (all bs) u)

-- ---- a line is known by its word and its numbers
pub line_said : (x : Line) → line_of (word_of x) (said x).numbers ≡ x
line_said Lines.In = refl
line_said (Lines.Const k) = refl
line_said (Lines.Neg a) = refl
line_said (Lines.Rot a t) = refl
line_said (Lines.Add a b) = refl
line_said (Lines.Mul a b) = refl
line_said (Lines.Out a) = refl
line_said (Lines.Enc a s e) = refl
line_said (Lines.Rs a c) = refl
line_said (Lines.Ms a c) = refl
line_said (Lines.Us a b) = refl
line_said Lines.Free = refl

-- where two functions tell the same of each word's line, whatever its numbers are, they tell the same of every line
pub each_line : {A : Type 0} (f g : Line → A) → ((ns : List ℤ) → table (λ w. f (line_of w ns)) ≡ table (λ w. g (line_of w ns))) → (x : Line) → f x ≡ g x
each_line f g e x =
    let ns = (said x).numbers in
    ap f (sym (line_said x)) ∙ each_word (λ w. f (line_of w ns)) (λ w. g (line_of w ns)) (e ns) (word_of x) ∙ ap g (line_said x)
