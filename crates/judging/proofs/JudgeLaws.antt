-- Operands and kinds of a line, by its word and the numbers after it, and its numbers in a record. Assumes nothing.
use Prim.Native.Nat.{ℕ, ◌+◌}
use native.Mathlib.Omega.{arith}
use mathlib.Core.Path.{◌≡◌, refl, sym, ap, ap₂, ◌∙◌, subst}
use mathlib.Core.Bool.{Bool, true, false, ◌&&◌}
use mathlib.Core.List.{List, [], ◌∷◌, map}
use borrow.Author.Rules.{rules}
use borrow.Author.Tests.{not-true, not-false}
use lib.Dec.{T}
use lib.IntN.{ℤ, pos, negsuc, nat_abs}
use lib.Signed.{non_neg}
use lib.ListN.{get_or}
use mir.Syntax.{w16, w32, w64}
use mir.Val.{Fits, SFits, to_z, of_z}
use mir.ValLaws.{to_z-of_z}
use Rattle.ints.specs.Parts.{positive}
use Rattle.rows.specs.Rows as Rows
use Rattle.rows.specs.Rows.{place_of, refused, judged}
use Rattle.model.specs.declared.Grammar.{Grammar}
use Rattle.model.specs.declared.Kind.TheVariants.{Nothing}
use Rattle.model.specs.declared.Line.{Line}
use Rattle.model.specs.declared.Line.TheVariants as Lines
use Rattle.model.specs.declared.Word.{Word}
use Rattle.model.specs.declared.Word.TheVariants.{Const, Rot}
use Rattle.model.specs.Refusals.{number_of}
use Rattle.model.specs.Words.{Asks, no_operand, a_ciphertext, a_constant, a_pair, entry}
use Rattle.model.specs.Numbering.{same_word}
use Rattle.model.specs.Files.{line_of, operands, kind_at, is_usable, every_usable, asks_for, kinds_fit}
use Rattle.model.proofs.EveryWord.{each_word, same_word_lem}
use Rattle.tables.specs.declared.Record.{Record}
use Rattle.tables.specs.Records as Records
use Rattle.tables.specs.Records.{amount_from, second_held, line_with}
use Rattle.tables.proofs.Words.{line_word}
use Rattle.words.specs.declared.OperandsAsked.{OperandsAsked}
use Rattle.words.specs.declared.OperandsAsked.TheVariants.{NoOperand, Ciphertext, Constant, Pair}
use Rattle.words.specs.Words.{operands_asked, row_of}
use Rattle.model.specs.declared.Fault.{Fault}
use Rattle.model.specs.declared.Fault.TheVariants.{NoUsableLine, WrongKind}
use Rattle.judging.specs.declared.StoredLine.{StoredLine}
use Rattle.std.specs.Prelude.{Result, Ok, Err}
use Rattle.judging.specs.Judging.{fitness, usable_by, kinds_fit_by, fitness_by, NumbersFit, line_read, line_stored, line_to, judged_as}

ap₃ : {A B C D : Type 0} (f : A → B → C → D) {x x' : A} {y y' : B} {z z' : C} → x ≡ x' → y ≡ y' → z ≡ z' → f x y z ≡ f x' y' z'
ap₃ f p q r = λ i. f (p i) (q i) (r i)

-- ---- a number that has no sign, as the machine holds it
module _ (z : ℤ) (s : SFits w64 z) (n : T (non_neg z)) where
  held : to_z w64 (of_z w64 z) ≡ z
  held = to_z-of_z w64 z s

  pub natural_unsigned : T (non_neg (to_z w64 (of_z w64 z)))
  natural_unsigned = rw held n

  pub natural_fits : Fits w64 (nat_abs (to_z w64 (of_z w64 z)))
  natural_fits = rw held (wide z s n)
    where
      wide : (z : ℤ) → SFits w64 z → T (non_neg z) → Fits w64 (nat_abs z)
      wide (pos m) s n = let few = s.sfits in record { fits = omega arith }
      wide (negsuc m) s n = absurd n

  magnitude : nat_abs (to_z w64 (of_z w64 z)) ≡ positive z
  magnitude = ap nat_abs held ∙ same z n
    where
      same : (z : ℤ) → T (non_neg z) → nat_abs z ≡ positive z
      same (pos m) n = refl
      same (negsuc m) n = absurd n

  whole : pos (nat_abs (to_z w64 (of_z w64 z))) ≡ z
  whole = ap (λ (y : ℤ). pos (nat_abs y)) held ∙ same z n
    where
      same : (z : ℤ) → T (non_neg z) → pos (nat_abs z) ≡ z
      same (pos m) n = refl
      same (negsuc m) n = absurd n

-- ---- all numbers in a record; the machine holds each as it is
abbrev machine : ℤ → ℤ
machine z = to_z w64 (of_z w64 z)

module _ (w : Word) (a b c : ℤ) (sa : SFits w64 a) (sb : SFits w64 b) (sc : SFits w64 c) (fit : NumbersFit w a b c) (t : Bool) (q : t ≡ same_word w Const) where
  pub first_unsigned : T (non_neg (machine a))
  first_unsigned = natural_unsigned a sa fit.one.unsigned

  -- a constant number in two of them
  module _ (h : t ≡ true) where
    pub constant_fits : Fits w32 (nat_abs (machine a))
    constant_fits = rw (to_z-of_z w64 a sa) (fit.one.constant (sym q ∙ h))

    pub constant_line : (r : Record) → Records.line_of r ≡ Lines.Const (nat_abs (machine a)) → (end : ℕ) →
        line_stored (record { held = r; end = end }) ≡ (line_of w (a ∷ b ∷ c ∷ []), end)
    constant_line r is end =
        rw (same_word_lem w Const (subst T (sym h ∙ q) tt))
        (ap (λ (x : Line). (x, end)) (is ∙ ap Lines.Const (magnitude a sa fit.one.unsigned)))

  module _ (h : t ≡ false) where
    pub first_fits : Fits w16 (nat_abs (machine a))
    first_fits = rw (to_z-of_z w64 a sa) (fit.one.number (sym q ∙ h))

    pub third_unsigned : T (non_neg (machine c))
    third_unsigned = natural_unsigned c sc fit.three.unsigned

    pub third_fits : Fits w16 (nat_abs (machine c))
    third_fits = rw (to_z-of_z w64 c sc) fit.three.fits

    pub stored_lem : (r : Record) (m : ℕ) → second_held w m ≡ machine b → Records.line_of r ≡ line_with w (nat_abs (machine a)) m (nat_abs (machine c)) →
        (end : ℕ) → line_stored (record { held = r; end = end }) ≡ (line_of w (a ∷ b ∷ c ∷ []), end)
    stored_lem r m e is end =
        rw is
        (rw (← q, h)
        (ap₃ (λ (x y z : ℤ). (line_of w (x ∷ y ∷ z ∷ []), end)) (whole a sa fit.one.unsigned) (e ∙ to_z-of_z w64 b sb) (whole c sc fit.three.unsigned)))

pub ruleset stored_laws = (rules, not-true, not-false, first_unsigned, constant_fits, constant_line, first_fits, third_unsigned, third_fits, stored_lem)

-- ---- a line's operands are its first numbers, by what its word asks
abbrev operands_by : OperandsAsked → ℕ → ℕ → List ℕ
operands_by NoOperand a b = []
operands_by Ciphertext a b = a ∷ []
operands_by Constant a b = a ∷ []
operands_by Pair a b = a ∷ b ∷ []

operands_are : (a b c : ℤ) (w : Word) → operands (line_of w (a ∷ b ∷ c ∷ [])) ≡ operands_by (row_of w).asks (positive a) (positive b)
operands_are a b c w = each_word (λ v. operands (line_of v (a ∷ b ∷ c ∷ []))) (λ v. operands_by (row_of v).asks (positive a) (positive b)) refl w

and_true : (b : Bool) → (b && true) ≡ b
and_true true = refl
and_true false = refl

usable_operands : (lines : List Line) (o : OperandsAsked) (a b : ℕ) → every_usable lines (operands_by o a b) ≡ usable_by o (kind_at lines a) (kind_at lines b)
usable_operands lines NoOperand a b = refl
usable_operands lines Ciphertext a b = and_true (is_usable (kind_at lines a))
usable_operands lines Constant a b = and_true (is_usable (kind_at lines a))
usable_operands lines Pair a b = ap (λ (u : Bool). is_usable (kind_at lines a) && u) (and_true (is_usable (kind_at lines b)))

fit_asked : (g : Grammar) (lines : List Line) (s : Asks) (a b : ℕ) →
    asks_for g s (get_or (map (kind_at lines) (operands_by (operands_asked s) a b)) 0 Nothing) (get_or (map (kind_at lines) (operands_by (operands_asked s) a b)) 1 Nothing)
    ≡ kinds_fit_by g (operands_asked s) (kind_at lines a) (kind_at lines b)
fit_asked g lines no_operand a b = refl
fit_asked g lines a_ciphertext a b = refl
fit_asked g lines a_constant a b = refl
fit_asked g lines a_pair a b = refl

-- no line asks for more than three numbers
first_three : (w : Word) (ns : List ℤ) → line_of w ns ≡ line_of w (get_or ns 0 (pos 0) ∷ get_or ns 1 (pos 0) ∷ get_or ns 2 (pos 0) ∷ [])
first_three w ns = each_word (λ v. line_of v ns) (λ v. line_of v (get_or ns 0 (pos 0) ∷ get_or ns 1 (pos 0) ∷ get_or ns 2 (pos 0) ∷ [])) refl w

pub line_of_three : (w : Word) (ns : List ℤ) {a b c : ℤ} → a ≡ get_or ns 0 (pos 0) → b ≡ get_or ns 1 (pos 0) → c ≡ get_or ns 2 (pos 0) → line_of w (a ∷ b ∷ c ∷ []) ≡ line_of w ns
line_of_three w ns p q r = ap₃ (λ (x y z : ℤ). line_of w (x ∷ y ∷ z ∷ [])) p q r ∙ sym (first_three w ns)

-- ---- the verdict, test by test
module _ (g : Grammar) (w : Word) (a b c : ℤ) (sa : SFits w64 a) (sb : SFits w64 b) (lines : List Line) where
  every_usable_lem : every_usable lines (operands (line_of w (a ∷ b ∷ c ∷ []))) ≡ usable_by (row_of w).asks (kind_at lines (positive a)) (kind_at lines (positive b))
  every_usable_lem = ap (every_usable lines) (operands_are a b c w) ∙ usable_operands lines (row_of w).asks (positive a) (positive b)

  kinds_fit_lem : kinds_fit g lines (line_of w (a ∷ b ∷ c ∷ [])) ≡ kinds_fit_by g (row_of w).asks (kind_at lines (positive a)) (kind_at lines (positive b))
  kinds_fit_lem =
      ap₂ (λ (s : Asks) (l : List ℕ). asks_for g s (get_or (map (kind_at lines) l) 0 Nothing) (get_or (map (kind_at lines) l) 1 Nothing))
      (ap (λ (v : Word). (entry v).asks) (line_word w (a ∷ b ∷ c ∷ []))) (operands_are a b c w)
      ∙ fit_asked g lines (entry w).asks (positive a) (positive b)

  module _ (asked : OperandsAsked) (i : asked ≡ (row_of w).asks) (f : Result (Unit {0}) Fault)
      (q : f ≡ fitness_by g asked (kind_at lines (positive (machine a))) (kind_at lines (positive (machine b)))) where
    abbrev usable : Bool
    usable = every_usable lines (operands (line_of w (a ∷ b ∷ c ∷ [])))

    abbrev kinds : Bool
    kinds = kinds_fit g lines (line_of w (a ∷ b ∷ c ∷ []))

    found : fitness usable kinds ≡ f
    found =
        ap₂ fitness every_usable_lem kinds_fit_lem
        ∙ sym (q ∙ ap₃ (λ (v : OperandsAsked) (x y : ℤ). fitness_by g v (kind_at lines (positive x)) (kind_at lines (positive y))) i (to_z-of_z w64 a sa) (to_z-of_z w64 b sb))

    -- each refusal is the one that the tests find
    pub not_fit : (n end : ℕ) (fault : Fault) → f ≡ Err fault → refused (number_of fault) (n + 2) ≡ line_to (place_of n) end (judged_as g lines (line_of w (a ∷ b ∷ c ∷ [])))
    unfolding judged_as
    not_fit n end fault e = go usable kinds (found ∙ e)
      where
        go : (u k : Bool) → fitness u k ≡ Err fault → refused (number_of fault) (n + 2) ≡ line_to (place_of n) end (judged ((4, u) ∷ (5, k) ∷ []) (line_of w (a ∷ b ∷ c ∷ [])))
        go false k e = let is : NoUsableLine ≡ fault = cc in rw (← is)
        go true false e = let is : WrongKind ≡ fault = cc in rw (← is)
        go true true e = absurd (let z : ◌≡◌ {A = ℕ} 0 1 = cc in omega arith)

    pub fits : (n end : ℕ) (r : StoredLine) → f ≡ Ok tt → line_stored r ≡ (line_of w (a ∷ b ∷ c ∷ []), end)
        → line_read (Ok r) ≡ line_to (place_of n) end (judged_as g lines (line_of w (a ∷ b ∷ c ∷ [])))
    unfolding judged_as
    fits n end r e is = go usable kinds (found ∙ e)
      where
        go : (u k : Bool) → fitness u k ≡ Ok tt → line_read (Ok r) ≡ line_to (place_of n) end (judged ((4, u) ∷ (5, k) ∷ []) (line_of w (a ∷ b ∷ c ∷ [])))
        go false k e = absurd (let z : ◌≡◌ {A = ℕ} 0 1 = cc in omega arith)
        go true false e = absurd (let z : ◌≡◌ {A = ℕ} 0 1 = cc in omega arith)
        go true true e = ap (λ (x : Line × ℕ). Rows.read x) is

pub second_asked : (w : Word) (a b c : ℤ) → NumbersFit w a b c → SFits w64 b → (ops : OperandsAsked) → ops ≡ (row_of w).asks → ops ≡ Pair → T (non_neg (machine b))
second_asked w a b c fit s ops i e = natural_unsigned b s (fit.two.number (go (same_word w Rot) refl)).unsigned
  where
    go : (u : Bool) → same_word w Rot ≡ u → same_word w Rot ≡ false
    go false q = q
    go true q =
        let rot : w ≡ Rot = same_word_lem w Rot (subst T (sym q) tt) in
        let other : Ciphertext ≡ Pair = ap (λ (v : Word). (row_of v).asks) (sym rot) ∙ sym i ∙ e in
        absurd (let z : ◌≡◌ {A = ℕ} 0 1 = cc in omega arith)

pub first_asked : (w : Word) (a b c : ℤ) → NumbersFit w a b c → SFits w64 a → T (non_neg (machine a))
first_asked w a b c fit s = natural_unsigned a s fit.one.unsigned

pub ruleset verdicts = (rules, not-true, not-false, first_asked, second_asked, not_fit, fits)
