-- What the check finds of a ciphertext line, an `out` too, are the scale and the level of every way to keep the rules. Assumes nothing.
use Prim.Native.Nat.{ℕ, ◌<◌}
use native.Mathlib.Omega.{arith}
use mathlib.Core.Path.{◌≡◌, refl, sym, ap, ap₂, ◌∙◌, subst}
use mathlib.Core.Bool.{true, not, ◌||◌}
use mathlib.Core.List.{List}
use mathlib.Core.Option.{Option, some}
use lib.Dec.{T}
use lib.ListN.{length, get_or, get_elem?, take}
use lib.Seq.{get_or-take, length-take-le}
use Rattle.model.specs.declared.Header.{Header}
use Rattle.model.specs.declared.Line.{Line}
use Rattle.model.specs.declared.Line.TheVariants.{In, Const, Neg, Rot, Add, Mul, Out, Enc, Rs, Ms, Us, Free}
use Rattle.model.specs.declared.Grammar.TheVariants.{Schedule}
use Rattle.model.specs.declared.Kind.{Kind}
use Rattle.model.specs.declared.Kind.TheVariants.{Ciphertext}
use Rattle.model.specs.declared.Found.{Found}
use Rattle.model.specs.declared.Found.TheVariants as Founds
use Rattle.model.specs.Files.{well_formed, is_word, kind_of, kind_at, is_ciphertext, is_constant, is_encoded, is_usable}
use Rattle.model.specs.Machine.{finished, run}
use Rattle.model.specs.Rules.{Rule, KeepsRules}
use Rattle.model.specs.Answers.{check_machine}
use Rattle.model.specs.Demands.{is_ciphertext_line}
use Rattle.model.proofs.Tests.{and_first, is_ciphertext_lem}
use Rattle.model.proofs.Lists.{found_is}
use Rattle.model.proofs.Runs.{finished_is}
use Rattle.model.proofs.Formed.{LineFacts, usable_below, well_header, well_lines, formed_index}
use Rattle.model.proofs.Checked.{found_kind, scale_of, level_of, scale_in, level_in, keeps_agrees, ruled_at, checked_rule}

pub usable_ciphertext : (k : Kind) → k ≡ Ciphertext → T (is_usable k)
usable_ciphertext k e = subst (λ (j : Kind). T (is_usable j)) (sym e) tt

-- the kind decides whether a line is a ciphertext line, of the kinds that a word gives
pub ciphertext_line : (x y : Line) → kind_of x ≡ kind_of y → T (is_ciphertext_line x) → T (is_ciphertext_line y)
ciphertext_line x y e c = subst (λ (k : Kind). T (not (is_constant k || is_encoded k))) e c

-- a finding of a ciphertext is its scale and its level
ciphertext_is : (f : Found) {s l : ℕ} → found_kind f ≡ Ciphertext → scale_of f ≡ s → level_of f ≡ l → f ≡ Founds.Ciphertext s l
ciphertext_is Founds.Bare p q r = absurd (let z : ◌≡◌ {A = ℕ} 0 1 = cc in omega arith)
ciphertext_is (Founds.Encoded s l) p q r = absurd (let z : ◌≡◌ {A = ℕ} 0 1 = cc in omega arith)
ciphertext_is (Founds.Ciphertext s l) p q r = ap₂ Founds.Ciphertext q r

pub same_numbers_lem : {s l s' l' : ℕ} → ◌≡◌ {A = Option Found} (some (Founds.Ciphertext s l)) (some (Founds.Ciphertext s' l')) → (s ≡ s') × (l ≡ l')
same_numbers_lem e = (cc e, cc e)

module _ (h : Header) (s : List Line) (t : T (well_formed Schedule h s)) (K : KeepsRules h s) {found : List Found} (e : run (check_machine h) s ≡ finished found) where
  -- the numbers at value i
  abbrev Numbers : ℕ → Type 0
  Numbers i = (scale_in found i ≡ K.scale i) × (level_in found i ≡ K.level i)

  -- at a line that can be named
  at_named : (i : ℕ) → kind_at s i ≡ Ciphertext → Numbers i
  at_named i k =
      let r = keeps_agrees h s t K in
      let n = r.2.named i (usable_ciphertext (kind_at s i) k) in
      let numbers : T (is_ciphertext (kind_at s i) || is_encoded (kind_at s i)) = subst (λ (j : Kind). T (is_ciphertext j || is_encoded j)) (sym k) tt in
      let is = found_is found i Founds.Bare (ap (λ (l : List Found). get_elem? l i) (finished_is (sym e ∙ r.1)) ∙ n.there) in
      (ap scale_of is ∙ n.fits.scale_is numbers, ap level_of is ∙ n.fits.level_is numbers)

  -- at an `out`: those of its operand, which is an earlier ciphertext
  operand_kind : (i a : ℕ) → i < length s → get_or s i Free ≡ Out a → kind_at s a ≡ Ciphertext
  operand_kind i a b x =
      let l : LineFacts Schedule h (take i s) (Out a) = subst (LineFacts Schedule h (take i s)) x (formed_index Schedule h s (well_lines Schedule h s t) i b) in
      let below = usable_below (take i s) a (and_first (is_usable (kind_at (take i s) a)) true l.usable) in
      ap kind_of (sym (get_or-take i s a Free (omega (arith, below, length-take-le i s (omega (arith, b)))))) ∙ is_ciphertext_lem (kind_at (take i s) a) l.kinds

  at_out : (i a : ℕ) → i < length s → get_or s i Free ≡ Out a → Numbers i
  at_out i a b x =
      let own : Rule h K.scale K.level i (Out a) = subst (Rule h K.scale K.level i) x (K.rules i b) in
      let in_found : Rule h (scale_in found) (level_in found) i (Out a) = subst (Rule h (scale_in found) (level_in found) i) x (checked_rule h s (well_header Schedule h s t) e i b) in
      let n = at_named a (operand_kind i a b x) in
      (in_found.0 ∙ n.0 ∙ sym own.0, in_found.1 ∙ n.1 ∙ sym own.1)

  numbers : (i : ℕ) → i < length s → (x : Line) → get_or s i Free ≡ x → T (is_ciphertext_line x) → Numbers i
  numbers i b In x c = at_named i (ap kind_of x)
  numbers i b (Const k) x c = absurd c
  numbers i b (Neg a) x c = at_named i (ap kind_of x)
  numbers i b (Rot a n) x c = at_named i (ap kind_of x)
  numbers i b (Add a a') x c = at_named i (ap kind_of x)
  numbers i b (Mul a a') x c = at_named i (ap kind_of x)
  numbers i b (Out a) x c = at_out i a b x
  numbers i b (Enc a n l) x c = absurd c
  numbers i b (Rs a n) x c = at_named i (ap kind_of x)
  numbers i b (Ms a n) x c = at_named i (ap kind_of x)
  numbers i b (Us a n) x c = at_named i (ap kind_of x)
  numbers i b Free x c =
      absurd (subst (λ (y : Line). T (is_word Schedule y)) x (formed_index Schedule h s (well_lines Schedule h s t) i b).word)

  pub found_numbers : (i : ℕ) → i < length s → T (is_ciphertext_line (get_or s i Free)) → get_elem? found i ≡ some (Founds.Ciphertext (K.scale i) (K.level i))
  found_numbers i b c =
      let r = ruled_at h s (well_header Schedule h s t) e i b in
      let is = found_is found i Founds.Bare r.there in
      let n = numbers i b (get_or s i Free) refl c in
      r.there ∙ ap some (ciphertext_is r.value (r.keeps.is_ciphertext_lem c) (sym (ap scale_of is) ∙ n.0) (sym (ap level_of is) ∙ n.1))
