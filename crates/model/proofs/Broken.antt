-- The number with which the check refuses a line is that of the first test that it fails, over any scales and levels that keep the rules at
-- the lines before it. Assumes nothing.
use Prim.Native.Nat.{ℕ, ◌+◌, ◌*◌}
use mathlib.Core.Path.{◌≡◌, refl, sym, ap, ◌∙◌, subst}
use mathlib.Core.Bool.{Bool, true, false, not}
use mathlib.Core.List.{List, [], ◌∷◌, ◌++◌}
use lib.Dec.{T, eqb}
use lib.ListN.{length, get_or, take}
use lib.Seq.{take-suc}
use lib.IntN.{ℤ, pos, ◌+ℤ◌, ◌-ℤ◌, ◌*ℤ◌}
use lib.Signed.{le_z}
use Rattle.rows.specs.Rows.{Tests, bad, judged}
use Rattle.model.specs.declared.Header.{Header}
use Rattle.model.specs.declared.Line.{Line}
use Rattle.model.specs.declared.Line.TheVariants.{In, Const, Neg, Rot, Add, Mul, Out, Enc, Rs, Ms, Us, Free}
use Rattle.model.specs.declared.Grammar.TheVariants.{Schedule}
use Rattle.model.specs.declared.Kind.{Kind}
use Rattle.model.specs.declared.Kind.TheVariants.{Ciphertext}
use Rattle.model.specs.Scales.{headroom}
use Rattle.model.specs.Files.{is_word, is_constant, well_formed}
use Rattle.model.specs.Machine.{Step, goes, stops, Run, finished, stopped, step, run}
use Rattle.model.specs.Rules.{KeepsRules}
use Rattle.model.specs.declared.Found.{Found}
use Rattle.model.specs.declared.Found.TheVariants as Founds
use Rattle.model.specs.Answers.{bounded, on_ciphertext, sum, product, check_machine}
use Rattle.model.specs.Broken.{scale_tests, rule_tests}
use Rattle.model.proofs.Tests.{eq_passes}
use Rattle.model.proofs.Runs.{stopped_finished, stopped_is, continued, first_stop}
use Rattle.model.proofs.Outcomes.{Outcome}
use Rattle.model.proofs.Bounded.{bounded_tests, sum_tests, product_cases}
use Rattle.model.proofs.Formed.{well_lines, well_take, formed_index, OnOperand, DutyFor, formed_step}
use Rattle.model.proofs.Checked.{Agrees, on_bare_lem, on_operand, on_operands, keeps_agrees}

-- ---- outcomes of tests
pub is_true : (b : Bool) → T b → b ≡ true
is_true true t = refl
is_true false t = absurd t

pub is_false : (b : Bool) → T (not b) → b ≡ false
is_false true t = absurd t
is_false false t = refl

same : (m n : ℕ) → m ≡ n → eqb m n ≡ true
same m n e = is_true (eqb m n) (eq_passes m n e)

-- ---- one line
-- any value will do
abbrev pub Any : Found → Type 0
Any v = Unit {0}

-- the tests before those of the bounds are passed
bounded_says : (h : Header) (x : Line) (tests : Tests) (make : ℕ → ℕ → Found) (s l : ℤ) → judged tests x ≡ judged (scale_tests h s l) x
    → Outcome (λ n. judged tests x ≡ bad n) Any (bounded h make s l)
bounded_says h x tests make s l e =
    bounded_tests h (Outcome (λ n. judged tests x ≡ bad n) Any) make s l (λ t u. tt)
    (λ t u. e ∙ nine (is_true _ t) (is_false _ u)) (λ t. e ∙ ten (is_false _ t))
  where
    nine : le_z (pos h.waterline) s ≡ true → le_z (s +ℤ pos (headroom h)) (pos h.factor *ℤ l) ≡ false → judged (scale_tests h s l) x ≡ bad 9
    nine p q = simp (p, q)

    ten : le_z (pos h.waterline) s ≡ false → judged (scale_tests h s l) x ≡ bad 10
    ten p = simp p

module _ (h : Header) (scale level : ℕ → ℕ) where
  abbrev pub Says : Line → ℕ → Type 0
  Says x n = judged (rule_tests h scale level x) x ≡ bad n

  -- within the bounds of the line's rule, or the number of the test that fails
  within : (x : Line) (make : ℕ → ℕ → Found) (s l : ℤ) → judged (rule_tests h scale level x) x ≡ judged (scale_tests h s l) x → Outcome (Says x) Any (bounded h make s l)
  within x make s l e = bounded_says h x (rule_tests h scale level x) make s l e

  -- a word on one ciphertext
  one : (x : Line) (a : ℕ) (s l : ℕ → ℤ) → judged (rule_tests h scale level x) x ≡ judged (scale_tests h (s (scale a)) (l (level a))) x
      → OnOperand (Says x) (Agrees h scale level) Any a Ciphertext (on_ciphertext (λ u w. bounded h Founds.Ciphertext (s u) (l w)))
  one x a s l e = on_operand h scale level (Says x) Any a (λ u w. bounded h Founds.Ciphertext (s u) (l w)) (λ b. within x Founds.Ciphertext (s (scale a)) (l (level a)) e)

  pub says : (x : Line) → T (is_word Schedule x) → DutyFor (check_machine h) (Says x) (Agrees h scale level) Any Schedule x
  says In w = λ k. within In Founds.Ciphertext (pos h.waterline) (pos h.top) refl
  says (Const k) w = tt
  says (Neg a) w = one (Neg a) a (λ s. pos s) (λ l. pos l) refl
  says (Rot a t) w = one (Rot a t) a (λ s. pos s) (λ l. pos l) refl
  says (Add a b) w = on_operands h scale level (Says (Add a b)) Any a b (sum h)
      (sum_tests h (Outcome (Says (Add a b)) Any) (scale a) (level a) (scale b) (level b)
      (λ e e'. within (Add a b) Founds.Ciphertext (pos (scale a)) (pos (level a)) (simp (same (level a) (level b) e, same (scale a) (scale b) e')))
      (λ e u. simp (same (level a) (level b) e, is_false (eqb (scale a) (scale b)) u)) (λ t. simp (is_false (eqb (level a) (level b)) t)))
  says (Mul a b) w = on_operands h scale level (Says (Mul a b)) Any a b (product h)
      (product_cases h (Outcome (Says (Mul a b)) Any) (scale a) (level a) (scale b) (level b)
      (λ e. within (Mul a b) Founds.Ciphertext (pos (scale a + scale b)) (pos (level a)) (simp (same (level a) (level b) e))) (λ t. simp (is_false (eqb (level a) (level b)) t)))
  says (Out a) w = one (Out a) a (λ s. pos s) (λ l. pos l) refl
  says (Enc a s e) w = λ v g. on_bare_lem (Says (Enc a s e)) Any (bounded h Founds.Encoded (pos s) (pos e)) v
      (λ t. absurd (subst (λ (k : Kind). T (not (is_constant k))) g.kind t)) (within (Enc a s e) Founds.Encoded (pos s) (pos e) refl)
  says (Rs a c) w = one (Rs a c) a (λ s. pos s -ℤ pos (h.factor * c)) (λ l. pos l -ℤ pos c) refl
  says (Ms a c) w = one (Ms a c) a (λ s. pos s) (λ l. pos l -ℤ pos c) refl
  says (Us a b) w = one (Us a b) a (λ s. pos (s + b)) (λ l. pos l) refl
  says Free w = absurd w

-- ---- the line that is refused
pub refused_says : (h : Header) (s : List Line) → T (well_formed Schedule h s) → (i n : ℕ) → run (check_machine h) s ≡ stopped i n
    → (K : KeepsRules h (take i s)) → judged (rule_tests h K.scale K.level (get_or s i Free)) (get_or s i Free) ≡ bad n
refused_says h s t i n e K =
    let f = first_stop (check_machine h) s i n e in
    let r = keeps_agrees h (take i s) (well_take Schedule h s i t) K in
    let l = formed_index Schedule h s (well_lines Schedule h s t) i f.below in
    let c = continued (check_machine h) (take i s) 0 [] (x ∷ []) r.0 r.1 in
    go r.0 (step (check_machine h) c.ins r.0 x)
    (formed_step (check_machine h) (Says h K.scale K.level x) (Agrees h K.scale K.level) Schedule h (take i s) r.0 r.2 Any c.ins x l
    (says h K.scale K.level x l.word))
    (sym c.goes_on ∙ ap (run (check_machine h)) (sym (take-suc s i Free f.below)) ∙ f.with_it)
  where
    x : Line
    x = get_or s i Free

    go : (found : List Found) (q : Step Found ℕ) → Outcome (Says h K.scale K.level x) Any q
        → ◌≡◌ {A = Run Found ℕ} (elim q [ goes v ↦ finished (found ++ (v ∷ [])) | stops d ↦ stopped (length found) d ]) (stopped i n) → Says h K.scale K.level x n
    go found (goes v) o p = stopped_finished (sym p)
    go found (stops d) o p = subst (Says h K.scale K.level x) (stopped_is p) o
