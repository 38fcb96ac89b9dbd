-- Any line of a circuit: a law for each word, of what it asks of its operands and how it is done. Assumes nothing.
use Prim.Native.Nat.{ℕ}
use native.Mathlib.Omega.{arith}
use mathlib.Core.Path.{◌≡◌, refl, sym, ap, ◌∙◌}
use mathlib.Core.Bool.{Bool, true, false, cond, ◌||◌}
use borrow.Author.Rules.{rules}
use lib.IntN.{ℤ}
use Rattle.model.specs.declared.Header.{Header}
use Rattle.model.specs.declared.Line.{Line}
use Rattle.model.specs.declared.Line.TheVariants.{In, Const, Neg, Rot, Add, Mul, Out, Enc, Rs, Ms, Us, Free}
use Rattle.model.specs.declared.Best.{Best}
use Rattle.model.specs.declared.Best.TheVariants as Bests
use Rattle.model.specs.Machine.{Step, stops}
use Rattle.model.specs.Plan.{input_choice, unless_too_few, choice_of, best_machine}
use Rattle.model.proofs.Tests.{header_facts}
use Rattle.choices.specs.Ranges.{HeaderRanges}
use Rattle.choices.proofs.ChoiceLaws.{ranges}
use Rattle.conversions.specs.declared.Operand.{Operand}
use Rattle.conversions.specs.Operands.{best_of}
use Rattle.std.specs.Prelude.{Result, Ok, Err}
use Rattle.model.specs.declared.Choice.{Choice}
use Rattle.model.specs.declared.Fault.{Fault}
use Rattle.model.specs.declared.Fault.TheVariants.{TooFewLevels}
use Rattle.linechoices.specs.Steps.{step_on, line_choice, Known}

-- an operand that is a ciphertext, or not
abbrev known : Operand → Bool → Best
known o c = cond c (Bests.Ciphertext (record { level = o.level; reserve = o.reserve; first = o.reserve; second = o.reserve })) Bests.Constant

-- ---- each word's step
module _ (h : Header) (x : Line) (a b : Operand) where
  pub neg_step : (i : ℕ) → x ≡ Neg i → step_on h x a b ≡ (best_machine h).neg (best_of a)
  unfolding step_on
  neg_step i e = rw e

  pub rot_step : (i : ℕ) (t : ℤ) → x ≡ Rot i t → step_on h x a b ≡ (best_machine h).neg (best_of a)
  unfolding step_on
  rot_step i t e = rw e

  pub add_step : (i j : ℕ) → x ≡ Add i j → step_on h x a b ≡ (best_machine h).add (best_of a) (best_of b)
  unfolding step_on
  add_step i j e = rw e

  pub mul_step : (i j : ℕ) → x ≡ Mul i j → step_on h x a b ≡ (best_machine h).mul (best_of a) (best_of b)
  unfolding step_on
  mul_step i j e = rw e

  pub out_step : (i : ℕ) → x ≡ Out i → step_on h x a b ≡ (best_machine h).out (best_of a)
  unfolding step_on
  out_step i e = rw e

module _ (h : Header) (x : Line) (a b : Operand) (K : Known h x a b) where
  pub header_fits : HeaderRanges h
  header_fits = ranges h (header_facts h K.range_held)

  -- ---- what it asks of its operands
  not_five : {P : Type 0} → step_on h x a b ≡ stops 5 → P
  not_five e = absurd (let six = K.only_six 5 e in omega arith)

  -- a ciphertext, where a constant would stop the machine
  is_ciphertext_lem : (f : Best → Step Best ℕ) → f Bests.Constant ≡ stops 5 → step_on h x a b ≡ f (best_of a) → a.ciphertext ≡ true
  is_ciphertext_lem f c is = go a.ciphertext refl is
    where
      go : (t : Bool) → a.ciphertext ≡ t → step_on h x a b ≡ f (known a t) → a.ciphertext ≡ true
      go true e q = e
      go false e q = not_five (q ∙ c)

  pub neg_ciphertext : (i : ℕ) → x ≡ Neg i → a.ciphertext ≡ true
  neg_ciphertext i e = is_ciphertext_lem (best_machine h).neg refl (neg_step h x a b i e)

  pub rot_ciphertext : (i : ℕ) (t : ℤ) → x ≡ Rot i t → a.ciphertext ≡ true
  rot_ciphertext i t e = is_ciphertext_lem (best_machine h).neg refl (rot_step h x a b i t e)

  pub out_ciphertext : (i : ℕ) → x ≡ Out i → a.ciphertext ≡ true
  out_ciphertext i e = is_ciphertext_lem (best_machine h).out refl (out_step h x a b i e)

  -- one of two, where two constants would stop it
  some_ciphertext : (f : Best → Best → Step Best ℕ) → f Bests.Constant Bests.Constant ≡ stops 5 → step_on h x a b ≡ f (best_of a) (best_of b)
      → (a.ciphertext || b.ciphertext) ≡ true
  some_ciphertext f c is = go a.ciphertext b.ciphertext is
    where
      go : (t u : Bool) → step_on h x a b ≡ f (known a t) (known b u) → (t || u) ≡ true
      go true u q = refl
      go false true q = refl
      go false false q = not_five (q ∙ c)

  pub add_some : (i j : ℕ) → x ≡ Add i j → (a.ciphertext || b.ciphertext) ≡ true
  add_some i j e = some_ciphertext (best_machine h).add refl (add_step h x a b i j e)

  pub mul_some : (i j : ℕ) → x ≡ Mul i j → (a.ciphertext || b.ciphertext) ≡ true
  mul_some i j e = some_ciphertext (best_machine h).mul refl (mul_step h x a b i j e)

  -- ---- how it is done
  module _ (p : Choice) (r : Result Choice Fault) (is : r ≡ line_choice (unless_too_few h p)) where
    tested : (s : Step Best ℕ) → step_on h x a b ≡ s → unless_too_few h p ≡ s → r ≡ line_choice (step_on h x a b)
    tested s e f = is ∙ ap line_choice (f ∙ sym e)

    pub in_done : x ≡ In → p ≡ input_choice h → r ≡ line_choice (step_on h x a b)
    unfolding step_on
    in_done e f = tested (unless_too_few h (input_choice h)) (rw e) (ap (unless_too_few h) f)

    pub neg_done : (i : ℕ) → x ≡ Neg i → unless_too_few h p ≡ (best_machine h).neg (best_of a) → r ≡ line_choice (step_on h x a b)
    neg_done i e f = tested ((best_machine h).neg (best_of a)) (neg_step h x a b i e) f

    pub rot_done : (i : ℕ) (t : ℤ) → x ≡ Rot i t → unless_too_few h p ≡ (best_machine h).neg (best_of a) → r ≡ line_choice (step_on h x a b)
    rot_done i t e f = tested ((best_machine h).neg (best_of a)) (rot_step h x a b i t e) f

    pub add_done : (i j : ℕ) → x ≡ Add i j → unless_too_few h p ≡ (best_machine h).add (best_of a) (best_of b) → r ≡ line_choice (step_on h x a b)
    add_done i j e f = tested ((best_machine h).add (best_of a) (best_of b)) (add_step h x a b i j e) f

    pub mul_done : (i j : ℕ) → x ≡ Mul i j → unless_too_few h p ≡ (best_machine h).mul (best_of a) (best_of b) → r ≡ line_choice (step_on h x a b)
    mul_done i j e f = tested ((best_machine h).mul (best_of a) (best_of b)) (mul_step h x a b i j e) f

  module _ (p : Choice) where
    pub const_done : (k : ℕ) → x ≡ Const k → p ≡ choice_of Bests.Constant → Ok p ≡ line_choice (step_on h x a b)
    unfolding step_on
    const_done k e f = rw (e, f)

    pub out_done : (i : ℕ) → x ≡ Out i → p ≡ choice_of (best_of a) → Ok p ≡ line_choice (step_on h x a b)
    out_done i e f = ap (λ (q : Choice). Ok q) f ∙ own a.ciphertext (out_ciphertext i e) ∙ sym (ap line_choice (out_step h x a b i e))
      where
        own : (t : Bool) → t ≡ true → Ok (choice_of (known a t)) ≡ line_choice ((best_machine h).out (known a t))
        own t c = rw c

  -- no circuit has these
  pub enc_done : (i s l : ℕ) → x ≡ Enc i s l → Err TooFewLevels ≡ line_choice (step_on h x a b)
  unfolding step_on
  enc_done i s l e = rw e

  pub rs_done : (i n : ℕ) → x ≡ Rs i n → Err TooFewLevels ≡ line_choice (step_on h x a b)
  unfolding step_on
  rs_done i n e = rw e

  pub ms_done : (i n : ℕ) → x ≡ Ms i n → Err TooFewLevels ≡ line_choice (step_on h x a b)
  unfolding step_on
  ms_done i n e = rw e

  pub us_done : (i n : ℕ) → x ≡ Us i n → Err TooFewLevels ≡ line_choice (step_on h x a b)
  unfolding step_on
  us_done i n e = rw e

  pub free_done : x ≡ Free → Err TooFewLevels ≡ line_choice (step_on h x a b)
  unfolding step_on
  free_done e = rw e

pub ruleset word_laws = (
  rules,
  header_fits,
  neg_ciphertext,
  rot_ciphertext,
  out_ciphertext,
  add_some,
  mul_some,
  in_done,
  const_done,
  neg_done,
  rot_done,
  add_done,
  mul_done,
  out_done,
  enc_done,
  rs_done,
  ms_done,
  us_done,
  free_done,
)
