-- Why a machine stops on a well-formed file: the best reserve only with 6, the check only with 7, 8, 9 or 10. What a line holds is of the
-- line's kind, so no operand is missing or of the wrong kind. Assumes nothing.
use Prim.Native.Nat.{ℕ, ◌+◌, ◌*◌}
use native.Mathlib.Omega.{arith}
use mathlib.Core.Path.{◌≡◌, refl, subst, subst₂}
use mathlib.Core.Bool.{not}
use mathlib.Core.List.{List}
use lib.Dec.{T, T_not}
use lib.ListN.{length}
use lib.IntN.{ℤ, pos, ◌-ℤ◌}
use lib.Signed.{lt_z}
use Rattle.model.specs.declared.Header.{Header}
use Rattle.model.specs.declared.Line.{Line}
use Rattle.model.specs.declared.Line.TheVariants.{In, Const, Neg, Rot, Add, Mul, Out, Enc, Rs, Ms, Us, Free}
use Rattle.model.specs.declared.Grammar.{Grammar}
use Rattle.model.specs.declared.Grammar.TheVariants.{Circuit, Schedule}
use Rattle.model.specs.declared.Kind.{Kind}
use Rattle.model.specs.declared.Kind.TheVariants.{Ciphertext, Constant}
use Rattle.model.specs.Scales.{headroom}
use Rattle.model.specs.Files.{is_word, is_ciphertext, is_constant, is_pair, well_formed}
use Rattle.model.specs.Machine.{Step, goes, stops, finished, stopped, Machine, run}
use Rattle.model.specs.declared.Choice.{Choice}
use Rattle.model.specs.declared.Best.{Best}
use Rattle.model.specs.declared.Best.TheVariants as Bests
use Rattle.model.specs.Plan.{smaller, input_choice, unchanged_choice, times_constant_choice, constant_times_choice, product_choice, unless_too_few, on_reserves, best_machine}
use Rattle.model.specs.Plan
use Rattle.model.specs.declared.Found.{Found}
use Rattle.model.specs.declared.Found.TheVariants as Founds
use Rattle.model.specs.Answers.{bounded, on_ciphertext, on_pair, sum, product, check_machine}
use Rattle.model.proofs.Tests.{Within}
use Rattle.model.proofs.Outcomes.{Outcome, outcome_cond, when_finished, when_stopped, RunOutcome}
use Rattle.model.proofs.Formed.{well_lines, Matched, Result, OnOne, OnTwo, Duty, formed_run}
use Rattle.model.proofs.Checked.{found_kind, scale_of, level_of, on_bare_lem, on_ciphertext_lem, on_pair_lem, on_bounded, on_sum, on_product}

-- ---- any machine whose values have kinds
-- what a line holds is of the line's kind
abbrev pub OfKind : {X : Type 0} → (X → Kind) → ℕ → Kind → X → Type 0
OfKind kind a k v = kind v ≡ k

module _ (A : Type 0) where
  -- an operand of the right kind: the stop for a wrong one does not happen
  right_ciphertext : {j : Kind} → j ≡ Ciphertext → T (not (is_ciphertext j)) → A
  right_ciphertext e t = absurd (subst (λ (k : Kind). T (not (is_ciphertext k))) e t)

  right_constant : {j : Kind} → j ≡ Constant → T (not (is_constant j)) → A
  right_constant e t = absurd (subst (λ (k : Kind). T (not (is_constant k))) e t)

  right_pair : (g : Grammar) {i j k l : Kind} → T (is_pair g j l) → i ≡ j → k ≡ l → T (not (is_pair g i k)) → A
  right_pair g {i} {j} {k} {l} p e f t = absurd (T_not (is_pair g j l) (subst₂ (λ (m n : Kind). T (not (is_pair g m n))) e f t) p)

module _ {X E : Type 0} (M : Machine X E) (A : E → Type 0) (kind : X → Kind) (g : Grammar) (h : Header) (lines : List Line) (formed : T (well_formed g h lines))
    (duty : (i : ℕ) (x : Line) → T (is_word g x) → Duty M A (OfKind kind) g i x) where
  outcome : RunOutcome A (Matched (OfKind kind) lines) (run M lines)
  outcome = formed_run M A (OfKind kind) g h lines (well_lines g h lines formed) (λ before x rest e w r. duty (length before) x w)

  pub stops_only : (i : ℕ) (n : E) → run M lines ≡ stopped i n → A n
  stops_only i n e = when_stopped A (Matched (OfKind kind) lines) (run M lines) e outcome

  pub holds_kinds : {held : List X} → run M lines ≡ finished held → Matched (OfKind kind) lines held
  holds_kinds e = when_finished A (Matched (OfKind kind) lines) (run M lines) e outcome

-- ---- the best reserve
abbrev pub best_kind : Best → Kind
best_kind Bests.Constant = Constant
best_kind (Bests.Ciphertext p) = Ciphertext

abbrev pub Six : ℕ → Type 0
Six n = n ≡ 6

module _ (h : Header) (i : ℕ) where
  abbrev BestHolds : Line → Best → Type 0
  BestHolds x = Result (OfKind best_kind) i x

  is_chosen : (P : Best → Type 0) (p : Choice) → P (Bests.Ciphertext p) → Outcome Six P (unless_too_few h p)
  is_chosen P p k = outcome_cond Six P (lt_z p.reserve (pos (headroom h))) (stops 6) (goes (Bests.Ciphertext p)) (λ t. refl) (λ t. k)

  best_one : (x : Line) (a : ℕ) (f : Choice → Step Best ℕ) → ((p : Choice) → Outcome Six (BestHolds x) (f p))
      → OnOne Six (OfKind best_kind) i x a Ciphertext (Plan.on_best f)
  best_one x a f k Bests.Constant e = right_ciphertext (5 ≡ 6) e tt
  best_one x a f k (Bests.Ciphertext p) e = k p

  best_two : (x : Line) (a b : ℕ) (both : ℤ → ℤ → Choice) (left right : ℤ → Choice) → ((p : Choice) → BestHolds x (Bests.Ciphertext p))
      → OnTwo Six (OfKind best_kind) Circuit i x a b (on_reserves h both left right)
  best_two x a b both left right k j l Bests.Constant Bests.Constant t e f = right_pair (5 ≡ 6) Circuit t e f tt
  best_two x a b both left right k j l Bests.Constant (Bests.Ciphertext q) t e f = is_chosen (BestHolds x) (right q.reserve) (k (right q.reserve))
  best_two x a b both left right k j l (Bests.Ciphertext p) Bests.Constant t e f = is_chosen (BestHolds x) (left p.reserve) (k (left p.reserve))
  best_two x a b both left right k j l (Bests.Ciphertext p) (Bests.Ciphertext q) t e f =
      is_chosen (BestHolds x) (both p.reserve q.reserve) (k (both p.reserve q.reserve))

  best_duty : (x : Line) → T (is_word Circuit x) → Duty (best_machine h) Six (OfKind best_kind) Circuit i x
  best_duty In w = λ k. is_chosen (BestHolds In) (input_choice h) (λ u. refl)
  best_duty (Const k) w = λ u. refl
  best_duty (Neg a) w = best_one (Neg a) a (λ p. unless_too_few h (unchanged_choice h p.reserve)) (λ p. is_chosen (BestHolds (Neg a)) (unchanged_choice h p.reserve) (λ u. refl))
  best_duty (Rot a n) w = best_one (Rot a n) a (λ p. unless_too_few h (unchanged_choice h p.reserve))
      (λ p. is_chosen (BestHolds (Rot a n)) (unchanged_choice h p.reserve) (λ u. refl))
  best_duty (Add a b) w = best_two (Add a b) a b (λ r r'. unchanged_choice h (smaller r r')) (unchanged_choice h) (unchanged_choice h) (λ p u. refl)
  best_duty (Mul a b) w = best_two (Mul a b) a b (product_choice h) (times_constant_choice h) (constant_times_choice h) (λ p u. refl)
  best_duty (Out a) w = best_one (Out a) a (λ p. goes (Bests.Ciphertext p)) (λ p u. absurd u)
  best_duty (Enc a s e) w = absurd w
  best_duty (Rs a c) w = absurd w
  best_duty (Ms a c) w = absurd w
  best_duty (Us a b) w = absurd w
  best_duty Free w = absurd w

pub only_six : (h : Header) (c : List Line) → T (well_formed Circuit h c) → (i n : ℕ) → run (best_machine h) c ≡ stopped i n → n ≡ 6
only_six h c t = stops_only (best_machine h) Six best_kind Circuit h c t (best_duty h)

pub best_kinds : (h : Header) (c : List Line) → T (well_formed Circuit h c) → {best : List Best} → run (best_machine h) c ≡ finished best
    → Matched (OfKind best_kind) c best
best_kinds h c t e = holds_kinds (best_machine h) Six best_kind Circuit h c t (best_duty h) e

-- ---- the check
abbrev pub RuleNumber : ℕ → Type 0
RuleNumber n = Within 7 10 n

module _ (h : Header) (i : ℕ) where
  abbrev FoundHolds : Line → Found → Type 0
  FoundHolds x = Result (OfKind found_kind) i x

  is_bounded : (P : Found → Type 0) (make : ℕ → ℕ → Found) (s l : ℤ) → ((u w : ℕ) → P (make u w)) → Outcome RuleNumber P (bounded h make s l)
  is_bounded P make s l k = on_bounded RuleNumber P h make s l (λ t u. k _ _) (omega arith) (omega arith)

  check_one : (x : Line) (a : ℕ) (s l : ℕ → ℕ → ℤ) → ((u w : ℕ) → FoundHolds x (Founds.Ciphertext u w))
      → OnOne RuleNumber (OfKind found_kind) i x a Ciphertext (on_ciphertext (λ u w. bounded h Founds.Ciphertext (s u w) (l u w)))
  check_one x a s l k v e = on_ciphertext_lem RuleNumber (FoundHolds x) (λ u w. bounded h Founds.Ciphertext (s u w) (l u w)) v (right_ciphertext (RuleNumber 5) e)
      (is_bounded (FoundHolds x) Founds.Ciphertext (s (scale_of v) (level_of v)) (l (scale_of v) (level_of v)) k)

  check_two : (x : Line) (a b : ℕ) (f : ℕ → ℕ → ℕ → ℕ → Step Found ℕ) → ((s l s' l' : ℕ) → Outcome RuleNumber (FoundHolds x) (f s l s' l'))
      → OnTwo RuleNumber (OfKind found_kind) Schedule i x a b (on_pair f)
  check_two x a b f k j l v w t e g = on_pair_lem RuleNumber (FoundHolds x) f v w (right_pair (RuleNumber 5) Schedule t e g) (k _ _ _ _)

  check_duty : (x : Line) → T (is_word Schedule x) → Duty (check_machine h) RuleNumber (OfKind found_kind) Schedule i x
  check_duty In w = λ k. is_bounded (FoundHolds In) Founds.Ciphertext (pos h.waterline) (pos h.top) (λ s l u. refl)
  check_duty (Const k) w = λ u. refl
  check_duty (Neg a) w = check_one (Neg a) a (λ s l. pos s) (λ s l. pos l) (λ s l u. refl)
  check_duty (Rot a n) w = check_one (Rot a n) a (λ s l. pos s) (λ s l. pos l) (λ s l u. refl)
  check_duty (Add a b) w = check_two (Add a b) a b (sum h) (λ s l s' l'. on_sum RuleNumber (FoundHolds (Add a b)) h s l s' l' (λ t. omega arith) (λ t. omega arith)
      (λ e f. is_bounded (FoundHolds (Add a b)) Founds.Ciphertext (pos s) (pos l) (λ s l u. refl)))
  check_duty (Mul a b) w = check_two (Mul a b) a b (product h) (λ s l s' l'. on_product RuleNumber (FoundHolds (Mul a b)) h s l s' l' (λ t. omega arith)
      (λ e. is_bounded (FoundHolds (Mul a b)) Founds.Ciphertext (pos (s + s')) (pos l) (λ s l u. refl)))
  check_duty (Out a) w = check_one (Out a) a (λ s l. pos s) (λ s l. pos l) (λ s l u. absurd u)
  check_duty (Enc a s e) w = λ v f. on_bare_lem RuleNumber (FoundHolds (Enc a s e)) (bounded h Founds.Encoded (pos s) (pos e)) v (right_constant (RuleNumber 5) f)
      (is_bounded (FoundHolds (Enc a s e)) Founds.Encoded (pos s) (pos e) (λ s l u. refl))
  check_duty (Rs a c) w = check_one (Rs a c) a (λ s l. pos s -ℤ pos (h.factor * c)) (λ s l. pos l -ℤ pos c) (λ s l u. refl)
  check_duty (Ms a c) w = check_one (Ms a c) a (λ s l. pos s) (λ s l. pos l -ℤ pos c) (λ s l u. refl)
  check_duty (Us a b) w = check_one (Us a b) a (λ s l. pos (s + b)) (λ s l. pos l) (λ s l u. refl)
  check_duty Free w = absurd w

-- "7 levels differ. 8 scales differ in `add`. 9 scale above F·level. 10 scale below W."
pub only_rules : (h : Header) (s : List Line) → T (well_formed Schedule h s) → (i n : ℕ) → run (check_machine h) s ≡ stopped i n → RuleNumber n
only_rules h s t = stops_only (check_machine h) RuleNumber found_kind Schedule h s t (check_duty h)

pub check_kinds : (h : Header) (s : List Line) → T (well_formed Schedule h s) → {found : List Found} → run (check_machine h) s ≡ finished found
    → Matched (OfKind found_kind) s found
check_kinds h s t e = holds_kinds (check_machine h) RuleNumber found_kind Schedule h s t (check_duty h) e
