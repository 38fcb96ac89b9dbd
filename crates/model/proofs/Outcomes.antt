-- What a step or a run comes to: a value that has a property, or a stop for an allowed reason; with one law for each way to build a step,
-- and induction over a run. Assumes nothing.
use Prim.Native.Nat.{ℕ, zero, suc, ◌<◌}
use native.Mathlib.Nat.{not-suc-le-zero, le_of_suc-le-suc}
use native.Mathlib.Omega.{arith}
use mathlib.Core.Path.{◌≡◌, refl, sym, ap, ◌∙◌, subst}
use mathlib.Core.Bool.{Bool, not, cond}
use mathlib.Core.List.{List, [], ◌∷◌, ◌++◌, append-nil}
use mathlib.Core.Option.{Option, none, some}
use lib.Dec.{T}
use lib.ListN.{length, get_or, get_elem?}
use lib.Seq.{append_snoc}
use Rattle.model.specs.declared.Line.{Line}
use Rattle.model.specs.declared.Line.TheVariants.{Free}
use Rattle.model.specs.Machine.{Step, goes, stops, Run, finished, stopped, Machine, and_then, held_by, step, count_in, run_from, run}
use Rattle.model.proofs.Runs.{or_absent}
use Rattle.model.proofs.Lists.{length_snoc, found_after, found_last}
use Rattle.model.proofs.Tests.{cond_cases}

-- an element of a list with one more at its end: an old one, or the last
pub snoc_cases : {X : Type 0} (l : List X) (x d : X) (i : ℕ) → i < length (l ++ (x ∷ [])) → (P : X → Type 0) → (i < length l → P (get_or l i d)) → (i ≡ length l → P x)
    → P (get_or (l ++ (x ∷ [])) i d)
snoc_cases [] x d zero h P f g = g refl
snoc_cases [] x d (suc i) h P f g = absurd (not-suc-le-zero (le_of_suc-le-suc h))
snoc_cases (y ∷ l) x d zero h P f g = f (omega arith)
snoc_cases (y ∷ l) x d (suc i) h P f g = snoc_cases l x d i (le_of_suc-le-suc h) P (λ p. f (omega arith)) (λ p. g (ap suc p))

-- A: the allowed reasons to stop
module _ {X E : Type 0} where
  abbrev pub Outcome : (E → Type 0) → (X → Type 0) → Step X E → Type 0
  Outcome A P (goes v) = P v
  Outcome A P (stops e) = A e

  abbrev pub RunOutcome : (E → Type 0) → (List X → Type 0) → Run X E → Type 0
  RunOutcome A Q (finished held) = Q held
  RunOutcome A Q (stopped i e) = A e

-- every reason is allowed, or none
abbrev pub AnyReason : {E : Type 0} → E → Type 0
AnyReason e = Unit {0}

abbrev pub NoReason : {E : Type 0} → E → Type 0
NoReason e = ⊥

module _ {X E : Type 0} (A : E → Type 0) where
  pub outcome_map : {P Q : X → Type 0} (s : Step X E) → ((v : X) → P v → Q v) → Outcome A P s → Outcome A Q s
  outcome_map (goes v) f p = f v p
  outcome_map (stops e) f p = p

  module _ (P : X → Type 0) where
    -- a step that is known to go
    pub outcome_goes : (s : Step X E) {v : X} → s ≡ goes v → P v → Outcome A P s
    outcome_goes s e p = subst (Outcome A P) (sym e) p

    pub outcome_cond : (b : Bool) (s t : Step X E) → (T b → Outcome A P s) → (T (not b) → Outcome A P t) → Outcome A P (cond b s t)
    outcome_cond b s t f g = cond_cases (Outcome A P) b s t f g

    -- an held_by, found or not
    pub outcome_operand : (M : Machine X E) (held : List X) (a : ℕ) (f : X → Step X E) → A M.absent → ((v : X) → get_elem? held a ≡ some v → Outcome A P (f v))
        → Outcome A P (and_then (held_by M held a) f)
    outcome_operand M held a f n k = go (get_elem? held a) k
      where
        go : (o : Option X) → ((v : X) → o ≡ some v → Outcome A P (f v)) → Outcome A P (and_then (or_absent M.absent o) f)
        go none k = n
        go (some v) k = k v refl

    -- an held_by that is known to be there
    pub outcome_found : (M : Machine X E) (held : List X) (a : ℕ) (f : X → Step X E) {v : X} → get_elem? held a ≡ some v → Outcome A P (f v)
        → Outcome A P (and_then (held_by M held a) f)
    outcome_found M held a f e p = subst (λ (o : Option X). Outcome A P (and_then (or_absent M.absent o) f)) (sym e) p

-- the value, as the step gives it
pub outcome_itself : {X E : Type 0} (s : Step X E) → Outcome AnyReason (λ v. s ≡ goes v) s
outcome_itself (goes v) = refl
outcome_itself (stops e) = tt

module _ {X E : Type 0} (A : E → Type 0) (Q : List X → Type 0) where
  pub when_finished : (r : Run X E) {held : List X} → r ≡ finished held → RunOutcome A Q r → Q held
  when_finished r e o = subst (RunOutcome A Q) e o

  pub when_stopped : (r : Run X E) {i : ℕ} {n : E} → r ≡ stopped i n → RunOutcome A Q r → A n
  when_stopped r e o = subst (RunOutcome A Q) e o

-- a run that has no reason to stop
pub finishes : {X E : Type 0} {Q : List X → Type 0} (r : Run X E) → RunOutcome NoReason Q r → (held : List X) × (r ≡ finished held) × Q held
finishes (finished held) o = (held, refl, o)
finishes (stopped i e) o = absurd o

-- Holds: of the lines so far and what they hold. It holds at the start, and each line keeps it or stops for an allowed reason.
module _ {X E : Type 0} (M : Machine X E) (A : E → Type 0) (lines : List Line) (Holds : List Line → List X → Type 0)
    (each : (ins : ℕ) (before : List Line) (held : List X) (x : Line) (rest : List Line) → before ++ (x ∷ rest) ≡ lines → Holds before held
    → Outcome A (λ v. Holds (before ++ (x ∷ [])) (held ++ (v ∷ []))) (step M ins held x)) where
  from : (xs : List Line) (ins : ℕ) (before : List Line) (held : List X) → before ++ xs ≡ lines → Holds before held → RunOutcome A (Holds lines) (run_from M ins held xs)
  from [] ins before held e p = subst (λ (l : List Line). Holds l held) (sym (append-nil before) ∙ e) p
  from (x ∷ xs) ins before held e p =
      go (step M ins held x) (each ins before held x xs e p) (λ v. from xs (count_in x ins) (before ++ (x ∷ [])) (held ++ (v ∷ [])) (append_snoc before x xs ∙ e))
    where
      go : (s : Step X E) → Outcome A (λ v. Holds (before ++ (x ∷ [])) (held ++ (v ∷ []))) s
          → ((v : X) → Holds (before ++ (x ∷ [])) (held ++ (v ∷ [])) → RunOutcome A (Holds lines) (run_from M (count_in x ins) (held ++ (v ∷ [])) xs))
          → RunOutcome A (Holds lines) (elim s [ goes v ↦ run_from M (count_in x ins) (held ++ (v ∷ [])) xs | stops n ↦ stopped (length held) n ])
      go (goes v) o k = k v o
      go (stops n) o k = o

  pub run_outcome : Holds [] [] → RunOutcome A (Holds lines) (run M lines)
  run_outcome p = from lines 0 [] [] refl p

module _ {X E : Type 0} (M : Machine X E) where
  -- line x, the i-th of a run: what the lines before it hold, and that its step gives the value that it holds in the end
  pub record Stepped (final : List X) (x : Line) (i : ℕ) : Type 0 where
    pub ins : ℕ
    pub held : List X
    pub value : X
    pub among : (a : ℕ) (v : X) → get_elem? held a ≡ some v → get_elem? final a ≡ some v
    pub there : get_elem? final i ≡ some value
    pub steps : step M ins held x ≡ goes value

  pub record AllStepped (lines : List Line) (final : List X) : Type 0 where
    pub long : length final ≡ length lines
    pub line : (i : ℕ) → i < length lines → Stepped final (get_or lines i Free) i

  later : (held : List X) (v : X) (x : Line) (i : ℕ) → Stepped held x i → Stepped (held ++ (v ∷ [])) x i
  later held v x i s =
      record {
        ins = s.ins;
        held = s.held;
        value = s.value;
        among = λ a w e. found_after held (v ∷ []) a (s.among a w e);
        there = found_after held (v ∷ []) i s.there;
        steps = s.steps;
      }

  one_more_lem : (ins : ℕ) (before : List Line) (held : List X) (x : Line) (v : X) → AllStepped before held → step M ins held x ≡ goes v
      → AllStepped (before ++ (x ∷ [])) (held ++ (v ∷ []))
  one_more_lem ins before held x v all e =
      record {
        long = length_snoc held v ∙ ap suc all.long ∙ sym (length_snoc before x);
        line = λ i b. snoc_cases before x Free i b (λ y. Stepped (held ++ (v ∷ [])) y i) (λ p. later held v (get_or before i Free) i (all.line i p))
            (λ p. record {
              ins = ins;
              held = held;
              value = v;
              among = λ a w f. found_after held (v ∷ []) a f;
              there = ap (get_elem? (held ++ (v ∷ []))) (p ∙ sym all.long) ∙ found_last held v;
              steps = e;
            });
      }

  -- each line of a run that finished
  pub stepped : (lines : List Line) {final : List X} → run M lines ≡ finished final → AllStepped lines final
  stepped lines e = when_finished AnyReason (AllStepped lines) (run M lines) e
      (run_outcome M AnyReason lines AllStepped
      (λ ins before held x rest p all. outcome_map AnyReason (step M ins held x) (λ v q. one_more_lem ins before held x v all q) (outcome_itself (step M ins held x)))
      (record { long = refl; line = λ i b. absurd (not-suc-le-zero b) }))
