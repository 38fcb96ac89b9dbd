-- A circuit line by itself: the best machine's step and the plan's lines for it need no more of its operands than the code knows. Assumes nothing.
use Prim.Native.Nat.{ℕ}
use mathlib.Core.Path.{◌≡◌, refl, sym, ap, ◌∙◌}
use mathlib.Core.Bool.{true, ◌&&◌}
use mathlib.Core.List.{List}
use mathlib.Core.Option.{some}
use lib.Dec.{T}
use lib.ListN.{get_or, get_elem?}
use lib.IntN.{ℤ}
use Rattle.model.specs.declared.Grammar.TheVariants.{Circuit}
use Rattle.model.specs.declared.Header.{Header}
use Rattle.model.specs.declared.Line.{Line}
use Rattle.model.specs.declared.Line.TheVariants.{In, Const, Neg, Rot, Add, Mul, Out, Enc, Rs, Ms, Us, Free}
use Rattle.model.specs.declared.Choice.{Choice}
use Rattle.model.specs.declared.Best.{Best}
use Rattle.model.specs.declared.Best.TheVariants as Bests
use Rattle.model.specs.Files.{is_word, kind_at, is_usable, every_usable, operands}
use Rattle.model.specs.Machine.{Step, goes, stops, step}
use Rattle.model.specs.Plan.{Draft, emit, supply, choice_of, best_machine, plan_line, plan_one, plan_two}
use Rattle.model.proofs.Tests.{and_first, and_second}
use Rattle.model.proofs.Outcomes.{Outcome, outcome_found}
use Rattle.operands.specs.Operands.{first_operand, second_operand}
use Rattle.conversions.specs.declared.Operand.{Operand}
use Rattle.conversions.specs.Operands.{best_of, supplied}
use Rattle.linechoices.specs.Steps.{step_on}
use Rattle.planlines.specs.Lines.{line_on}

-- ---- what the code knows of a best
abbrev pub known_of : Best → Best
known_of Bests.Constant = Bests.Constant
known_of (Bests.Ciphertext p) = Bests.Ciphertext (record { level = p.level; reserve = p.reserve; first = p.reserve; second = p.reserve })

module _ (h : Header) where
  neg_known : (b : Best) → (best_machine h).neg (known_of b) ≡ (best_machine h).neg b
  neg_known Bests.Constant = refl
  neg_known (Bests.Ciphertext p) = refl

  add_known : (b b' : Best) → (best_machine h).add (known_of b) (known_of b') ≡ (best_machine h).add b b'
  add_known Bests.Constant Bests.Constant = refl
  add_known Bests.Constant (Bests.Ciphertext q) = refl
  add_known (Bests.Ciphertext p) Bests.Constant = refl
  add_known (Bests.Ciphertext p) (Bests.Ciphertext q) = refl

  mul_known : (b b' : Best) → (best_machine h).mul (known_of b) (known_of b') ≡ (best_machine h).mul b b'
  mul_known Bests.Constant Bests.Constant = refl
  mul_known Bests.Constant (Bests.Ciphertext q) = refl
  mul_known (Bests.Ciphertext p) Bests.Constant = refl
  mul_known (Bests.Ciphertext p) (Bests.Ciphertext q) = refl

  supply_known : (b : Best) (r : ℤ) (l : ℕ) (d : Draft) → supply h (known_of b) r l d ≡ supply h b r l d
  supply_known Bests.Constant r l d = refl
  supply_known (Bests.Ciphertext p) r l d = refl

  -- ---- one line, after lines whose bests are held and whose numbers in the schedule are the names
  module _ (held : List Best) (names : List ℕ) where
    -- the bests of more lines
    abbrev pub Extends : List Best → Type 0
    Extends full = (a : ℕ) (b : Best) → get_elem? held a ≡ some b → get_or full a Bests.Constant ≡ b

    -- value a is known as o
    pub record Seen (a : ℕ) (o : Operand) : Type 0 where
      pub best : Best
      pub there : get_elem? held a ≡ some best
      pub known : best_of o ≡ known_of best
      pub number_is : get_or names a 0 ≡ o.number

    module _ (full : List Best) (extends : Extends full) where
      brought : {a : ℕ} {o : Operand} → Seen a o → (r : ℤ) (l : ℕ) (lines : List Line) →
          supply h (get_or full a Bests.Constant) r l (record { lines = lines; number = get_or names a 0 }) ≡ supplied h o r l lines
      brought {a} {o} s r l lines =
          (λ i. supply h (extends a s.best s.there i) r l (record { lines = lines; number = s.number_is i }))
          ∙ sym (supply_known s.best r l (record { lines = lines; number = o.number }))
          ∙ ap (λ (c : Best). supply h c r l (record { lines = lines; number = o.number })) (sym s.known)

      one : (p : Choice) (word : ℕ → Line) {a : ℕ} {o : Operand} → Seen a o → (lines : List Line) →
          plan_one h full names p word a lines
          ≡ (let d = supplied h o p.first p.level lines in emit d.lines (word d.number))
      one p word s lines = ap (λ (d : Draft). emit d.lines (word d.number)) (brought s p.first p.level lines)

      two : (p : Choice) (word : ℕ → ℕ → Line) {a a' : ℕ} {o o' : Operand} → Seen a o → Seen a' o' → (lines : List Line) →
          plan_two h full names p word a a' lines
          ≡ (let d = supplied h o p.first p.level lines in
          let e = supplied h o' p.second p.level d.lines in
          emit e.lines (word d.number e.number))
      two p word s t lines =
          (λ i.
          let d = brought s p.first p.level lines i in
          let e = brought t p.second p.level d.lines i in
          emit e.lines (word d.number e.number))

    module _ (o o' : Operand) where
      -- Line x, whose best is v, comes to the same by itself. An `out` line keeps the whole of its operand's best, of which the plan asks nothing.
      pub record Alone (x : Line) (v : Best) : Type 0 where
        pub itself : Best
        pub goes_on : step_on h x o o' ≡ goes itself
        pub level_is : (choice_of itself).level ≡ (choice_of v).level
        pub reserve_is : (choice_of itself).reserve ≡ (choice_of v).reserve
        pub lines_are : (full : List Best) → Extends full → (lines : List Line) → plan_line h full names (choice_of v) x lines ≡ line_on h (choice_of itself) x o o' lines

      abbrev pub StopsAs : Line → ℕ → Type 0
      StopsAs x n = step_on h x o o' ≡ stops n

      by : (x : Line) (s : Step Best ℕ) → step_on h x o o' ≡ s
          → ((v : Best) (full : List Best) → Extends full → (lines : List Line) → plan_line h full names (choice_of v) x lines ≡ line_on h (choice_of v) x o o' lines)
          → Outcome (StopsAs x) (Alone x) s
      by x (goes v) e f = record { itself = v; goes_on = e; level_is = refl; reserve_is = refl; lines_are = f v }
      by x (stops n) e f = e

      module _ (before : List Line) (ins : ℕ) where
        -- a value that the line may name
        abbrev Look : ℕ → Operand → Type 0
        Look a q = T (is_usable (kind_at before a)) → Seen a q

        first_usable : (a : ℕ) → T (is_usable (kind_at before a) && true) → T (is_usable (kind_at before a))
        first_usable a u = and_first (is_usable (kind_at before a)) true u

        pub alone : (x : Line) → T (is_word Circuit x) → T (every_usable before (operands x)) → Look (first_operand x) o → Look (second_operand x) o'
            → Outcome (StopsAs x) (Alone x) (step (best_machine h) ins held x)
        unfolding step_on line_on first_operand second_operand
        alone In word u f g = by In ((best_machine h).input ins) refl (λ v full e lines. refl)
        alone (Const k) word u f g = by (Const k) (goes Bests.Constant) refl (λ v full e lines. refl)
        alone (Neg a) word u f g =
            let s = f (first_usable a u) in
            outcome_found (StopsAs (Neg a)) (Alone (Neg a)) (best_machine h) held a (best_machine h).neg s.there
            (by (Neg a) ((best_machine h).neg s.best) (ap (best_machine h).neg s.known ∙ neg_known s.best) (λ v full e lines. one full e (choice_of v) Neg s lines))
        alone (Rot a t) word u f g =
            let s = f (first_usable a u) in
            outcome_found (StopsAs (Rot a t)) (Alone (Rot a t)) (best_machine h) held a (λ b. (best_machine h).rot b t) s.there
            (by (Rot a t) ((best_machine h).neg s.best) (ap (best_machine h).neg s.known ∙ neg_known s.best)
            (λ v full e lines. one full e (choice_of v) (λ i. Rot i t) s lines))
        alone (Add a a') word u f g =
            let s = f (and_first (is_usable (kind_at before a)) (is_usable (kind_at before a') && true) u) in
            let t = g (first_usable a' (and_second (is_usable (kind_at before a)) (is_usable (kind_at before a') && true) u)) in
            outcome_found (StopsAs (Add a a')) (Alone (Add a a')) (best_machine h) held a _ s.there
            (outcome_found (StopsAs (Add a a')) (Alone (Add a a')) (best_machine h) held a' ((best_machine h).add s.best) t.there
            (by (Add a a') ((best_machine h).add s.best t.best) ((λ i. (best_machine h).add (s.known i) (t.known i)) ∙ add_known s.best t.best)
            (λ v full e lines. two full e (choice_of v) Add s t lines)))
        alone (Mul a a') word u f g =
            let s = f (and_first (is_usable (kind_at before a)) (is_usable (kind_at before a') && true) u) in
            let t = g (first_usable a' (and_second (is_usable (kind_at before a)) (is_usable (kind_at before a') && true) u)) in
            outcome_found (StopsAs (Mul a a')) (Alone (Mul a a')) (best_machine h) held a _ s.there
            (outcome_found (StopsAs (Mul a a')) (Alone (Mul a a')) (best_machine h) held a' ((best_machine h).mul s.best) t.there
            (by (Mul a a') ((best_machine h).mul s.best t.best) ((λ i. (best_machine h).mul (s.known i) (t.known i)) ∙ mul_known s.best t.best)
            (λ v full e lines. two full e (choice_of v) Mul s t lines)))
        alone (Out a) word u f g =
            let s = f (first_usable a u) in
            outcome_found (StopsAs (Out a)) (Alone (Out a)) (best_machine h) held a (best_machine h).out s.there (out s.best s.known s.number_is)
          where
            out : (b : Best) → best_of o ≡ known_of b → get_or names a 0 ≡ o.number → Outcome (StopsAs (Out a)) (Alone (Out a)) ((best_machine h).out b)
            out Bests.Constant e n = ap (best_machine h).out e
            out (Bests.Ciphertext p) e n =
                record {
                  itself = known_of (Bests.Ciphertext p);
                  goes_on = ap (best_machine h).out e;
                  level_is = refl;
                  reserve_is = refl;
                  lines_are = λ full ext lines. ap (λ (n : ℕ). emit lines (Out n)) n;
                }
        alone (Enc a s e) word u f g = absurd word
        alone (Rs a c) word u f g = absurd word
        alone (Ms a c) word u f g = absurd word
        alone (Us a b) word u f g = absurd word
        alone Free word u f g = absurd word
