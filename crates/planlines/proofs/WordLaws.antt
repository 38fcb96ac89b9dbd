-- Any line of a circuit that goes on with it: its operands can be brought to where its choice asks, and what is written is the plan's. A law for
-- each word. Assumes nothing.
use Prim.Native.Nat.{ℕ, ◌+◌, ◌-◌, ◌*◌, ◌/◌, ◌≤◌, min}
use native.Mathlib.Nat.{min-le_right}
use native.Mathlib.Omega.{arith}
use mathlib.Core.Path.{◌≡◌, refl, sym, ap, ◌∙◌, subst}
use mathlib.Core.Bool.{Bool, true, false, cond}
use mathlib.Core.List.{List, [], ◌∷◌}
use borrow.Author.Rules.{rules}
use lib.IntN.{ℤ, pos, ◌-ℤ◌}
use lib.Signed.{◌≤ℤ◌}
use Rattle.ints.specs.Parts.{positive, negative}
use Rattle.ints.proofs.Linear.{signed, is_positive, positive_sub}
use Rattle.model.specs.declared.Header.{Header}
use Rattle.model.specs.declared.Line.{Line}
use Rattle.model.specs.declared.Line.TheVariants.{In, Const, Neg, Rot, Add, Mul, Out, Enc, Rs, Ms, Us, Free}
use Rattle.model.specs.declared.Choice.{Choice}
use Rattle.model.specs.declared.Best.{Best}
use Rattle.model.specs.declared.Best.TheVariants as Bests
use Rattle.model.specs.Scales.{headroom}
use Rattle.model.specs.Files.{operands}
use Rattle.model.specs.Machine.{Step, goes, stops}
use Rattle.model.specs.Plan.{Draft, emit, smaller, unchanged_choice, times_constant_choice, constant_times_choice, product_choice, unless_too_few, choice_of, best_machine}
use Rattle.model.proofs.Tests.{HeaderFacts, header_facts}
use Rattle.model.proofs.Runs.{stops_goes, goes_is}
use Rattle.model.proofs.Outcomes.{Outcome, AnyReason}
use Rattle.model.proofs.Chosen.{unless_too_few_elim}
use Rattle.model.proofs.Supplies.{few_bits, Valid, ValidBest}
use Rattle.model.proofs.Supplies as Supplies
use Rattle.model.proofs.Meets.{Meets, meets_one, meets_sum, meets_times_constant, meets_constant_times, meets_product}
use Rattle.operands.specs.declared.OperandsOf.{OperandsOf}
use Rattle.operands.specs.declared.OperandsOf.TheVariants.{None, One, Two}
use Rattle.operands.specs.Operands.{operands_in}
use Rattle.conversions.specs.declared.Drafted.{Drafted}
use Rattle.conversions.specs.declared.Operand.{Operand}
use Rattle.conversions.specs.Drafts.{Wrote}
use Rattle.conversions.specs.Operands.{best_of, supplied, Reaches}
use Rattle.linechoices.specs.Steps.{step_on}
use Rattle.linechoices.proofs.WordLaws.{neg_step, rot_step, add_step, mul_step, out_step}
use Rattle.planlines.specs.Lines.{line_on, with_one, with_two, Plannable, DoneAs}
use Rattle.tables.specs.declared.Record.{Record}

-- ---- what the words ask of their operands
module _ (h : Header) (H : HeaderFacts h) where
  -- b and b' can be brought to where v asks
  abbrev Met : Best → Best → Best → Type 0
  Met b b' v = Meets h H (choice_of v) b b'

  tested : (p : Choice) (b b' : Best) → (pos (headroom h) ≤ℤ p.reserve → Meets h H p b b') → Outcome AnyReason (Met b b') (unless_too_few h p)
  tested p b b' m = unless_too_few_elim h p (Outcome AnyReason (Met b b')) tt m

  kept_met : (b : Best) → ValidBest h H b → Outcome AnyReason (Met b b) ((best_machine h).neg b)
  kept_met Bests.Constant v = tt
  kept_met (Bests.Ciphertext q) v = tested (unchanged_choice h q.reserve) (Bests.Ciphertext q) (Bests.Ciphertext q) (λ o. meets_one h H q v)

  sum_met : (b b' : Best) → ValidBest h H b → ValidBest h H b' → Outcome AnyReason (Met b b') ((best_machine h).add b b')
  sum_met Bests.Constant Bests.Constant v v' = tt
  sum_met Bests.Constant (Bests.Ciphertext q) v v' =
      tested (unchanged_choice h q.reserve) Bests.Constant (Bests.Ciphertext q) (λ o.
      let m = meets_one h H q v' in
      record { first = m.first; second = m.second; own = m.own; first_reached = tt; second_reached = m.second_reached })
  sum_met (Bests.Ciphertext q) Bests.Constant v v' =
      tested (unchanged_choice h q.reserve) (Bests.Ciphertext q) Bests.Constant (λ o.
      let m = meets_one h H q v in
      record { first = m.first; second = m.second; own = m.own; first_reached = m.first_reached; second_reached = tt })
  sum_met (Bests.Ciphertext q) (Bests.Ciphertext q') v v' =
      tested (unchanged_choice h (smaller q.reserve q'.reserve)) (Bests.Ciphertext q) (Bests.Ciphertext q') (λ o. meets_sum h H q q' v v')

  product_met : (b b' : Best) → ValidBest h H b → ValidBest h H b' → Outcome AnyReason (Met b b') ((best_machine h).mul b b')
  product_met Bests.Constant Bests.Constant v v' = tt
  product_met Bests.Constant (Bests.Ciphertext q) v v' =
      tested (constant_times_choice h q.reserve) Bests.Constant (Bests.Ciphertext q) (λ o. meets_constant_times h H q v' o)
  product_met (Bests.Ciphertext q) Bests.Constant v v' =
      tested (times_constant_choice h q.reserve) (Bests.Ciphertext q) Bests.Constant (λ o. meets_times_constant h H q v o)
  product_met (Bests.Ciphertext q) (Bests.Ciphertext q') v v' =
      tested (product_choice h q.reserve q'.reserve) (Bests.Ciphertext q) (Bests.Ciphertext q') (λ o. meets_product h H q q' v v' o)

  -- an operand that is known is valid, and can be brought to where it is asked
  module _ (o : Operand) (P : Plannable h o) where
    abbrev known : Bool → Best
    known c = cond c (Bests.Ciphertext (record { level = o.level; reserve = o.reserve; first = o.reserve; second = o.reserve })) Bests.Constant

    valid : ValidBest h H (best_of o)
    valid = go o.ciphertext refl
      where
        go : (c : Bool) → o.ciphertext ≡ c → ValidBest h H (known c)
        go true e =
            let s = P.stands e in
            record { whole = is_positive o.reserve P.small.low; fits = s.fits; least = s.least; top = s.top }
        go false e = tt

    reach : (r : ℤ) (l : ℕ) → Valid h H r l → Supplies.Reaches h H (best_of o) r l → Reaches h o r l
    reach r l v m =
        record {
          factor = H.factor.least;
          modulus = few_bits h H l v.top;
          level = omega (arith, v.top, H.top.most);
          whole = omega (signed, ap negative v.whole);
          below = omega (arith, v.fits);
          falls = λ e.
              let s = P.stands e in
              let below : Supplies.Reaches h H (known true) r l = subst (λ (c : Bool). Supplies.Reaches h H (known c) r l) e m in
              record {
                whole = P.small.low;
                most = omega (arith, s.fits, few_bits h H o.level s.top);
                top = omega (arith, s.top, H.top.most);
                reserve = below.0;
                level = below.1;
              };
        }

    -- as it is
    own_reach : o.ciphertext ≡ true → Reaches h o o.reserve o.level
    own_reach e =
        reach o.reserve o.level (subst (λ (c : Bool). ValidBest h H (known c)) e valid)
        (subst (λ (c : Bool). Supplies.Reaches h H (known c) o.reserve o.level) (sym e) (omega arith, omega arith))

    own_supplied : o.ciphertext ≡ true → (lines : List Line) → supplied h o o.reserve o.level lines ≡ record { lines = lines; number = o.number }
    own_supplied e lines = rw (e, none, no_levels, no_switches, no_bits)
      where
        none : positive (o.reserve -ℤ o.reserve) ≡ 0
        none = ap positive (λ i. whole i -ℤ whole i) ∙ positive_sub (positive o.reserve) (positive o.reserve) ∙ omega arith
          where
            whole : o.reserve ≡ pos (positive o.reserve)
            whole = is_positive o.reserve P.small.low

        no_levels : o.level - o.level ≡ 0
        no_levels = omega arith

        no_bits : 0 * h.factor ≡ 0
        no_bits = omega arith

        no_switches : min (0 / h.factor) 0 ≡ 0
        no_switches = omega (arith, min-le_right (0 / h.factor) 0)

-- ---- line x, done as p says
module _ (h : Header) (x : Line) (a b : Operand) (p : Choice) (D : DoneAs h x a b p) where
  H : HeaderFacts h
  H = header_facts h D.range_held

  valid_first : ValidBest h H (best_of a)
  valid_first = valid h H a D.first

  valid_second : ValidBest h H (best_of b)
  valid_second = valid h H b D.second

  -- where the line's step is s
  meets : (s : Step Best ℕ) → step_on h x a b ≡ s → (b' : Best) → Outcome AnyReason (Met h H (best_of a) b') s → Meets h H p (best_of a) b'
  meets s is b' o =
      subst (λ (q : Choice). Meets h H q (best_of a) b') (sym D.is) (subst (Outcome AnyReason (Met h H (best_of a) b')) (sym is ∙ D.goes_on) o)

  never : {P : Type 0} (n : ℕ) → step_on h x a b ≡ stops n → P
  never n e = stops_goes (sym e ∙ D.goes_on)

  -- ---- its lines, by the values that it names
  record Single : Type 0 where
    reached : Reaches h a p.first p.level
    lines_are : (lines : List Line) → with_one h p x a lines ≡ line_on h p x a b lines

  record Double : Type 0 where
    first_reached : Reaches h a p.first p.level
    second_reached : Reaches h b p.second p.level
    lines_are : (lines : List Line) → with_two h p x a b lines ≡ line_on h p x a b lines

  abbrev ByOperands : List ℕ → Type 0
  ByOperands [] = (lines : List Line) → emit lines x ≡ line_on h p x a b lines
  ByOperands (i ∷ []) = Single
  ByOperands (i ∷ j ∷ []) = Double
  ByOperands (i ∷ j ∷ k ∷ names) = Unit {0}

  kept : step_on h x a b ≡ (best_machine h).neg (best_of a) → Reaches h a p.first p.level
  kept is =
      let m = meets ((best_machine h).neg (best_of a)) is (best_of a) (kept_met h H (best_of a) valid_first) in
      reach h H a D.first p.first p.level m.first m.first_reached

  double : Meets h H p (best_of a) (best_of b) → ((lines : List Line) → with_two h p x a b lines ≡ line_on h p x a b lines) → Double
  double m e =
      record {
        first_reached = reach h H a D.first p.first p.level m.first m.first_reached;
        second_reached = reach h H b D.second p.second p.level m.second m.second_reached;
        lines_are = e;
      }

  -- `out` names a ciphertext, as it is
  out_single : (i : ℕ) → x ≡ Out i → (t : Bool) → a.ciphertext ≡ t → (best_machine h).out (known h H a D.first t) ≡ goes D.best → Single
  unfolding line_on with_one
  out_single i e false c q = stops_goes q
  out_single i e true c q =
      let own : choice_of (known h H a D.first true) ≡ p = ap choice_of (goes_is q) ∙ sym D.is in
      record {
        reached = subst (λ (q : Choice). Reaches h a q.first q.level) own (own_reach h H a D.first c);
        lines_are = λ lines.
            subst (λ (q : Choice). with_one h q x a lines ≡ line_on h q x a b lines) own
            (rw e (ap (λ (d : Draft). emit d.lines (Out d.number)) (own_supplied h H a D.first c lines)));
      }

  by_word : (y : Line) → x ≡ y → ByOperands (operands y)
  unfolding step_on line_on with_one with_two
  by_word In e = λ lines. rw e
  by_word (Const k) e = λ lines. rw e
  by_word (Neg i) e = record { reached = kept (neg_step h x a b i e); lines_are = λ lines. rw e }
  by_word (Rot i t) e = record { reached = kept (rot_step h x a b i t e); lines_are = λ lines. rw e }
  by_word (Add i j) e =
      double (meets ((best_machine h).add (best_of a) (best_of b)) (add_step h x a b i j e) (best_of b) (sum_met h H (best_of a) (best_of b) valid_first valid_second)) (λ lines. rw e)
  by_word (Mul i j) e =
      double (meets ((best_machine h).mul (best_of a) (best_of b)) (mul_step h x a b i j e) (best_of b) (product_met h H (best_of a) (best_of b) valid_first valid_second)) (λ lines. rw e)
  by_word (Out i) e = out_single i e a.ciphertext refl (sym (out_step h x a b i e) ∙ D.goes_on)
  by_word (Enc i s l) e = never 1 (rw e)
  by_word (Rs i n) e = never 1 (rw e)
  by_word (Ms i n) e = never 1 (rw e)
  by_word (Us i n) e = never 1 (rw e)
  by_word Free e = never 4 (rw e)

  module _ (o : OperandsOf) (named : operands_in o ≡ operands x) where
    by_operands : (v : OperandsOf) → o ≡ v → ByOperands (operands_in v)
    by_operands v e = subst ByOperands (sym named ∙ ap operands_in e) (by_word x refl)

    pub one_reach : (i : ℕ) → o ≡ One i → Reaches h a p.first p.level
    one_reach i e = (by_operands (One i) e).reached

    module _ (i j : ℕ) (e : o ≡ Two i j) where
      pub first_reach : Reaches h a p.first p.level
      first_reach = (by_operands (Two i j) e).first_reached

      pub second_reach : Reaches h b p.second p.level
      second_reach = (by_operands (Two i j) e).second_reached

    module _ (lines : List Line) (count : ℕ) (r : Drafted) (after : List Record) where
      abbrev Planned : Type 0
      Planned = Wrote (line_on h p x a b lines) (count + 7) r after

      as_chosen : {d : Draft} → d ≡ line_on h p x a b lines → {most : ℕ} → most ≤ count + 7 → Wrote d most r after → Planned
      as_chosen f more w = record { same = w.same ∙ f; few = omega (arith, w.few); long = w.long }

      pub none_planned : o ≡ None → Wrote (emit lines x) (count + 1) r after → Planned
      none_planned e w = as_chosen (by_operands None e lines) (omega arith) w

      pub one_planned : (i : ℕ) → o ≡ One i → Wrote (with_one h p x a lines) (count + 4) r after → Planned
      one_planned i e w = as_chosen ((by_operands (One i) e).lines_are lines) (omega arith) w

      pub two_planned : (i j : ℕ) → o ≡ Two i j → Wrote (with_two h p x a b lines) (count + 7) r after → Planned
      two_planned i j e w = as_chosen ((by_operands (Two i j) e).lines_are lines) (omega arith) w

pub ruleset operand_laws = (rules, one_reach, first_reach, second_reach, none_planned, one_planned, two_planned)
