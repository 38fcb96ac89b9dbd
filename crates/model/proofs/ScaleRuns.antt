-- The scale machine and the rules are one: a schedule that it runs to the end keeps the rules, by the machine's own tests, and a well-formed schedule
-- that keeps them it runs to the end, with just the scales and levels that keep them. Assumes nothing.
use Prim.Native.Nat.{ℕ, zero, ◌+◌, ◌*◌, ◌<◌}
use native.Mathlib.Omega.{arith}
use mathlib.Core.Path.{◌≡◌, sym, ap, ap₂, ◌∙◌, subst, subst₂}
use mathlib.Core.Bool.{Bool, true, false, not, cond, ◌||◌}
use mathlib.Core.List.{List, [], map, zip_with}
use mathlib.Core.Option.{some}
use lib.Dec.{T, eqb, eqb→eq}
use lib.ListN.{length, get_or, get_elem?}
use lib.IntN.{ℤ, pos, neg_ℤ, ◌+ℤ◌, ◌-ℤ◌, ◌*ℤ◌}
use lib.Signed.{le_z, lt_z}
use Rattle.ints.specs.Parts.{positive}
use Rattle.ints.proofs.Linear.{not_lt_parts, parts_le}
use Rattle.model.specs.declared.Header.{Header}
use Rattle.model.specs.declared.Line.{Line}
use Rattle.model.specs.declared.Line.TheVariants.{In, Const, Neg, Rot, Add, Mul, Out, Enc, Rs, Ms, Us, Free}
use Rattle.model.specs.declared.Grammar.TheVariants.{Schedule}
use Rattle.model.specs.declared.Kind.{Kind}
use Rattle.model.specs.declared.Kind.TheVariants.{Ciphertext, Constant, Encoded, Nothing}
use Rattle.model.specs.Scales.{headroom}
use Rattle.model.specs.Files.{kind_at, is_ciphertext, is_encoded, is_usable, well_formed}
use Rattle.model.specs.Machine.{Step, stops, finished, and_then, held_by, step, run}
use Rattle.model.specs.Rules.{Rule, Bounds, has_scale, KeepsRules}
use Rattle.model.specs.Machines.{Vector, Handed, Reason, levels_differ, scales_differ, remainder, other_kind, below_waterline, above_modulus, Holding, bare, scaled, rotated, times_two_to, over_two_to, no_remainder, if_bounded, on_scaled, scaled_sum, scaled_product, rescaled, plain_machine, scale_machine}
use Rattle.model.specs.declared.Found.{Found}
use Rattle.model.specs.declared.Found.TheVariants as Founds
use Rattle.model.specs.Answers.{check_machine}
use Rattle.model.proofs.Statements.ScaleMachine as ScaleMachine
use Rattle.model.proofs.Tests.{header_facts}
use Rattle.model.proofs.Lists.{found_is, front2, beside}
use Rattle.model.proofs.Kept.{Finished}
use Rattle.model.proofs.Erasing.{through}
use Rattle.model.proofs.Bounded.{Tested, tested}
use Rattle.model.proofs.Outcomes.{Outcome, AnyReason, outcome_operand, stepped}
use Rattle.model.proofs.Formed.{well_header, Matched}
use Rattle.model.proofs.Checked as checked
use Rattle.model.proofs.Checked.{found_kind, taken, Agrees, keeps_agrees}
use Rattle.model.proofs.Exactly.{Agree, agreeing}

-- ---- the scale and the level that a line if_bounded, 0 for a bare constant
abbrev scale_of : Holding → ℕ
scale_of (bare v) = 0
scale_of (scaled s l v) = s

abbrev level_of : Holding → ℕ
level_of (bare v) = 0
level_of (scaled s l v) = l

abbrev scale_in : List Holding → ℕ → ℕ
scale_in held i = scale_of (get_or held i (bare []))

abbrev level_in : List Holding → ℕ → ℕ
level_in held i = level_of (get_or held i (bare []))

-- ---- tests
at_least : (a b : ℤ) → T (not (lt_z a b)) → T (le_z b a)
at_least a b t = parts_le b a (not_lt_parts a b t)

not_not : (b : Bool) → T (not (not b)) → T b
not_not true t = tt
not_not false t = t

-- ---- what the machine's combinators come to, where P is wanted of the value
module _ (P : Holding → Type 0) where
  -- a stop is passed where its test fails
  on_stop : (b : Bool) (e : Reason) (r : Step Holding Reason) → (T (not b) → Outcome AnyReason P r) → Outcome AnyReason P (cond b (stops e) r)
  on_stop true e r k = tt
  on_stop false e r k = k tt

  -- a test that two numbers are equal
  on_equal : (m n : ℕ) (e : Reason) (r : Step Holding Reason) → (m ≡ n → Outcome AnyReason P r) → Outcome AnyReason P (cond (not (eqb m n)) (stops e) r)
  on_equal m n e r k = on_stop (not (eqb m n)) e r (λ t. k (eqb→eq m n (not_not (eqb m n) t)))

  -- an held_by that has a scale, and one that has none
  on_scaled_lem : (f : ℕ → ℕ → Vector → Step Holding Reason) (y : Holding) → ((v : Vector) → Outcome AnyReason P (f (scale_of y) (level_of y) v)) → Outcome AnyReason P (on_scaled f y)
  on_scaled_lem f (bare v) k = tt
  on_scaled_lem f (scaled s l v) k = k v

  on_bare_lem : (f : Vector → Step Holding Reason) (y : Holding) → ((v : Vector) → Outcome AnyReason P (f v))
      → Outcome {E = Reason} AnyReason P (elim y [ bare v ↦ f v | scaled s l v ↦ stops other_kind ])
  on_bare_lem f (bare v) k = k v
  on_bare_lem f (scaled s l v) k = tt

  -- scale and level are whole and within W ≤ scale ≤ F·level
  on_holds : (h : Header) → zero < h.waterline → (s l : ℤ) (v : Vector) → (Tested h s l → P (scaled (positive s) (positive l) v)) → Outcome AnyReason P (if_bounded h s l v)
  on_holds h W⁺ s l v k =
      on_stop (lt_z s (pos h.waterline)) below_waterline _ (λ t.
      on_stop (lt_z (pos h.factor *ℤ l) (s +ℤ pos (headroom h))) above_modulus _ (λ u.
      k (tested h W⁺ s l (at_least s (pos h.waterline) t) (at_least (pos h.factor *ℤ l) (s +ℤ pos (headroom h)) u))))

-- ---- a run that finished: each line keeps its rule
-- line x, the i-th, by the numbers of the final list
record KeptAt (h : Header) (final : List Holding) (i : ℕ) (x : Line) : Type 0 where
  rule : Rule h (scale_in final) (level_in final) i x
  bounds : T (has_scale x) → Bounds h (scale_in final i) (level_in final i)

-- the same, where the line holds y in the end
abbrev Ruled : Header → List Holding → ℕ → Line → Holding → Type 0
Ruled h final i x y = scale_in final i ≡ scale_of y → level_in final i ≡ level_of y → KeptAt h final i x

module _ (H : Handed) (h : Header) (W⁺ : zero < h.waterline) (final : List Holding) (i : ℕ) where
  holds_ruled : (x : Line) (s l : ℤ) (v : Vector) → (Tested h s l → scale_in final i ≡ positive s → level_in final i ≡ positive l → Rule h (scale_in final) (level_in final) i x)
      → Outcome AnyReason (Ruled h final i x) (if_bounded h s l v)
  holds_ruled x s l v k = on_holds (Ruled h final i x) h W⁺ s l v (λ t r u. record { rule = k t r u; bounds = λ c. subst₂ (Bounds h) (sym r) (sym u) t.bounds })

  module _ (ins : ℕ) (held : List Holding) (among : (a : ℕ) (y : Holding) → get_elem? held a ≡ some y → get_elem? final a ≡ some y) where
    -- a word on one value
    one : (x : Line) (a : ℕ) (f : Holding → Step Holding Reason)
        → ((y : Holding) → scale_in final a ≡ scale_of y → level_in final a ≡ level_of y → Outcome AnyReason (Ruled h final i x) (f y))
        → Outcome AnyReason (Ruled h final i x) (and_then (held_by (scale_machine H h) held a) f)
    one x a f k = outcome_operand AnyReason (Ruled h final i x) (scale_machine H h) held a f tt
        (λ y e. let g = found_is final a (bare []) (among a y e) in k y (ap scale_of g) (ap level_of g))

    -- a word on one value with a scale
    unary : (x : Line) (a : ℕ) (f : ℕ → ℕ → Vector → Step Holding Reason)
        → ((s l : ℕ) (v : Vector) → scale_in final a ≡ s → level_in final a ≡ l → Outcome AnyReason (Ruled h final i x) (f s l v))
        → Outcome AnyReason (Ruled h final i x) (and_then (held_by (scale_machine H h) held a) (on_scaled f))
    unary x a f k = one x a (on_scaled f) (λ y p q. on_scaled_lem (Ruled h final i x) f y (λ v. k (scale_of y) (level_of y) v p q))

    -- a word on two values with scales
    binary : (x : Line) (a b : ℕ) (f : ℕ → ℕ → Vector → ℕ → ℕ → Vector → Step Holding Reason)
        → ((s l : ℕ) (v : Vector) (s' l' : ℕ) (v' : Vector) → scale_in final a ≡ s → level_in final a ≡ l → scale_in final b ≡ s' → level_in final b ≡ l'
        → Outcome AnyReason (Ruled h final i x) (f s l v s' l' v'))
        → Outcome AnyReason (Ruled h final i x)
        (and_then (held_by (scale_machine H h) held a) (λ y. and_then (held_by (scale_machine H h) held b) (λ y'. on_scaled (λ s l v. on_scaled (f s l v) y') y)))
    binary x a b f k = one x a _ (λ y p q. one x b _ (λ y' p' q'.
        on_scaled_lem (Ruled h final i x) (λ s l v. on_scaled (f s l v) y') y (λ v.
        on_scaled_lem (Ruled h final i x) (f (scale_of y) (level_of y) v) y' (λ v'. k (scale_of y) (level_of y) v (scale_of y') (level_of y') v' p q p' q'))))

    ruled : (x : Line) → Outcome AnyReason (Ruled h final i x) (step (scale_machine H h) ins held x)
    ruled In = holds_ruled In (pos h.waterline) (pos h.top) _ (λ t r u. (r, u))
    ruled (Const k) = λ r u. record { rule = tt; bounds = λ c. absurd c }
    ruled (Neg a) = unary (Neg a) a _ (λ s l v p q. holds_ruled (Neg a) (pos s) (pos l) (map neg_ℤ v) (λ t r u. omega arith))
    ruled (Rot a n) = unary (Rot a n) a _ (λ s l v p q. holds_ruled (Rot a n) (pos s) (pos l) (rotated H.slots n v) (λ t r u. omega arith))
    ruled (Add a b) = binary (Add a b) a b (scaled_sum h) (λ s l v s' l' v' p q p' q'.
        on_equal (Ruled h final i (Add a b)) l l' levels_differ _ (λ e. on_equal (Ruled h final i (Add a b)) s s' scales_differ _ (λ f.
        holds_ruled (Add a b) (pos s) (pos l) (zip_with ◌+ℤ◌ v v') (λ t r u. omega arith))))
    ruled (Mul a b) = binary (Mul a b) a b (scaled_product h) (λ s l v s' l' v' p q p' q'.
        on_equal (Ruled h final i (Mul a b)) l l' levels_differ _ (λ e.
        holds_ruled (Mul a b) (pos (s + s')) (pos l) (zip_with ◌*ℤ◌ v v') (λ t r u. omega arith)))
    ruled (Out a) = unary (Out a) a _ (λ s l v p q. holds_ruled (Out a) (pos s) (pos l) v (λ t r u. omega arith))
    ruled (Enc a s e) = one (Enc a s e) a _ (λ y p q. on_bare_lem (Ruled h final i (Enc a s e)) (λ v. if_bounded h (pos s) (pos e) (times_two_to s v)) y (λ v.
        holds_ruled (Enc a s e) (pos s) (pos e) (times_two_to s v) (λ t r u. (r, u))))
    ruled (Rs a c) = unary (Rs a c) a (rescaled h c) (λ s l v p q.
        on_stop (Ruled h final i (Rs a c)) (not (no_remainder (h.factor * c) v)) remainder _ (λ n.
        holds_ruled (Rs a c) (pos s -ℤ pos (h.factor * c)) (pos l -ℤ pos c) (over_two_to (h.factor * c) v)
        (λ t r u. omega (arith, taken s (h.factor * c) t.whole_scale, taken l c t.whole_level))))
    ruled (Ms a c) = unary (Ms a c) a _ (λ s l v p q. holds_ruled (Ms a c) (pos s) (pos l -ℤ pos c) v (λ t r u. omega (arith, taken l c t.whole_level)))
    ruled (Us a b) = unary (Us a b) a _ (λ s l v p q. holds_ruled (Us a b) (pos (s + b)) (pos l) (times_two_to b v) (λ t r u. omega arith))
    ruled Free = tt

module _ (H : Handed) (h : Header) (W⁺ : zero < h.waterline) (schedule : List Line) {final : List Holding} (e : run (scale_machine H h) schedule ≡ finished final) where
  kept_at : (i : ℕ) → i < length schedule → KeptAt h final i (get_or schedule i Free)
  kept_at i b =
      let p = (stepped (scale_machine H h) schedule e).line i b in
      let g = found_is final i (bare []) p.there in
      subst (Outcome AnyReason (Ruled h final i (get_or schedule i Free))) p.steps (ruled H h W⁺ final i p.ins p.held p.among (get_or schedule i Free))
      (ap scale_of g) (ap level_of g)

  run_keeps : KeepsRules h schedule
  run_keeps = record { scale = scale_in final; level = level_in final; rules = λ i b. (kept_at i b).rule; bounds = λ i b. (kept_at i b).bounds }

-- ---- a well-formed schedule that keeps the rules
-- y has the numbers that the check finds, where it finds any
abbrev SameNumbers : Found → Holding → Type 0
SameNumbers x y = T (is_ciphertext (found_kind x) || is_encoded (found_kind x)) → (v : Vector) × (y ≡ scaled (checked.scale_of x) (checked.level_of x) v)

agree_numbers : (H : Handed) (h : Header) (x : Found) (y : Holding) (w : Vector) → Agree H h x y w → SameNumbers x y
agree_numbers H h Founds.Bare y w a c = absurd c
agree_numbers H h (Founds.Encoded s l) y w a c = (times_two_to s w, a.held)
agree_numbers H h (Founds.Ciphertext s l) y w a c = (times_two_to s w, a.held)

-- what has a scale can be named
scale_usable : (k : Kind) → T (is_ciphertext k || is_encoded k) → T (is_usable k)
scale_usable Ciphertext c = tt
scale_usable Constant c = absurd c
scale_usable Encoded c = tt
scale_usable Nothing c = absurd c

module _ (H : Handed) (h : Header) (schedule : List Line) (formed : T (well_formed Schedule h schedule)) where
  keeps_runs : (keeps : KeepsRules h schedule) → ScaleMachine.RunsToEnd H h schedule keeps
  keeps_runs keeps =
      record {
        held = runs.second;
        runs = runs.second_is;
        numbers = λ i b c.
            let n = check.2.named i (scale_usable (kind_at schedule i) c) in
            let y = beside (front2 (agree_numbers H h) runs.related) i n.there in
            let v = y.related (subst (λ (k : Kind). T (is_ciphertext k || is_encoded k)) (sym n.fits.kind) c) in
            record {
              vector = v.0;
              there = y.there ∙ ap some (v.1 ∙ ap₂ (λ (s l : ℕ). scaled s l v.0) (n.fits.scale_is c) (n.fits.level_is c));
            };
      }
    where
      check : (found : List Found) × (run (check_machine h) schedule ≡ finished found) × Matched (Agrees h keeps.scale keeps.level) schedule found
      check = keeps_agrees h schedule formed keeps

      runs : Finished (Agree H h) check.0 (run (scale_machine H h) schedule) (run (through (plain_machine H)) schedule)
      runs = agreeing H h schedule check.1

  pub is_the_rules : ScaleMachine.IsTheRules H h schedule
  is_the_rules =
      record {
        runs_if = keeps_runs;
        runs_only = λ held e. run_keeps H h (header_facts h (well_header Schedule h schedule formed)).waterline.least schedule e;
      }
