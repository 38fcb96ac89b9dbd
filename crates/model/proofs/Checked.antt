-- The check's verdict is the rules: a schedule through which the check runs to the end keeps them, and through a well-formed schedule that
-- keeps them it does. Assumes nothing.
use Prim.Native.Nat.{ℕ, ◌+◌, ◌*◌, ◌<◌}
use native.Mathlib.Omega.{arith}
use mathlib.Core.Path.{◌≡◌, refl, sym, ap, ap₂, ◌∙◌, subst, subst₂}
use mathlib.Core.Logic.{◌↔◌}
use mathlib.Core.Bool.{not, ◌&&◌, ◌||◌}
use mathlib.Core.List.{List, ◌∷◌, ◌++◌}
use mathlib.Core.Option.{some, some-injective}
use lib.Dec.{T, eqb, T_not}
use lib.ListN.{length, get_or, get_elem?}
use lib.IntN.{ℤ, pos, ◌+ℤ◌, ◌-ℤ◌, ◌*ℤ◌}
use lib.Signed.{le_z}
use Rattle.ints.specs.Parts.{positive, negative}
use Rattle.ints.proofs.Linear.{parts-, ≡-goal}
use Rattle.model.specs.declared.Header.{Header}
use Rattle.model.specs.declared.Line.{Line}
use Rattle.model.specs.declared.Line.TheVariants.{In, Const, Neg, Rot, Add, Mul, Out, Enc, Rs, Ms, Us, Free}
use Rattle.model.specs.declared.Grammar.TheVariants.{Schedule}
use Rattle.model.specs.declared.Kind.{Kind}
use Rattle.model.specs.declared.Kind.TheVariants.{Ciphertext, Constant, Encoded}
use Rattle.model.specs.declared.Answer.{Answer}
use Rattle.model.specs.declared.Answer.TheVariants.{Done, Refused}
use Rattle.model.specs.Scales.{header_in_range, headroom}
use Rattle.rows.specs.Rows.{place_of}
use Rattle.model.specs.Files.{is_word, in_range, is_ciphertext, is_constant, is_encoded, is_pair, well_formed}
use Rattle.model.specs.Machine.{Step, Run, finished, stopped, and_then, held_by, step, run}
use Rattle.model.specs.Rules.{Rule, Bounds, has_scale, KeepsRules}
use Rattle.model.specs.Demands.{is_ciphertext_line}
use Rattle.model.specs.declared.Found.{Found}
use Rattle.model.specs.declared.Found.TheVariants as Founds
use Rattle.model.specs.Answers.{bounded, on_bare, on_ciphertext, on_pair, sum, product, check_machine, rules_answer}
use Rattle.model.proofs.Lists.{found_below, found_is}
use Rattle.model.proofs.Bounded.{bounded_goes, bounded_cases, sum_cases, product_cases, Tested, tested}
use Rattle.model.proofs.Tests.{and_first, and_second, or_cases, or_first, or_second, eq_passes, header_facts}
use Rattle.model.proofs.Outcomes.{Outcome, AnyReason, NoReason, outcome_goes, outcome_operand, finishes, stepped}
use Rattle.model.proofs.Formed.{well_header, well_lines, line_place, Matched, Result, OnOperand, OnOperands, OnOne, OnTwo, Duty, formed_run}

-- ---- what the check finds: its kind, and its numbers where it has them
abbrev pub found_kind : Found → Kind
found_kind Founds.Bare = Constant
found_kind (Founds.Encoded s l) = Encoded
found_kind (Founds.Ciphertext s l) = Ciphertext

abbrev pub scale_of : Found → ℕ
scale_of Founds.Bare = 0
scale_of (Founds.Encoded s l) = s
scale_of (Founds.Ciphertext s l) = s

abbrev pub level_of : Found → ℕ
level_of Founds.Bare = 0
level_of (Founds.Encoded s l) = l
level_of (Founds.Ciphertext s l) = l

abbrev pub InBounds : Header → Found → Type 0
InBounds h Founds.Bare = Unit {0}
InBounds h (Founds.Encoded s l) = Bounds h s l
InBounds h (Founds.Ciphertext s l) = Bounds h s l

-- the scales and levels that a finished check found
abbrev pub scale_in : List Found → ℕ → ℕ
scale_in found i = scale_of (get_or found i Founds.Bare)

abbrev pub level_in : List Found → ℕ → ℕ
level_in found i = level_of (get_or found i Founds.Bare)

-- ---- what the check's combinators come to, where the reasons A are allowed and P is wanted of the value
module _ (A : ℕ → Type 0) (P : Found → Type 0) where
  pub on_bare_lem : (r : Step Found ℕ) (v : Found) → (T (not (is_constant (found_kind v))) → A 5) → Outcome A P r → Outcome A P (on_bare r v)
  on_bare_lem r Founds.Bare n p = p
  on_bare_lem r (Founds.Encoded s l) n p = n tt
  on_bare_lem r (Founds.Ciphertext s l) n p = n tt

  pub on_ciphertext_lem : (f : ℕ → ℕ → Step Found ℕ) (v : Found) → (T (not (is_ciphertext (found_kind v))) → A 5) → Outcome A P (f (scale_of v) (level_of v))
      → Outcome A P (on_ciphertext f v)
  on_ciphertext_lem f Founds.Bare n p = n tt
  on_ciphertext_lem f (Founds.Encoded s l) n p = n tt
  on_ciphertext_lem f (Founds.Ciphertext s l) n p = p

  pub on_pair_lem : (f : ℕ → ℕ → ℕ → ℕ → Step Found ℕ) (v w : Found) → (T (not (is_pair Schedule (found_kind v) (found_kind w))) → A 5)
      → Outcome A P (f (scale_of v) (level_of v) (scale_of w) (level_of w)) → Outcome A P (on_pair f v w)
  on_pair_lem f Founds.Bare w n p = n tt
  on_pair_lem f (Founds.Encoded s l) w n p = on_ciphertext_lem (f s l) w n p
  on_pair_lem f (Founds.Ciphertext s l) Founds.Bare n p = n tt
  on_pair_lem f (Founds.Ciphertext s l) (Founds.Encoded s' l') n p = p
  on_pair_lem f (Founds.Ciphertext s l) (Founds.Ciphertext s' l') n p = p

  pub on_bounded : (h : Header) (make : ℕ → ℕ → Found) (s l : ℤ)
      → (T (le_z (pos h.waterline) s) → T (le_z (s +ℤ pos (headroom h)) (pos h.factor *ℤ l)) → P (make (positive s) (positive l))) → A 9 → A 10
      → Outcome A P (bounded h make s l)
  on_bounded h make s l k nine ten = bounded_cases h (Outcome A P) make s l k nine ten

  pub on_sum : (h : Header) (s l s' l' : ℕ) → (T (not (eqb l l')) → A 7) → (T (not (eqb s s')) → A 8)
      → (l ≡ l' → s ≡ s' → Outcome A P (bounded h Founds.Ciphertext (pos s) (pos l))) → Outcome A P (sum h s l s' l')
  on_sum h s l s' l' seven eight k = sum_cases h (Outcome A P) s l s' l' k eight seven

  pub on_product : (h : Header) (s l s' l' : ℕ) → (T (not (eqb l l')) → A 7) → (l ≡ l' → Outcome A P (bounded h Founds.Ciphertext (pos (s + s')) (pos l)))
      → Outcome A P (product h s l s' l')
  on_product h s l s' l' seven k = product_cases h (Outcome A P) s l s' l' k seven

-- equal numbers do not differ
alike : (m n : ℕ) → m ≡ n → T (not (eqb m n)) → ⊥
alike m n e t = T_not (eqb m n) t (eq_passes m n e)

-- a difference that is not below zero
pub taken : (a b : ℕ) → negative (pos a -ℤ pos b) ≡ 0 → positive (pos a -ℤ pos b) + b ≡ a
taken a b z = omega (arith, parts- (pos a) (pos b))

pub left_over : (a b c : ℕ) → c + b ≡ a → pos a -ℤ pos b ≡ pos c
left_over a b c e = ≡-goal (pos a -ℤ pos b) (pos c) (omega (arith, parts- (pos a) (pos b)))

-- ---- a check that finished: each line keeps its rule
-- line x, the i-th, holds v
pub record Ruled (h : Header) (found : List Found) (i : ℕ) (x : Line) (v : Found) : Type 0 where
  pub in_bounds : InBounds h v
  pub is_ciphertext_lem : T (is_ciphertext_line x) → found_kind v ≡ Ciphertext
  pub bounds : T (has_scale x) → Bounds h (scale_of v) (level_of v)
  pub rule : scale_in found i ≡ scale_of v → level_in found i ≡ level_of v → Rule h (scale_in found) (level_in found) i x

module _ (h : Header) (range_held : T (header_in_range h)) (found : List Found) (i : ℕ) where
  bounded_ruled : (x : Line) (s l : ℤ) → (Tested h s l → scale_in found i ≡ positive s → level_in found i ≡ positive l → Rule h (scale_in found) (level_in found) i x)
      → Outcome AnyReason (Ruled h found i x) (bounded h Founds.Ciphertext s l)
  bounded_ruled x s l k = on_bounded AnyReason (Ruled h found i x) h Founds.Ciphertext s l
      (λ t u. let p = tested h (header_facts h range_held).waterline.least s l t u in record { in_bounds = p.bounds; is_ciphertext_lem = λ c. refl; bounds = λ c. p.bounds; rule = k p }) tt tt

  module _ (ins : ℕ) (held : List Found) (among : (a : ℕ) (v : Found) → get_elem? held a ≡ some v → get_elem? found a ≡ some v) where
    one : (x : Line) (a : ℕ) (f : Found → Step Found ℕ) → ((v : Found) → scale_in found a ≡ scale_of v → level_in found a ≡ level_of v → Outcome AnyReason (Ruled h found i x) (f v))
        → Outcome AnyReason (Ruled h found i x) (and_then (held_by (check_machine h) held a) f)
    one x a f k = outcome_operand AnyReason (Ruled h found i x) (check_machine h) held a f tt
        (λ v e. let g = found_is found a Founds.Bare (among a v e) in k v (ap scale_of g) (ap level_of g))

    -- a word on one ciphertext
    unary : (x : Line) (a : ℕ) (scale level : ℕ → ℕ → ℤ)
        → ((s l : ℕ) → scale_in found a ≡ s → level_in found a ≡ l → Tested h (scale s l) (level s l) → scale_in found i ≡ positive (scale s l)
        → level_in found i ≡ positive (level s l)
        → Rule h (scale_in found) (level_in found) i x)
        → Outcome AnyReason (Ruled h found i x) (and_then (held_by (check_machine h) held a) (on_ciphertext (λ s l. bounded h Founds.Ciphertext (scale s l) (level s l))))
    unary x a scale level k = one x a (on_ciphertext (λ s l. bounded h Founds.Ciphertext (scale s l) (level s l)))
        (λ v p q. on_ciphertext_lem AnyReason (Ruled h found i x) (λ s l. bounded h Founds.Ciphertext (scale s l) (level s l)) v (λ t. tt)
        (bounded_ruled x (scale (scale_of v) (level_of v)) (level (scale_of v) (level_of v)) (k (scale_of v) (level_of v) p q)))

    -- a word on a pair
    binary : (x : Line) (a b : ℕ) (f : ℕ → ℕ → ℕ → ℕ → Step Found ℕ)
        → ((s l s' l' : ℕ) → scale_in found a ≡ s → level_in found a ≡ l → scale_in found b ≡ s' → level_in found b ≡ l' → Outcome AnyReason (Ruled h found i x) (f s l s' l'))
        → Outcome AnyReason (Ruled h found i x) (and_then (held_by (check_machine h) held a) (λ v. and_then (held_by (check_machine h) held b) (on_pair f v)))
    binary x a b f k = one x a (λ v. and_then (held_by (check_machine h) held b) (on_pair f v))
        (λ v p q. one x b (on_pair f v)
        (λ w r u. on_pair_lem AnyReason (Ruled h found i x) f v w (λ t. tt) (k (scale_of v) (level_of v) (scale_of w) (level_of w) p q r u)))

    pub ruled : (x : Line) → Outcome AnyReason (Ruled h found i x) (step (check_machine h) ins held x)
    ruled In = bounded_ruled In (pos h.waterline) (pos h.top) (λ t p q. (p, q))
    ruled (Const k) = record { in_bounds = tt; is_ciphertext_lem = λ c. absurd c; bounds = λ c. absurd c; rule = λ p q. tt }
    ruled (Neg a) = unary (Neg a) a (λ s l. pos s) (λ s l. pos l) (λ s l p q t r u. omega arith)
    ruled (Rot a n) = unary (Rot a n) a (λ s l. pos s) (λ s l. pos l) (λ s l p q t r u. omega arith)
    ruled (Add a b) = binary (Add a b) a b (sum h) (λ s l s' l' p q r u. on_sum AnyReason (Ruled h found i (Add a b)) h s l s' l' (λ t. tt) (λ t. tt)
        (λ e f. bounded_ruled (Add a b) (pos s) (pos l) (λ t v w. omega arith)))
    ruled (Mul a b) = binary (Mul a b) a b (product h) (λ s l s' l' p q r u. on_product AnyReason (Ruled h found i (Mul a b)) h s l s' l' (λ t. tt)
        (λ e. bounded_ruled (Mul a b) (pos (s + s')) (pos l) (λ t v w. omega arith)))
    ruled (Out a) = unary (Out a) a (λ s l. pos s) (λ s l. pos l) (λ s l p q t r u. omega arith)
    ruled (Enc a s e) = one (Enc a s e) a (on_bare (bounded h Founds.Encoded (pos s) (pos e)))
        (λ v p q. on_bare_lem AnyReason (Ruled h found i (Enc a s e)) (bounded h Founds.Encoded (pos s) (pos e)) v (λ t. tt)
        (on_bounded AnyReason (Ruled h found i (Enc a s e)) h Founds.Encoded (pos s) (pos e)
        (λ t u. let y = tested h (header_facts h range_held).waterline.least (pos s) (pos e) t u in record { in_bounds = y.bounds; is_ciphertext_lem = λ c. absurd c; bounds = λ c. y.bounds; rule = λ r w. (r, w) })
        tt tt))
    ruled (Rs a c) = unary (Rs a c) a (λ s l. pos s -ℤ pos (h.factor * c)) (λ s l. pos l -ℤ pos c)
        (λ s l p q t r u. omega (arith, taken s (h.factor * c) t.whole_scale, taken l c t.whole_level))
    ruled (Ms a c) = unary (Ms a c) a (λ s l. pos s) (λ s l. pos l -ℤ pos c) (λ s l p q t r u. omega (arith, taken l c t.whole_level))
    ruled (Us a b) = unary (Us a b) a (λ s l. pos (s + b)) (λ s l. pos l) (λ s l p q t r u. omega arith)
    ruled Free = tt

-- line x, the i-th of a finished check, with what it holds
pub record RuledAt (h : Header) (found : List Found) (i : ℕ) (x : Line) : Type 0 where
  pub value : Found
  pub there : get_elem? found i ≡ some value
  pub keeps : Ruled h found i x value

module _ (h : Header) (s : List Line) {found : List Found} (range_held : T (header_in_range h)) (e : run (check_machine h) s ≡ finished found) where
  pub ruled_at : (i : ℕ) → i < length s → RuledAt h found i (get_or s i Free)
  ruled_at i b =
      let p = (stepped (check_machine h) s e).line i b in
      record {
        value = p.value;
        there = p.there;
        keeps = subst (Outcome AnyReason (Ruled h found i (get_or s i Free))) p.steps (ruled h range_held found i p.ins p.held p.among (get_or s i Free));
      }

  -- the numbers found keep the rules
  pub checked_rule : (i : ℕ) → i < length s → Rule h (scale_in found) (level_in found) i (get_or s i Free)
  checked_rule i b =
      let p = ruled_at i b in
      let g = found_is found i Founds.Bare p.there in
      p.keeps.rule (ap scale_of g) (ap level_of g)

  pub checked_bounds : (i : ℕ) → i < length s → T (has_scale (get_or s i Free)) → Bounds h (scale_in found i) (level_in found i)
  checked_bounds i b t =
      let p = ruled_at i b in
      let g = found_is found i Founds.Bare p.there in
      subst₂ (Bounds h) (sym (ap scale_of g)) (sym (ap level_of g)) (p.keeps.bounds t)

  -- what the check finds of any line is in bounds
  pub bounds_found : (i : ℕ) (v : Found) → get_elem? found i ≡ some v → InBounds h v
  bounds_found i v g =
      let p = ruled_at i (subst (λ (n : ℕ). i < n) (stepped (check_machine h) s e).long (found_below found i g)) in
      subst (InBounds h) (some-injective p.value v (sym p.there ∙ g)) p.keeps.in_bounds

pub checked_keeps : (h : Header) (s : List Line) {found : List Found} → T (header_in_range h) → run (check_machine h) s ≡ finished found → KeepsRules h s
checked_keeps h s {found} range_held e =
    record { scale = scale_in found; level = level_in found; rules = checked_rule h s range_held e; bounds = checked_bounds h s range_held e }

-- ---- a well-formed schedule that keeps the rules: the check finds those numbers at each line
module _ (h : Header) (scale level : ℕ → ℕ) where
  -- what is found at value number a, of a line of kind k
  pub record Agrees (a : ℕ) (k : Kind) (v : Found) : Type 0 where
    pub kind : found_kind v ≡ k
    pub scale_is : T (is_ciphertext k || is_encoded k) → scale_of v ≡ scale a
    pub level_is : T (is_ciphertext k || is_encoded k) → level_of v ≡ level a
    pub bounds : T (is_ciphertext k || is_encoded k) → Bounds h (scale a) (level a)

  -- both of a pair have numbers
  pub pair_numbers : (j k : Kind) → T (is_pair Schedule j k) → T (is_ciphertext j || is_encoded j) × T (is_ciphertext k || is_encoded k)
  pair_numbers j k t = or_cases (is_ciphertext j && (is_ciphertext k || is_encoded k)) (is_encoded j && is_ciphertext k) t
      (λ p. (or_first (is_ciphertext j) (is_encoded j) (and_first (is_ciphertext j) (is_ciphertext k || is_encoded k) p), and_second (is_ciphertext j) (is_ciphertext k || is_encoded k) p))
      (λ p. (
        or_second (is_ciphertext j) (is_encoded j) (and_first (is_encoded j) (is_ciphertext k) p),
        or_first (is_ciphertext k) (is_encoded k) (and_second (is_encoded j) (is_ciphertext k) p),
      ))

  -- a word on one ciphertext and on a pair: it finds the scales and levels that keep the rules
  module _ (A : ℕ → Type 0) (P : Found → Type 0) where
    pub on_operand : (a : ℕ) (f : ℕ → ℕ → Step Found ℕ) → (Bounds h (scale a) (level a) → Outcome A P (f (scale a) (level a))) → OnOperand A Agrees P a Ciphertext (on_ciphertext f)
    on_operand a f r v g = on_ciphertext_lem A P f v (λ t. absurd (subst (λ (k : Kind). T (not (is_ciphertext k))) g.kind t)) (rw (g.scale_is tt, g.level_is tt) (r (g.bounds tt)))

    pub on_operands : (a b : ℕ) (f : ℕ → ℕ → ℕ → ℕ → Step Found ℕ) → Outcome A P (f (scale a) (level a) (scale b) (level b)) → OnOperands A Agrees P Schedule a b (on_pair f)
    on_operands a b f r j k v w t p q = on_pair_lem A P f v w
        (λ n. absurd (T_not (is_pair Schedule (found_kind v) (found_kind w)) n (subst₂ (λ (j k : Kind). T (is_pair Schedule j k)) (sym p.kind) (sym q.kind) t)))
        (let n = pair_numbers j k t in rw (p.scale_is n.0, p.level_is n.0, q.scale_is n.1, q.level_is n.1) r)

  module _ (i : ℕ) where
    abbrev Holds : Line → Found → Type 0
    Holds x = Result Agrees i x

    settled : (P : Found → Type 0) (make : ℕ → ℕ → Found) (s l : ℤ) → s ≡ pos (scale i) → l ≡ pos (level i) → Bounds h (scale i) (level i) → P (make (scale i) (level i))
        → Outcome NoReason P (bounded h make s l)
    settled P make s l e f b p = outcome_goes NoReason P (bounded h make s l) (ap₂ (bounded h make) e f ∙ bounded_goes h make (scale i) (level i) b) p

    is_found : Bounds h (scale i) (level i) → Agrees i Ciphertext (Founds.Ciphertext (scale i) (level i))
    is_found b = record { kind = refl; scale_is = λ t. refl; level_is = λ t. refl; bounds = λ t. b }

    -- a word on one ciphertext
    on_one : (x : Line) (a : ℕ) (s l : ℕ → ℕ → ℤ) → s (scale a) (level a) ≡ pos (scale i) → l (scale a) (level a) ≡ pos (level i)
        → (Bounds h (scale a) (level a) → Bounds h (scale i) (level i)) → (Bounds h (scale i) (level i) → Holds x (Founds.Ciphertext (scale i) (level i)))
        → OnOne NoReason Agrees i x a Ciphertext (on_ciphertext (λ u w. bounded h Founds.Ciphertext (s u w) (l u w)))
    on_one x a s l e f b r = on_operand NoReason (Holds x) a (λ u w. bounded h Founds.Ciphertext (s u w) (l u w))
        (λ c. settled (Holds x) Founds.Ciphertext (s (scale a) (level a)) (l (scale a) (level a)) e f (b c) (r (b c)))

    -- a word on a pair
    on_two : (x : Line) (a b : ℕ) (f : ℕ → ℕ → ℕ → ℕ → Step Found ℕ) → Outcome NoReason (Holds x) (f (scale a) (level a) (scale b) (level b))
        → OnTwo NoReason Agrees Schedule i x a b (on_pair f)
    on_two x a b f r = on_operands NoReason (Holds x) a b f r

    pub duty : (x : Line) → T (is_word Schedule x) → Rule h scale level i x → (T (has_scale x) → Bounds h (scale i) (level i)) → Duty (check_machine h) NoReason Agrees Schedule i x
    duty In w r b = λ k. settled (Holds In) Founds.Ciphertext (pos h.waterline) (pos h.top) (ap pos (sym r.0)) (ap pos (sym r.1)) (b tt) (λ u. is_found (b tt))
    duty (Const k) w r b = λ u. record { kind = refl; scale_is = λ t. absurd t; level_is = λ t. absurd t; bounds = λ t. absurd t }
    duty (Neg a) w r b = on_one (Neg a) a (λ s l. pos s) (λ s l. pos l) (ap pos (sym r.0)) (ap pos (sym r.1)) (λ c. b tt) (λ c u. is_found c)
    duty (Rot a n) w r b = on_one (Rot a n) a (λ s l. pos s) (λ s l. pos l) (ap pos (sym r.0)) (ap pos (sym r.1)) (λ c. b tt) (λ c u. is_found c)
    duty (Add a b) w r c = on_two (Add a b) a b (sum h)
        (on_sum NoReason (Holds (Add a b)) h (scale a) (level a) (scale b) (level b) (alike (level a) (level b) r.0) (alike (scale a) (scale b) r.2)
        (λ e f. settled (Holds (Add a b)) Founds.Ciphertext (pos (scale a)) (pos (level a)) (ap pos (sym r.3)) (ap pos (sym r.1)) (c tt) (λ u. is_found (c tt))))
    duty (Mul a b) w r c = on_two (Mul a b) a b (product h)
        (on_product NoReason (Holds (Mul a b)) h (scale a) (level a) (scale b) (level b) (alike (level a) (level b) r.0)
        (λ e. settled (Holds (Mul a b)) Founds.Ciphertext (pos (scale a + scale b)) (pos (level a)) (ap pos (sym r.2)) (ap pos (sym r.1)) (c tt) (λ u. is_found (c tt))))
    duty (Out a) w r b = on_one (Out a) a (λ s l. pos s) (λ s l. pos l) (ap pos (sym r.0)) (ap pos (sym r.1))
        (λ c. subst₂ (Bounds h) (sym r.0) (sym r.1) c) (λ c u. absurd u)
    duty (Enc a s e) w r b =
        λ v g. on_bare_lem NoReason (Holds (Enc a s e)) (bounded h Founds.Encoded (pos s) (pos e)) v (λ t. subst (λ (k : Kind). T (not (is_constant k))) g.kind t)
        (settled (Holds (Enc a s e)) Founds.Encoded (pos s) (pos e) (ap pos (sym r.0)) (ap pos (sym r.1)) (b tt)
        (λ u. record { kind = refl; scale_is = λ t. refl; level_is = λ t. refl; bounds = λ t. b tt }))
    duty (Rs a c) w r b = on_one (Rs a c) a (λ s l. pos s -ℤ pos (h.factor * c)) (λ s l. pos l -ℤ pos c)
        (left_over (scale a) (h.factor * c) (scale i) r.0) (left_over (level a) c (level i) r.1) (λ d. b tt) (λ d u. is_found d)
    duty (Ms a c) w r b = on_one (Ms a c) a (λ s l. pos s) (λ s l. pos l -ℤ pos c)
        (ap pos (sym r.0)) (left_over (level a) c (level i) r.1) (λ d. b tt) (λ d u. is_found d)
    duty (Us a b) w r c = on_one (Us a b) a (λ s l. pos (s + b)) (λ s l. pos l) (ap pos (sym r.0)) (ap pos (sym r.1)) (λ d. c tt) (λ d u. is_found d)
    duty Free w r b = absurd w

-- the check runs to the end, and what it finds has the scales and levels that keep the rules
pub keeps_agrees : (h : Header) (s : List Line) → T (well_formed Schedule h s) → (k : KeepsRules h s)
    → (found : List Found) × (run (check_machine h) s ≡ finished found) × Matched (Agrees h k.scale k.level) s found
keeps_agrees h s t k = finishes (run (check_machine h) s) (formed_run (check_machine h) NoReason (Agrees h k.scale k.level) Schedule h s (well_lines Schedule h s t) at_line)
  where
    at_line : (before : List Line) (x : Line) (rest : List Line) → before ++ (x ∷ rest) ≡ s → T (is_word Schedule x) → T (in_range h x)
        → Duty (check_machine h) NoReason (Agrees h k.scale k.level) Schedule (length before) x
    at_line before x rest e w q =
        let p = line_place before x rest e in
        duty h k.scale k.level (length before) x w (subst (Rule h k.scale k.level (length before)) p.is (k.rules (length before) p.below))
        (λ c. k.bounds (length before) p.below (subst (λ (y : Line). T (has_scale y)) (sym p.is) c))

pub keeps_checked : (h : Header) (s : List Line) → T (well_formed Schedule h s) → KeepsRules h s → (found : List Found) × (run (check_machine h) s ≡ finished found)
keeps_checked h s t k = let r = keeps_agrees h s t k in (r.0, r.1)

-- ---- the verdict
pub answer_done : (r : Run Found ℕ) → elim r [ finished found ↦ Done | stopped i n ↦ Refused n (place_of i) ] ≡ Done → (found : List Found) × (r ≡ finished found)
answer_done (finished found) e = (found, refl)
answer_done (stopped i n) e = absurd (let z : ◌≡◌ {A = ℕ} 0 1 = cc in omega arith)

pub done_finished : (h : Header) (s : List Line) → rules_answer h s ≡ Done → (found : List Found) × (run (check_machine h) s ≡ finished found)
done_finished h s e = answer_done (run (check_machine h) s) e

pub finished_done : (h : Header) (s : List Line) {found : List Found} → run (check_machine h) s ≡ finished found → rules_answer h s ≡ Done
finished_done h s e = ap (λ (r : Run Found ℕ). elim r as (λ x. Answer) [ finished found ↦ Done | stopped i n ↦ Refused n (place_of i) ]) e

pub verdict : (h : Header) (s : List Line) → T (well_formed Schedule h s) → (rules_answer h s ≡ Done) ↔ KeepsRules h s
verdict h s t =
    (λ e. checked_keeps h s (well_header Schedule h s t) (done_finished h s e).1, λ k. finished_done h s (keeps_checked h s t k).1)
