-- A well-formed line's operands name earlier lines of the kinds that its word asks for, and the check's step is the step on the plain numbers
-- that those hold; a rescale by 0 stands for `ds`. Assumes nothing.
use Prim.Native.Nat.{ℕ, ◌+◌, ◌-◌, ◌*◌, ◌<◌}
use native.Mathlib.Omega.{arith}
use mathlib.Core.Path.{◌≡◌, refl, sym, ap, ap₂, ◌∙◌, subst}
use mathlib.Core.Bool.{Bool, true, false, cond}
use mathlib.Core.List.{List, [], ◌∷◌}
use mathlib.Core.Option.{Option, some}
use lib.Dec.{T, eqb, ltb}
use lib.IntN.{ℤ, pos, ◌+ℤ◌, ◌-ℤ◌, ◌*ℤ◌}
use lib.ListN.{length, get_or, get_elem?}
use lib.Signed.{le_z}
use Rattle.model.specs.declared.Grammar.TheVariants.{Schedule}
use Rattle.model.specs.declared.Header.{Header}
use Rattle.model.specs.declared.Kind.{Kind}
use Rattle.model.specs.declared.Kind.TheVariants.{Ciphertext, Constant, Encoded, Nothing}
use Rattle.model.specs.declared.Line.{Line}
use Rattle.model.specs.declared.Line.TheVariants.{In, Const, Neg, Rot, Add, Mul, Out, Enc, Rs, Ms, Us, Free}
use Rattle.model.specs.declared.Found.{Found}
use Rattle.model.specs.declared.Found.TheVariants as Founds
use Rattle.rows.specs.Rows.{Tests}
use Rattle.model.specs.Scales.{headroom}
use Rattle.model.specs.Files.{kind_of, kind_at, is_ciphertext, is_constant, is_pair, is_usable, every_usable, kinds_fit}
use Rattle.model.specs.Machine.{Step, goes, stops, and_then, held_by, step}
use Rattle.model.specs.Answers.{unless, bound_tests, bounded, on_bare, on_ciphertext, on_pair, sum, product}
use Rattle.listings.specs.Held.{counted_line, downscaled, held_machine, scale_of}
use Rattle.model.proofs.Tests.{and_first, and_second, is_ciphertext_lem, is_constant_lem}
use Rattle.model.proofs.Runs.{or_absent}
use Rattle.model.proofs.Formed.{LineFacts, usable_below}
use Rattle.bounds.specs.declared.Held.{Held}
use Rattle.bounds.specs.Bounded.{ruled_unless, bounded_numbers}
use Rattle.linerules.specs.Ruled.{moved_by, sum_of, product_of, downscaled_of, ruled_by}
use Rattle.operands.specs.Operands.{first_operand, second_operand}
use Rattle.rules.proofs.Counted.{same_counted, counted_operands}

-- what line a holds, by the scales and levels of all
abbrev pub held_at : List ℕ → List ℕ → ℕ → Held
held_at scales levels a = record { scale = get_or scales a 0; level = get_or levels a 0 }

-- ---- what numbers stand for, by a line's kind; an `out` line, which nothing names, holds what its ciphertext does
abbrev pub found_as : Kind → ℕ → ℕ → Found
found_as Ciphertext s l = Founds.Ciphertext s l
found_as Constant s l = Founds.Bare
found_as Encoded s l = Founds.Encoded s l
found_as Nothing s l = Founds.Ciphertext s l

abbrev pub step_of : Kind → Step Held ℕ → Step Found ℕ
step_of k (goes v) = goes (found_as k v.scale v.level)
step_of k (stops n) = stops n

unless_is : (k : Kind) (tests : Tests) (r : Step Held ℕ) → unless tests (step_of k r) ≡ step_of k (ruled_unless tests r)
unless_is k [] r = refl
unless_is k ((n, passes) ∷ tests) r = go passes (unless_is k tests r)
  where
    go : (b : Bool) → unless tests (step_of k r) ≡ step_of k (ruled_unless tests r) → cond b (unless tests (step_of k r)) (stops n) ≡ step_of k (cond b (ruled_unless tests r) (stops n))
    go true e = e
    go false e = refl

module _ (h : Header) (k : Kind) where
  bounded_is : (s s' l l' : ℤ) → s ≡ s' → l ≡ l' → bounded h (found_as k) s l ≡ step_of k (bounded_numbers h s' l')
  bounded_is s s' l l' e f = unless_is k (bound_tests h s l) (goes (record { scale = _; level = _ })) ∙ ap₂ (λ (x y : ℤ). step_of k (bounded_numbers h x y)) e f

  plus_zero : (n : ℕ) → n ≡ n + 0
  plus_zero n = omega arith

  minus_zero : (n : ℕ) → pos n ≡ pos n -ℤ pos 0
  minus_zero n = ap pos (plus_zero n)

  raised_none : (n taken : ℕ) → pos n -ℤ pos taken ≡ pos (n + 0) -ℤ pos taken
  raised_none n taken = ap (λ (m : ℕ). pos m -ℤ pos taken) (plus_zero n)

  module _ (x : Held) where
    unmoved : bounded h (found_as k) (pos x.scale) (pos x.level) ≡ step_of k (moved_by h x 0 0 0)
    unmoved = bounded_is _ _ _ _ (minus_zero x.scale ∙ raised_none x.scale 0) (minus_zero x.level)

    rescaled : (c : ℕ) → bounded h (found_as k) (pos x.scale -ℤ pos (h.factor * c)) (pos x.level -ℤ pos c) ≡ step_of k (moved_by h x 0 (h.factor * c) c)
    rescaled c = let level = pos x.level -ℤ pos c in bounded_is _ _ level level (raised_none x.scale (h.factor * c)) refl

    modswitched : (c : ℕ) → bounded h (found_as k) (pos x.scale) (pos x.level -ℤ pos c) ≡ step_of k (moved_by h x 0 0 c)
    modswitched c = let level = pos x.level -ℤ pos c in bounded_is _ _ level level (minus_zero x.scale ∙ raised_none x.scale 0) refl

    upscaled : (b : ℕ) → bounded h (found_as k) (pos (x.scale + b)) (pos x.level) ≡ step_of k (moved_by h x b 0 0)
    upscaled b = bounded_is _ _ _ _ (minus_zero (x.scale + b)) (minus_zero x.level)

module _ (h : Header) (x y : Held) where
  sum_is : sum h x.scale x.level y.scale y.level ≡ step_of Ciphertext (sum_of h x y)
  sum_is =
      let tests : Tests = (7, eqb x.level y.level) ∷ (8, eqb x.scale y.scale) ∷ [] in
      ap (unless tests) (bounded_is h Ciphertext (pos x.scale) (pos x.scale) (pos x.level) (pos x.level) refl refl)
      ∙ unless_is Ciphertext tests (bounded_numbers h (pos x.scale) (pos x.level))

  product_is : product h x.scale x.level y.scale y.level ≡ step_of Ciphertext (product_of h x y)
  product_is =
      let tests : Tests = (7, eqb x.level y.level) ∷ [] in
      let both : ℤ = pos (x.scale + y.scale) in
      ap (unless tests) (bounded_is h Ciphertext both both (pos x.level) (pos x.level) refl refl)
      ∙ unless_is Ciphertext tests (bounded_numbers h both (pos x.level))

downscaled_is : (h : Header) (x : Held) → downscaled h x.scale x.level ≡ step_of Ciphertext (downscaled_of h x)
downscaled_is h x =
    let raised = h.waterline + h.factor in
    let tests : Tests =
    (14, ltb x.scale raised) ∷ (9, le_z (pos raised +ℤ pos (headroom h)) (pos h.factor *ℤ pos x.level)) ∷ [] in
    unless_is Ciphertext tests (goes (record { scale = h.waterline; level = x.level - 1 }))

-- ---- operands
-- two ciphertexts, or one and an encoded constant, in either place
pair_is :
    (j k : Kind) → T (is_pair Schedule j k) → (f : ℕ → ℕ → ℕ → ℕ → Step Found ℕ) (s l s' l' : ℕ) → on_pair f (found_as j s l) (found_as k s' l') ≡ f s l s' l'
pair_is Ciphertext Ciphertext t f s l s' l' = refl
pair_is Ciphertext Constant t f s l s' l' = absurd t
pair_is Ciphertext Encoded t f s l s' l' = refl
pair_is Ciphertext Nothing t f s l s' l' = absurd t
pair_is Constant k t f s l s' l' = absurd t
pair_is Encoded Ciphertext t f s l s' l' = refl
pair_is Encoded Constant t f s l s' l' = absurd t
pair_is Encoded Encoded t f s l s' l' = absurd t
pair_is Encoded Nothing t f s l s' l' = absurd t
pair_is Nothing k t f s l s' l' = absurd t

-- ---- the check's step, where the lines before hold what their numbers stand for
module _
    (h : Header) (before : List Line) (found : List Found) (scales levels : List ℕ)
    (agree : (a : ℕ) → a < length before → get_elem? found a ≡ some (found_as (kind_at before a) (get_or scales a 0) (get_or levels a 0))) where
  abbrev found_at : ℕ → Found
  found_at a = found_as (kind_at before a) (get_or scales a 0) (get_or levels a 0)

  -- with the first operand, and with the one after it
  first_held_lem :
      (a : ℕ) (names : List ℕ) → T (every_usable before (a ∷ names)) → (f : Found → Step Found ℕ) → and_then (held_by (held_machine h) found a) f ≡ f (found_at a)
  first_held_lem a names u f =
      ap (λ (o : Option Found). and_then (or_absent (held_machine h).absent o) f)
      (agree a (usable_below before a (and_first (is_usable (kind_at before a)) (every_usable before names) u)))

  ciphertext_held :
      (a : ℕ) → T (every_usable before (a ∷ [])) → T (is_ciphertext (kind_at before a)) → (f : ℕ → ℕ → Step Found ℕ) →
      and_then (held_by (held_machine h) found a) (on_ciphertext f) ≡ f (get_or scales a 0) (get_or levels a 0)
  ciphertext_held a u t f =
      first_held_lem a [] u (on_ciphertext f)
      ∙ ap (λ (k : Kind). on_ciphertext f (found_as k (get_or scales a 0) (get_or levels a 0))) (is_ciphertext_lem (kind_at before a) t)

  constant_held :
      (a : ℕ) → T (every_usable before (a ∷ [])) → T (is_constant (kind_at before a)) → (r : Step Found ℕ) → and_then (held_by (held_machine h) found a) (on_bare r) ≡ r
  constant_held a u t r =
      first_held_lem a [] u (on_bare r)
      ∙ ap (λ (k : Kind). on_bare r (found_as k (get_or scales a 0) (get_or levels a 0))) (is_constant_lem (kind_at before a) t)

  pair_held :
      (a b : ℕ) → T (every_usable before (a ∷ b ∷ [])) → T (is_pair Schedule (kind_at before a) (kind_at before b)) → (f : ℕ → ℕ → ℕ → ℕ → Step Found ℕ) →
      and_then (held_by (held_machine h) found a) (λ x. and_then (held_by (held_machine h) found b) (on_pair f x))
      ≡ f (get_or scales a 0) (get_or levels a 0) (get_or scales b 0) (get_or levels b 0)
  pair_held a b u t f =
      first_held_lem a (b ∷ []) u (λ x. and_then (held_by (held_machine h) found b) (on_pair f x))
      ∙ first_held_lem b [] (and_second (is_usable (kind_at before a)) (every_usable before (b ∷ [])) u) (on_pair f (found_at a))
      ∙ pair_is (kind_at before a) (kind_at before b) t f (get_or scales a 0) (get_or levels a 0) (get_or scales b 0) (get_or levels b 0)

  -- a rescale, and one by 0, which is a `ds`
  rescale_held :
      (a k : ℕ) → LineFacts Schedule h before (counted_line (Rs a k)) →
      and_then (held_by (held_machine h) found a) (λ x. (held_machine h).rs x k) ≡ step_of Ciphertext (ruled_by h (Rs a k) (held_at scales levels a) (held_at scales levels a))
  unfolding ruled_by
  rescale_held a k c =
      first_held_lem a [] usable (λ x. (held_machine h).rs x k)
      ∙ ap (λ (j : Kind). (held_machine h).rs (found_as j (get_or scales a 0) (get_or levels a 0)) k) (is_ciphertext_lem (kind_at before a) kinds)
      ∙ go (eqb k 0)
    where
      usable : T (every_usable before (a ∷ []))
      usable = subst (λ (names : List ℕ). T (every_usable before names)) (counted_operands (Rs a k)) c.usable

      kinds : T (is_ciphertext (kind_at before a))
      kinds = subst T (same_counted (kinds_fit Schedule before) (λ b m n. refl) (Rs a k)) c.kinds

      rescale : Step Found ℕ
      rescale =
          bounded h Founds.Ciphertext (pos (get_or scales a 0) -ℤ pos (h.factor * k)) (pos (get_or levels a 0) -ℤ pos k)

      go :
          (b : Bool) → cond b (downscaled h (get_or scales a 0) (get_or levels a 0)) rescale
          ≡ step_of Ciphertext (cond b (downscaled_of h (held_at scales levels a)) (moved_by h (held_at scales levels a) 0 (h.factor * k) k))
      go true = downscaled_is h (held_at scales levels a)
      go false = rescaled h Ciphertext (held_at scales levels a) k

  pub step_is :
      (ins : ℕ) (x : Line) → LineFacts Schedule h before (counted_line x) →
      step (held_machine h) ins found x ≡ step_of (kind_of x) (ruled_by h x (held_at scales levels (first_operand x)) (held_at scales levels (second_operand x)))
  unfolding ruled_by first_operand second_operand
  step_is ins In c = bounded_is h Ciphertext (pos h.waterline) (pos h.waterline) (pos h.top) (pos h.top) refl refl
  step_is ins (Const k) c = refl
  step_is ins (Neg a) c = ciphertext_held a c.usable c.kinds _ ∙ unmoved h Ciphertext (held_at scales levels a)
  step_is ins (Rot a t) c = ciphertext_held a c.usable c.kinds _ ∙ unmoved h Ciphertext (held_at scales levels a)
  step_is ins (Add a b) c = pair_held a b c.usable c.kinds (sum h) ∙ sum_is h (held_at scales levels a) (held_at scales levels b)
  step_is ins (Mul a b) c = pair_held a b c.usable c.kinds (product h) ∙ product_is h (held_at scales levels a) (held_at scales levels b)
  step_is ins (Out a) c = ciphertext_held a c.usable c.kinds _ ∙ unmoved h Nothing (held_at scales levels a)
  step_is ins (Enc a s e) c = constant_held a c.usable c.kinds _ ∙ bounded_is h Encoded (pos s) (pos s) (pos e) (pos e) refl refl
  step_is ins (Rs a k) c = rescale_held a k c
  step_is ins (Ms a k) c = ciphertext_held a c.usable c.kinds _ ∙ modswitched h Ciphertext (held_at scales levels a) k
  step_is ins (Us a b) c = ciphertext_held a c.usable c.kinds _ ∙ upscaled h Ciphertext (held_at scales levels a) b
  step_is ins Free c = absurd c.word

-- the scale of what is found: a bare constant leaves 0
pub scale_found : (h : Header) (x : Line) (v w held : Held) → ruled_by h x v w ≡ goes held → scale_of (found_as (kind_of x) held.scale held.level) ≡ held.scale
unfolding ruled_by
scale_found h In v w held e = refl
scale_found h (Const k) v w held e = let same : ◌≡◌ {A = Held} held (record { scale = 0; level = 0 }) = cc in sym (ap (λ (x : Held). x.scale) same)
scale_found h (Neg a) v w held e = refl
scale_found h (Rot a t) v w held e = refl
scale_found h (Add a b) v w held e = refl
scale_found h (Mul a b) v w held e = refl
scale_found h (Out a) v w held e = refl
scale_found h (Enc a s' l') v w held e = refl
scale_found h (Rs a k) v w held e = refl
scale_found h (Ms a k) v w held e = refl
scale_found h (Us a b) v w held e = refl
scale_found h Free v w held e = refl
