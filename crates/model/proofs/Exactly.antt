-- Exactness: a schedule that the check lets pass runs to the end on the scale machine, and each of its lines then holds the numbers of the
-- circuit that it erases to, times two to its scale. Assumes nothing.
use Prim.Native.Nat.{ℕ, ◌+◌, ◌-◌, ◌*◌, ◌<◌, ◌≤◌}
use native.Mathlib.Omega.{arith}
use mathlib.Core.Path.{◌≡◌, refl, sym, ap, ◌∙◌, subst}
use mathlib.Core.Bool.{Bool, true, false, not, cond}
use mathlib.Core.List.{List, [], map, zip_with}
use mathlib.Core.Option.{some}
use lib.Dec.{T, eqb, eqb→eq, not_T}
use lib.ListN.{length, get_or, get_elem?}
use lib.IntN.{ℤ, pos, neg_ℤ, ◌+ℤ◌, ◌-ℤ◌, ◌*ℤ◌}
use lib.Signed.{le_z, lt_z, le_z_yes, lt_z_yes, clash_ℤ}
use Rattle.ints.specs.Parts.{positive}
use Rattle.ints.proofs.Linear.{le_parts, parts-, positive_sub}
use Rattle.model.specs.declared.Header.{Header}
use Rattle.model.specs.declared.Line.{Line}
use Rattle.model.specs.declared.Line.TheVariants.{In, Const, Neg, Rot, Add, Mul, Out, Enc, Rs, Ms, Us, Free}
use Rattle.model.specs.Scales.{modulus, headroom}
use Rattle.model.specs.Files.{kind_of, is_constant}
use Rattle.model.specs.Machine.{Step, goes, stops, finished, and_then, held_by, step, run}
use Rattle.model.specs.Rules.{Bounds}
use Rattle.model.specs.Machines.{Vector, Handed, Reason, levels_differ, scales_differ, remainder, other_kind, below_waterline, above_modulus, Holding, scaled, rotated, times_two_to, over_two_to, no_remainder, if_bounded, on_scaled, scaled_sum, scaled_product, rescaled, plain_machine, scale_machine}
use Rattle.model.specs.Services.{erase, kept_lines}
use Rattle.model.proofs.Statements.Erasing.{origins}
use Rattle.model.specs.declared.Found.{Found}
use Rattle.model.specs.declared.Found.TheVariants as Founds
use Rattle.model.specs.Answers.{bounded, on_bare, on_ciphertext, on_pair, sum, product, check_machine}
use Rattle.model.specs.Demands.{ExactLine, Exact}
use Rattle.model.proofs.Tests.{HeaderFacts}
use Rattle.model.proofs.HeadroomLaws.{given_facts}
use Rattle.model.proofs.Sizes.{times_below_half}
use Rattle.model.proofs.Lists.{found_at, All2, length2, beside, All3, nil3, length3, between}
use Rattle.model.proofs.Kept.{Follows, Kept, run_kept, Finished, finish}
use Rattle.model.proofs.Bounded.{Low, High, bounded_cases, sum_cases, product_cases, tests_bound}
use Rattle.model.proofs.EachLine.{Gives, then_gives, each_line}
use Rattle.model.proofs.Erasing.{through, Holds, erased}
use Rattle.model.proofs.KeptLines.{kept_line}
use Rattle.model.proofs.Vectors.{length_zipped, length_rotated, length_map_of, times_neg, times_add, times_mul, times_times, times_rotated, no_remainder_lem, over_times, times_apart}

-- ---- the two tests of a scale
-- where one order is tested and if_bounded, the opposite one does not
not_below : (a b : ℤ) → T (le_z a b) → T (not (lt_z b a))
not_below a b t = not_T (lt_z b a) (λ u. clash_ℤ {a = b} {b = a} (lt_z_yes u) (le_z_yes t))

stop_passes : (b : Bool) (e : Reason) (r : Step Holding Reason) → T (not b) → cond b (stops e) r ≡ r
stop_passes true e r t = absurd t
stop_passes false e r t = refl

-- where the check's tests pass, the scale machine's do
holds_goes : (h : Header) (s l : ℤ) (v : Vector) → Low h s → High h s l → if_bounded h s l v ≡ goes (scaled (positive s) (positive l) v)
holds_goes h s l v low high =
    stop_passes (lt_z s (pos h.waterline)) below_waterline _ (not_below (pos h.waterline) s low)
    ∙ stop_passes (lt_z (pos h.factor *ℤ l) (s +ℤ pos (headroom h))) above_modulus _ (not_below (s +ℤ pos (headroom h)) (pos h.factor *ℤ l) high)

-- ---- what the check finds, what the scale machine holds and what the plain machine holds
module _ (H : Handed) (h : Header) where
  abbrev Long : Vector → Type 0
  Long w = length w ≡ H.slots

  -- y is w times two to s, at scale s and level l
  pub record Times (s l : ℕ) (y : Holding) (w : Vector) : Type 0 where
    pub held : y ≡ scaled s l (times_two_to s w)
    pub long : Long w
    pub bounds : Bounds h s l

  -- y is w itself, a bare constant
  pub record Same (y : Holding) (w : Vector) : Type 0 where
    pub held : y ≡ Holding.bare w
    pub long : Long w

  abbrev pub Agree : Found → Holding → Vector → Type 0
  Agree Founds.Bare y w = Same y w
  Agree (Founds.Encoded s l) y w = Times s l y w
  Agree (Founds.Ciphertext s l) y w = Times s l y w

  -- where the check goes on, so does the scale machine, and both agree with the plain machine's w
  abbrev InStep : Step Found ℕ → Step Holding Reason → Vector → Type 0
  InStep r t w = Follows {E = ℕ} {D = Reason} {G = Reason} Agree r t (goes w)

  -- a test that both make; the check answers with n and the scale machine with e
  same_test : (b : Bool) (n : ℕ) (e : Reason) (r : Step Found ℕ) (t : Step Holding Reason) (w : Vector) → (T b → InStep r t w)
      → InStep (cond b r (stops n)) (cond (not b) (stops e) t) w
  same_test true n e r t w f = f tt
  same_test false n e r t w f = tt

  -- both bound a new scale and level alike
  both_bounded : (found : ℕ → ℕ → Found) → ((s l : ℕ) (y : Holding) (w : Vector) → Times s l y w → Agree (found s l) y w) → (s l : ℤ) (v w : Vector) → Long w
      → v ≡ times_two_to (positive s) w
      → InStep (bounded h found s l) (if_bounded h s l v) w
  both_bounded found agree s l v w long e =
      bounded_cases h (λ r. InStep r (if_bounded h s l v) w) found s l
      (λ low high. subst (λ (t : Step Holding Reason). InStep (goes (found (positive s) (positive l))) t w) (sym (holds_goes h s l v low high))
      (agree (positive s) (positive l) (scaled (positive s) (positive l) v) w
      (record { held = ap (scaled (positive s) (positive l)) e; long = long; bounds = tests_bound h s l low high })))
      tt tt

  ciphertext_bounded : (s l : ℤ) (v w : Vector) → Long w → v ≡ times_two_to (positive s) w → InStep (bounded h Founds.Ciphertext s l) (if_bounded h s l v) w
  ciphertext_bounded = both_bounded Founds.Ciphertext (λ s l y w t. t)

  -- ---- operands
  module _ (f : ℕ → ℕ → Step Found ℕ) (g : ℕ → ℕ → Vector → Step Holding Reason) (k : Vector → Vector)
      (each : (s l : ℕ) (w : Vector) → Long w → InStep (f s l) (g s l (times_two_to s w)) (k w)) where
    on_times : (s l : ℕ) (y : Holding) (w : Vector) → Times s l y w → InStep (f s l) (on_scaled g y) (k w)
    on_times s l y w a = subst (λ (y : Holding). InStep (f s l) (on_scaled g y) (k w)) (sym a.held) (each s l w a.long)

    on_ciphertext_lem : (x : Found) (y : Holding) (w : Vector) → Agree x y w → InStep (on_ciphertext f x) (on_scaled g y) (k w)
    on_ciphertext_lem Founds.Bare y w a = tt
    on_ciphertext_lem (Founds.Encoded s l) y w a = tt
    on_ciphertext_lem (Founds.Ciphertext s l) y w a = on_times s l y w a

  module _ (f : ℕ → ℕ → ℕ → ℕ → Step Found ℕ) (g : ℕ → ℕ → Vector → ℕ → ℕ → Vector → Step Holding Reason) (k : Vector → Vector → Vector)
      (each : (s l : ℕ) (w : Vector) → Long w → (s' l' : ℕ) (w' : Vector) → Long w' → InStep (f s l s' l') (g s l (times_two_to s w) s' l' (times_two_to s' w')) (k w w')) where
    on_two : (s l : ℕ) (y : Holding) (w : Vector) → Times s l y w → (s' l' : ℕ) (y' : Holding) (w' : Vector) → Times s' l' y' w'
        → InStep (f s l s' l') (on_scaled (λ s l v. on_scaled (g s l v) y') y) (k w w')
    on_two s l y w a s' l' y' w' a' =
        subst (λ (y : Holding). InStep (f s l s' l') (on_scaled (λ s l v. on_scaled (g s l v) y') y) (k w w')) (sym a.held)
        (on_times (f s l) (g s l (times_two_to s w)) (k w) (each s l w a.long) s' l' y' w' a')

    on_pair_lem : (x : Found) (y : Holding) (w : Vector) → Agree x y w → (x' : Found) (y' : Holding) (w' : Vector) → Agree x' y' w'
        → InStep (on_pair f x x') (on_scaled (λ s l v. on_scaled (g s l v) y') y) (k w w')
    on_pair_lem Founds.Bare y w a x' y' w' a' = tt
    on_pair_lem (Founds.Encoded s l) y w a Founds.Bare y' w' a' = tt
    on_pair_lem (Founds.Encoded s l) y w a (Founds.Encoded s' l') y' w' a' = tt
    on_pair_lem (Founds.Encoded s l) y w a (Founds.Ciphertext s' l') y' w' a' = on_two s l y w a s' l' y' w' a'
    on_pair_lem (Founds.Ciphertext s l) y w a Founds.Bare y' w' a' = tt
    on_pair_lem (Founds.Ciphertext s l) y w a (Founds.Encoded s' l') y' w' a' = on_two s l y w a s' l' y' w' a'
    on_pair_lem (Founds.Ciphertext s l) y w a (Founds.Ciphertext s' l') y' w' a' = on_two s l y w a s' l' y' w' a'

  -- a word on a ciphertext that makes the scale σ, the level τ and the vector φ v, where the plain machine makes ψ w
  on_one : (σ τ : ℕ → ℕ → ℤ) (φ ψ : Vector → Vector) → ((w : Vector) → Long w → Long (ψ w)) → ((s l : ℕ) (w : Vector) → φ (times_two_to s w) ≡ times_two_to (positive (σ s l)) (ψ w))
      → (x : Found) (y : Holding) (w : Vector) → Agree x y w
      → InStep (on_ciphertext (λ s l. bounded h Founds.Ciphertext (σ s l) (τ s l)) x) (on_scaled (λ s l v. if_bounded h (σ s l) (τ s l) (φ v)) y) (ψ w)
  on_one σ τ φ ψ long e =
      on_ciphertext_lem (λ s l. bounded h Founds.Ciphertext (σ s l) (τ s l)) (λ s l v. if_bounded h (σ s l) (τ s l) (φ v)) ψ
      (λ s l w n. ciphertext_bounded (σ s l) (τ s l) (φ (times_two_to s w)) (ψ w) (long w n) (e s l w))

  -- ---- the words
  sum_kept : (s l : ℕ) (w : Vector) → Long w → (s' l' : ℕ) (w' : Vector) → Long w'
      → InStep (sum h s l s' l') (scaled_sum h s l (times_two_to s w) s' l' (times_two_to s' w')) (zip_with ◌+ℤ◌ w w')
  sum_kept s l w n s' l' w' n' =
      same_test (eqb l l') 7 levels_differ _ _ _ (λ p. same_test (eqb s s') 8 scales_differ _ _ _ (λ q.
      ciphertext_bounded (pos s) (pos l) _ (zip_with ◌+ℤ◌ w w') (length_zipped ◌+ℤ◌ w w' n n')
      (ap (λ (r : ℕ). zip_with ◌+ℤ◌ (times_two_to s w) (times_two_to r w')) (sym (eqb→eq s s' q)) ∙ times_add s w w')))

  product_kept : (s l : ℕ) (w : Vector) → Long w → (s' l' : ℕ) (w' : Vector) → Long w'
      → InStep (product h s l s' l') (scaled_product h s l (times_two_to s w) s' l' (times_two_to s' w')) (zip_with ◌*ℤ◌ w w')
  product_kept s l w n s' l' w' n' =
      same_test (eqb l l') 7 levels_differ _ _ _ (λ p.
      ciphertext_bounded (pos (s + s')) (pos l) _ (zip_with ◌*ℤ◌ w w') (length_zipped ◌*ℤ◌ w w' n n') (times_mul s s' w w'))

  abbrev encoded : ℕ → ℕ → Holding → Step Holding Reason
  encoded s e y = elim y [ Holding.bare v ↦ if_bounded h (pos s) (pos e) (times_two_to s v) | scaled t l v ↦ stops other_kind ]

  encoded_kept : (s e : ℕ) (x : Found) (y : Holding) (w : Vector) → Agree x y w
      → InStep (on_bare (bounded h Founds.Encoded (pos s) (pos e)) x) (encoded s e y) w
  encoded_kept s e Founds.Bare y w a =
      subst (λ (y : Holding). InStep (bounded h Founds.Encoded (pos s) (pos e)) (encoded s e y) w) (sym a.held)
      (both_bounded Founds.Encoded (λ s l y w t. t) (pos s) (pos e) (times_two_to s w) w a.long refl)
  encoded_kept s e (Founds.Encoded s' l') y w a = tt
  encoded_kept s e (Founds.Ciphertext s' l') y w a = tt

  -- above the waterline F·c is no more than the scale, so nothing remains
  rescaled_kept : (c s l : ℕ) (w : Vector) → Long w → InStep (bounded h Founds.Ciphertext (pos s -ℤ pos (h.factor * c)) (pos l -ℤ pos c)) (rescaled h c s l (times_two_to s w)) w
  rescaled_kept c s l w n =
      bounded_cases h (λ r. InStep r (rescaled h c s l (times_two_to s w)) w) Founds.Ciphertext (pos s -ℤ pos k) (pos l -ℤ pos c)
      (λ low high. subst (λ (t : Step Holding Reason). InStep (goes (Founds.Ciphertext (positive (pos s -ℤ pos k)) (positive (pos l -ℤ pos c)))) t w) (sym (goes_on low high))
      (record { held = refl; long = n; bounds = tests_bound h (pos s -ℤ pos k) (pos l -ℤ pos c) low high }))
      tt tt
    where
      k : ℕ
      k = h.factor * c

      fits : Low h (pos s -ℤ pos (h.factor * c)) → h.factor * c ≤ s
      fits low = omega (arith, le_parts (pos h.waterline) (pos s -ℤ pos (h.factor * c)) low, parts- (pos s) (pos (h.factor * c)))

      -- nothing remains, and what is left is w times two to what is left of the scale
      divides : Low h (pos s -ℤ pos (h.factor * c)) → T (not (not (no_remainder (h.factor * c) (times_two_to s w))))
      divides low = subst (λ (b : Bool). T (not (not b)))
          (sym (ap (no_remainder (h.factor * c)) (times_apart (h.factor * c) s w (fits low)) ∙ no_remainder_lem (h.factor * c) (times_two_to (s - h.factor * c) w))) tt

      quotient : Low h (pos s -ℤ pos (h.factor * c)) → over_two_to (h.factor * c) (times_two_to s w) ≡ times_two_to (positive (pos s -ℤ pos (h.factor * c))) w
      quotient low = ap (over_two_to (h.factor * c)) (times_apart (h.factor * c) s w (fits low)) ∙ over_times (h.factor * c) (times_two_to (s - h.factor * c) w)
          ∙ ap (λ (r : ℕ). times_two_to r w) (sym (positive_sub s (h.factor * c)))

      goes_on : Low h (pos s -ℤ pos (h.factor * c)) → High h (pos s -ℤ pos (h.factor * c)) (pos l -ℤ pos c)
          → rescaled h c s l (times_two_to s w) ≡ goes
          (scaled (positive (pos s -ℤ pos (h.factor * c))) (positive (pos l -ℤ pos c)) (times_two_to (positive (pos s -ℤ pos (h.factor * c))) w))
      goes_on low high =
          stop_passes (not (no_remainder (h.factor * c) (times_two_to s w))) remainder _ (divides low)
          ∙ holds_goes h (pos s -ℤ pos (h.factor * c)) (pos l -ℤ pos c) (over_two_to (h.factor * c) (times_two_to s w)) low high
          ∙ ap (λ (v : Vector). goes (scaled (positive (pos s -ℤ pos (h.factor * c))) (positive (pos l -ℤ pos c)) v)) (quotient low)

  agree_kept : Kept (check_machine h) (scale_machine H h) (through (plain_machine H)) Agree
  agree_kept =
      record {
        input = λ k. ciphertext_bounded (pos h.waterline) (pos h.top) (times_two_to h.waterline (H.inputs k)) (H.inputs k) (H.inputs_long k) refl;
        constant = λ k. record { held = refl; long = H.constants_long k };
        neg = on_one (λ s l. pos s) (λ s l. pos l) (map neg_ℤ) (map neg_ℤ) (λ w. length_map_of neg_ℤ w) (λ s l w. times_neg s w);
        rot = λ t. on_one (λ s l. pos s) (λ s l. pos l) (rotated H.slots t) (rotated H.slots t) (λ w n. length_rotated H.slots t w)
            (λ s l w. times_rotated s H.slots t w);
        add = on_pair_lem (sum h) (scaled_sum h) (zip_with ◌+ℤ◌) sum_kept;
        mul = on_pair_lem (product h) (scaled_product h) (zip_with ◌*ℤ◌) product_kept;
        out = on_one (λ s l. pos s) (λ s l. pos l) (λ v. v) (λ w. w) (λ w n. n) (λ s l w. refl);
        enc = encoded_kept;
        rs = λ c. on_ciphertext_lem (λ s l. bounded h Founds.Ciphertext (pos s -ℤ pos (h.factor * c)) (pos l -ℤ pos c)) (rescaled h c) (λ w. w) (rescaled_kept c);
        ms = λ c. on_one (λ s l. pos s) (λ s l. pos l -ℤ pos c) (λ v. v) (λ w. w) (λ w n. n) (λ s l w. refl);
        us = λ b. on_one (λ s l. pos (s + b)) (λ s l. pos l) (times_two_to b) (λ w. w) (λ w n. n) (λ s l w. times_times s b w);
      }

-- through a schedule that passes the check all three run to the end, and agree at each line
pub agreeing : (H : Handed) (h : Header) (s : List Line) {found : List Found} → run (check_machine h) s ≡ finished found
    → Finished (Agree H h) found (run (scale_machine H h) s) (run (through (plain_machine H)) s)
agreeing H h s e =
    finish (Agree H h) (run (check_machine h) s) (run (scale_machine H h) s) (run (through (plain_machine H)) s) e
    (run_kept (check_machine h) (scale_machine H h) (through (plain_machine H)) (Agree H h) (agree_kept H h) s 0 nil3)

-- ---- only a constant line is bare
abbrev pub is_bare : Found → Bool
is_bare Founds.Bare = true
is_bare (Founds.Encoded s l) = false
is_bare (Founds.Ciphertext s l) = false

abbrev GivesScale : Step Found ℕ → Type 0
GivesScale r = Gives (λ found. is_bare found ≡ false) r

on_ciphertext_scale : (f : ℕ → ℕ → Step Found ℕ) → ((s l : ℕ) → GivesScale (f s l)) → (x : Found) → GivesScale (on_ciphertext f x)
on_ciphertext_scale f g Founds.Bare = tt
on_ciphertext_scale f g (Founds.Encoded s l) = tt
on_ciphertext_scale f g (Founds.Ciphertext s l) = g s l

on_pair_scale : (f : ℕ → ℕ → ℕ → ℕ → Step Found ℕ) → ((s l s' l' : ℕ) → GivesScale (f s l s' l')) → (x y : Found) → GivesScale (on_pair f x y)
on_pair_scale f g Founds.Bare y = tt
on_pair_scale f g (Founds.Encoded s l) y = on_ciphertext_scale (f s l) (g s l) y
on_pair_scale f g (Founds.Ciphertext s l) Founds.Bare = tt
on_pair_scale f g (Founds.Ciphertext s l) (Founds.Encoded s' l') = g s l s' l'
on_pair_scale f g (Founds.Ciphertext s l) (Founds.Ciphertext s' l') = g s l s' l'

on_bare_scale : (r : Step Found ℕ) → GivesScale r → (x : Found) → GivesScale (on_bare r x)
on_bare_scale r g Founds.Bare = g
on_bare_scale r g (Founds.Encoded s l) = tt
on_bare_scale r g (Founds.Ciphertext s l) = tt

module _ (h : Header) where
  bounded_scale : (found : ℕ → ℕ → Found) → ((s l : ℕ) → is_bare (found s l) ≡ false) → (s l : ℤ) → GivesScale (bounded h found s l)
  bounded_scale found e s l = bounded_cases h GivesScale found s l (λ t u. e (positive s) (positive l)) tt tt

  ciphertext_scale : (s l : ℤ) → GivesScale (bounded h Founds.Ciphertext s l)
  ciphertext_scale = bounded_scale Founds.Ciphertext (λ s l. refl)

  module _ (held : List Found) where
    one_scale : (a : ℕ) (σ τ : ℕ → ℕ → ℤ) → GivesScale (and_then (held_by (check_machine h) held a) (on_ciphertext (λ s l. bounded h Founds.Ciphertext (σ s l) (τ s l))))
    one_scale a σ τ = then_gives _ (held_by (check_machine h) held a) _ (on_ciphertext_scale _ (λ s l. ciphertext_scale (σ s l) (τ s l)))

    pair_scale : (a b : ℕ) (f : ℕ → ℕ → ℕ → ℕ → Step Found ℕ) → ((s l s' l' : ℕ) → GivesScale (f s l s' l'))
        → GivesScale (and_then (held_by (check_machine h) held a) (λ x. and_then (held_by (check_machine h) held b) (on_pair f x)))
    pair_scale a b f g = then_gives _ (held_by (check_machine h) held a) _ (λ x. then_gives _ (held_by (check_machine h) held b) _ (on_pair_scale f g x))

  bare_by_word : (x : Line) (ins : ℕ) (held : List Found) → Gives (λ found. is_bare found ≡ is_constant (kind_of x)) (step (check_machine h) ins held x)
  bare_by_word In ins held = ciphertext_scale (pos h.waterline) (pos h.top)
  bare_by_word (Const k) ins held = refl
  bare_by_word (Neg a) ins held = one_scale held a (λ s l. pos s) (λ s l. pos l)
  bare_by_word (Rot a t) ins held = one_scale held a (λ s l. pos s) (λ s l. pos l)
  bare_by_word (Add a b) ins held = pair_scale held a b (sum h) (λ s l s' l'. sum_cases h GivesScale s l s' l' (λ e e'. ciphertext_scale (pos s) (pos l)) (λ e. tt) (λ e. tt))
  bare_by_word (Mul a b) ins held = pair_scale held a b (product h) (λ s l s' l'. product_cases h GivesScale s l s' l' (λ e. ciphertext_scale (pos (s + s')) (pos l)) (λ e. tt))
  bare_by_word (Out a) ins held = one_scale held a (λ s l. pos s) (λ s l. pos l)
  bare_by_word (Enc a s e) ins held = then_gives _ (held_by (check_machine h) held a) _ (on_bare_scale _ (bounded_scale Founds.Encoded (λ s l. refl) (pos s) (pos e)))
  bare_by_word (Rs a c) ins held = one_scale held a (λ s l. pos s -ℤ pos (h.factor * c)) (λ s l. pos l -ℤ pos c)
  bare_by_word (Ms a c) ins held = one_scale held a (λ s l. pos s) (λ s l. pos l -ℤ pos c)
  bare_by_word (Us a b) ins held = one_scale held a (λ s l. pos (s + b)) (λ s l. pos l)
  bare_by_word Free ins held = tt

  -- each line of a schedule that passes is found bare or not as its word says
  pub bare_lines : (s : List Line) {found : List Found} → run (check_machine h) s ≡ finished found → All2 (λ x y. is_bare y ≡ is_constant (kind_of x)) s found
  bare_lines s e = each_line (check_machine h) (λ x y. is_bare y ≡ is_constant (kind_of x)) bare_by_word s e

-- ---- the theorem
module _ (H : Handed) (h : Header) (facts : HeaderFacts h) where
  times_bounds : {s l n m : ℕ} {v w : Vector} → Times H h s l (scaled n m v) w → Bounds h n m
  times_bounds {s} {l} {n} {m} a =
      let scales : s ≡ n = cc in
      let levels : l ≡ m = cc in
      subst (Bounds h n) levels (subst (λ (k : ℕ). Bounds h k l) scales a.bounds)

  agree_bounds : (x : Found) (n m : ℕ) (v w : Vector) → Agree H h x (scaled n m v) w → Bounds h n m
  agree_bounds Founds.Bare n m v w a = absurd (never a.held)
    where
      never : scaled n m v ≡ Holding.bare w → ⊥
      never e = let z : ◌≡◌ {A = ℕ} 0 1 = cc in omega arith
  agree_bounds (Founds.Encoded s l) n m v w a = times_bounds a
  agree_bounds (Founds.Ciphertext s l) n m v w a = times_bounds a

  module _ (schedule : List Line) (held : List Holding) (numbers : List Vector) (i j : ℕ) (kept : get_elem? (kept_lines schedule) j ≡ some i)
      {y : Holding} {w : Vector} (there : get_elem? held i ≡ some y) (plain : get_elem? numbers j ≡ some w) where
    times_line : (s l : ℕ) → Times H h s l y w → ExactLine H.slots h schedule held numbers j
    times_line s l a =
        record {
          line = i;
          scale = s;
          level = l;
          vector = w;
          kept = kept;
          long = a.long;
          plain = plain;
          exact = there ∙ ap some a.held;
          below_half_modulus = λ bits given small.
              let f = given_facts h facts bits given in
              times_below_half bits f.some s (modulus h l) (omega (arith, a.bounds.high, f.is)) w small;
        }

    agree_line : (x : Found) → T (not (is_bare x)) → Agree H h x y w → ExactLine H.slots h schedule held numbers j
    agree_line Founds.Bare t a = absurd t
    agree_line (Founds.Encoded s l) t a = times_line s l a
    agree_line (Founds.Ciphertext s l) t a = times_line s l a

  -- found, held, passed: what the check finds, the scale machine holds and the plain machine, passing through the struck lines, holds
  module _ (s : List Line) {found : List Found} {held : List Holding} {passed : List Vector} (numbers : List Vector)
      (agrees : All3 (Agree H h) found held passed) (bare : All2 (λ x y. is_bare y ≡ is_constant (kind_of x)) s found) (from_circuit : All2 (Holds numbers) (origins s) passed) where
    held_long : length held ≡ length s
    held_long = sym (length3 agrees).0 ∙ sym (length2 bare)

    exact_line : (j : ℕ) → j < length (erase s) → T (not (is_constant (kind_of (get_or (erase s) j Free)))) → ExactLine H.slots h s held numbers j
    exact_line j below other =
        let i : ℕ = get_or (kept_lines s) j 0 in
        let line = kept_line s j below in
        let there : get_elem? held i ≡ some (get_or held i (scaled 0 0 [])) = found_at held i (scaled 0 0 []) (omega (arith, held_long)) in
        let at = between agrees i there in
        let of_word = beside bare i (found_at s i Free line.below) in
        let of_circuit = beside from_circuit i line.origin in
        let word : is_constant (kind_of (get_or (erase s) j Free)) ≡ is_bare at.left = cc in
        let plain : get_elem? numbers j ≡ some at.right = cc in
        agree_line s held numbers i j line.there there plain at.left (rw word at other) at.related

-- a schedule that passes the check is exact
pub exact : (H : Handed) (h : Header) → HeaderFacts h → (s : List Line) {found : List Found} → run (check_machine h) s ≡ finished found → Exact H h (erase s) s
exact H h facts s e =
    let runs = agreeing H h s e in
    let circuit = erased (plain_machine H) s runs.third_is in
    record {
      held = runs.second;
      own = circuit.held;
      runs = runs.second_is;
      all_lines = held_long H h facts s circuit.held runs.related (bare_lines h s e) circuit.from_circuit;
      plain_runs = circuit.runs;
      in_bounds = λ i n m v there. let at = between runs.related i there in agree_bounds H h facts at.left n m v at.right at.related;
      lines = exact_line H h facts s circuit.held runs.related (bare_lines h s e) circuit.from_circuit;
    }
