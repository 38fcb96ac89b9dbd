-- The number with which the code refuses a line of a listing is that of the first of the dialect's tests that it fails, over any scales and
-- levels that keep the rules at the lines before it. Assumes nothing.
use Prim.Native.Nat.{ℕ, zero, suc, ◌+◌, ◌*◌, ◌-◌, ◌<◌, ◌≤◌}
use native.Mathlib.Omega.{arith}
use mathlib.Core.Path.{◌≡◌, refl, sym, ap, ◌∙◌, subst}
use mathlib.Core.Bool.{Bool, true, false, cond}
use mathlib.Core.List.{List, [], ◌∷◌, ◌++◌, map}
use lib.Dec.{T, eqb, ltb, eqb→eq}
use lib.IntN.{ℤ, pos, ◌+ℤ◌, ◌-ℤ◌, ◌*ℤ◌}
use lib.ListN.{length, get_or, take}
use lib.Seq.{take-suc, get_or-take, length-take-le}
use lib.Signed.{le_z}
use Rattle.ints.proofs.Linear.{≡-goal, parts-, sub_is}
use Rattle.rows.specs.Rows.{Tests, Judgement, bad, judged}
use Rattle.model.specs.declared.Found.{Found}
use Rattle.model.specs.declared.Grammar.TheVariants.{Schedule}
use Rattle.model.specs.declared.Header.{Header}
use Rattle.model.specs.declared.Line.{Line}
use Rattle.model.specs.declared.Line.TheVariants.{In, Const, Neg, Rot, Add, Mul, Out, Enc, Rs, Ms, Us, Free}
use Rattle.model.specs.Broken.{scale_tests, rule_tests}
use Rattle.model.specs.Files.{is_ciphertext, is_encoded, is_word, kind_at, well_formed}
use Rattle.model.specs.Machine.{Step, goes, stops, Run, finished, stopped, step, run}
use Rattle.model.specs.Rules.{has_scale}
use Rattle.model.specs.Scales.{headroom}
use Rattle.model.proofs.Tests.{eq_passes, or_first}
use Rattle.model.proofs.Runs.{stopped_finished, stopped_is, continued, first_stop}
use Rattle.model.proofs.Outcomes.{Outcome}
use Rattle.model.proofs.Formed.{LineFacts, Matched, well_take}
use Rattle.model.proofs.Checked.{pair_numbers, Agrees, on_operand}
use Rattle.model.proofs.Broken.{is_true, is_false, Any, Says, says}
use Rattle.listings.specs.Listings.{Listed, line, downscale, turned, as_schedules, as_lines}
use Rattle.listings.specs.Rules.{KeepsRisingRules}
use Rattle.listings.specs.Broken.{rising_scale_tests, rising_tests}
use Rattle.listings.specs.Held.{held_line, held_lines, held_machine, downscaled}
use Rattle.listings.proofs.Falling.{numbered, encoded, listed_facts, earlier, rising_levels, falls}
use Rattle.listings.proofs.HeldRuns.{downscaled_tests, ListedDuty, listed_step, held_line_lem, held_length}
use Rattle.listings.proofs.Judged.{falling_agrees}

-- ---- tests
-- the first test that fails does not depend on what is tested
judged_bad : {A B : Type 0} (ts : Tests) (x : A) (y : B) (n : ℕ) → judged ts x ≡ bad n → judged ts y ≡ bad n
judged_bad [] x y n e = absurd (let z : ◌≡◌ {A = ℕ} 0 1 = cc in omega arith)
judged_bad {A} {B} ((m, b) ∷ ts) x y n e = go b e (judged_bad ts x y n)
  where
    number : {C : Type 0} → ◌≡◌ {A = Judgement C} (bad m) (bad n) → m ≡ n
    number e = cc

    go : (b : Bool) → ◌≡◌ {A = Judgement A} (cond b (judged ts x) (bad m)) (bad n) → (judged ts x ≡ bad n → judged ts y ≡ bad n)
        → ◌≡◌ {A = Judgement B} (cond b (judged ts y) (bad m)) (bad n)
    go true e f = f e
    go false e f = ap bad (number e)

-- a test before others
abbrev first : ℕ → Bool → Tests → Tests
first n b ts = (n, b) ∷ ts

-- two tests that pass together
together : (b c : Bool) → (T b → T c) → (T c → T b) → b ≡ c
together true true f g = refl
together true false f g = absurd (f tt)
together false true f g = absurd (g tt)
together false false f g = refl

-- ---- a line's tests with levels that count down
abbrev falling_tests : Header → (ℕ → ℕ) → (ℕ → ℕ) → Listed → Tests
falling_tests h scale level (line x) = rule_tests h scale level (turned h x)
falling_tests h scale level (downscale a) =
    (14, ltb (scale a) (h.waterline + h.factor))
    ∷ (9, le_z (pos (h.waterline + h.factor) +ℤ pos (headroom h)) (pos h.factor *ℤ pos (level a))) ∷ []

module _ (h : Header) (scale level : ℕ → ℕ) where
  abbrev left : ℕ → ℕ
  left a = h.top - level a

  bits : (s : ℤ) (l : ℕ) (z : ℤ) → pos h.top -ℤ pos l ≡ z → rising_scale_tests h s l ≡ scale_tests h s z
  bits s l z e = ap (scale_tests h s) e

  unchanged : (s : ℤ) (a : ℕ) → level a ≤ h.top → rising_scale_tests h s (level a) ≡ scale_tests h s (pos (left a))
  unchanged s a u = bits s (level a) (pos (left a)) (sub_is h.top (level a) u)

  lowered : (s : ℤ) (a c : ℕ) → level a ≤ h.top → rising_scale_tests h s (level a + c) ≡ scale_tests h s (pos (left a) -ℤ pos c)
  lowered s a c u =
      bits s (level a + c) (pos (left a) -ℤ pos c)
      (≡-goal (pos h.top -ℤ pos (level a + c)) (pos (left a) -ℤ pos c) (omega (arith, parts- (pos h.top) (pos (level a + c)), parts- (pos (left a)) (pos c))))

  same_levels : (a b : ℕ) → level a ≤ h.top → level b ≤ h.top → eqb (level a) (level b) ≡ eqb (left a) (left b)
  same_levels a b u v = together (eqb (level a) (level b)) (eqb (left a) (left b))
      (λ t. eq_passes (left a) (left b) (ap (λ (n : ℕ). h.top - n) (eqb→eq (level a) (level b) t)))
      (λ t. eq_passes (level a) (level b) (omega (arith, eqb→eq (left a) (left b) t)))

  module _ (before : List Line) (operand-top : (a : ℕ) → T (numbered (kind_at before a)) → level a ≤ h.top) where
    one : (a : ℕ) → T (is_ciphertext (kind_at before a)) → level a ≤ h.top
    one a t = operand-top a (or_first (is_ciphertext (kind_at before a)) (is_encoded (kind_at before a)) t)

    same_tests : (x : Listed) → LineFacts Schedule h before (as_schedules h x) → rising_tests h scale level x ≡ falling_tests h scale left x
    same_tests (line In) l = bits (pos h.waterline) 0 (pos h.top) (≡-goal (pos h.top -ℤ pos 0) (pos h.top) (omega (arith, parts- (pos h.top) (pos 0))))
    same_tests (line (Const k)) l = refl
    same_tests (line (Neg a)) l = unchanged (pos (scale a)) a (one a l.kinds)
    same_tests (line (Rot a t)) l = unchanged (pos (scale a)) a (one a l.kinds)
    same_tests (line (Add a b)) l =
        let p = pair_numbers h scale level (kind_at before a) (kind_at before b) l.kinds in
        let u = operand-top a p.0 in
        let v = operand-top b p.1 in
        ap (λ (t : Bool). first 7 t (first 8 (eqb (scale a) (scale b)) (rising_scale_tests h (pos (scale a)) (level a)))) (same_levels a b u v)
        ∙ ap (λ (ts : Tests). first 7 (eqb (left a) (left b)) (first 8 (eqb (scale a) (scale b)) ts)) (unchanged (pos (scale a)) a u)
    same_tests (line (Mul a b)) l =
        let p = pair_numbers h scale level (kind_at before a) (kind_at before b) l.kinds in
        let u = operand-top a p.0 in
        let v = operand-top b p.1 in
        ap (λ (t : Bool). first 7 t (rising_scale_tests h (pos (scale a + scale b)) (level a))) (same_levels a b u v)
        ∙ ap (first 7 (eqb (left a) (left b))) (unchanged (pos (scale a + scale b)) a u)
    same_tests (line (Out a)) l = unchanged (pos (scale a)) a (one a l.kinds)
    same_tests (line (Enc a s e)) l = bits (pos s) e (pos (h.top - e)) (sub_is h.top e (omega (arith, encoded h s e l.range)))
    same_tests (line (Rs a c)) l = lowered (pos (scale a) -ℤ pos (h.factor * c)) a c (one a l.kinds)
    same_tests (line (Ms a c)) l = lowered (pos (scale a)) a c (one a l.kinds)
    same_tests (line (Us a b)) l = unchanged (pos (scale a + b)) a (one a l.kinds)
    same_tests (line Free) l = refl
    same_tests (downscale a) l =
        ap (λ (z : ℤ). first 14 (ltb (scale a) (h.waterline + h.factor))
        (first 9 (le_z (pos (h.waterline + h.factor) +ℤ pos (headroom h)) (pos h.factor *ℤ z)) []))
        (sub_is h.top (level a) (one a l.kinds))

-- ---- the line that is refused
module _ (h : Header) (scale level : ℕ → ℕ) where
  abbrev FallingSays : Listed → ℕ → Type 0
  FallingSays (line x) n = Says h scale level (turned h x) n
  FallingSays (downscale a) n = judged (falling_tests h scale level (downscale a)) (downscale a) ≡ bad n

  says_listed : (x : Listed) → T (is_word Schedule (as_schedules h x)) → ListedDuty h (FallingSays x) (Agrees h scale level) Any x
  says_listed (line x) w = says h scale level (turned h x) w
  says_listed (downscale a) w =
      on_operand h scale level (FallingSays (downscale a)) Any a (downscaled h)
      (λ b. downscaled_tests h (Outcome (FallingSays (downscale a)) Any) (scale a) (level a) (λ p q. tt)
      (λ t u. nine (is_true _ t) (is_false _ u)) (λ t. fourteen (is_false _ t)))
    where
      nine : ltb (scale a) (h.waterline + h.factor) ≡ true
          → le_z (pos (h.waterline + h.factor) +ℤ pos (headroom h)) (pos h.factor *ℤ pos (level a)) ≡ false → FallingSays (downscale a) 9
      nine p q = simp (p, q)

      fourteen : ltb (scale a) (h.waterline + h.factor) ≡ false → FallingSays (downscale a) 14
      fourteen p = simp p

  falling_bad : (x : Listed) (n : ℕ) → FallingSays x n → judged (falling_tests h scale level x) x ≡ bad n
  falling_bad (line x) n e = judged_bad (falling_tests h scale level (line x)) (turned h x) (line x) n e
  falling_bad (downscale a) n e = e

-- the first lines
pub take_map : {A B : Type 0} (f : A → B) (xs : List A) (i : ℕ) → take i (map f xs) ≡ map f (take i xs)
take_map f [] zero = refl
take_map f [] (suc i) = refl
take_map f (x ∷ xs) zero = refl
take_map f (x ∷ xs) (suc i) = ap (λ l. f x ∷ l) (take_map f xs i)

module _ (h : Header) (xs : List Listed) (formed : T (well_formed Schedule h (as_lines h xs))) where
  pub take_formed : (i : ℕ) → T (well_formed Schedule h (as_lines h (take i xs)))
  take_formed i = subst (λ (l : List Line). T (well_formed Schedule h l)) (take_map (as_schedules h) xs i) (well_take Schedule h (as_lines h xs) i formed)

  pub refused_rising : (i n : ℕ) → run (held_machine h) (held_lines h xs) ≡ stopped i n → (K : KeepsRisingRules h (take i xs))
      → judged (rising_tests h K.scale K.level (get_or xs i (line Free))) (get_or xs i (line Free)) ≡ bad n
  refused_rising i n e K =
      let f = first_stop (held_machine h) (held_lines h xs) i n e in
      let b : i < length xs = omega (arith, f.below, held_length h xs) in
      let r = falling_agrees h (take i xs) (take_formed i) K.scale (left h K.scale K.level) (falls h (take i xs) (take_formed i) K) in
      let l = listed_facts h xs formed i b in
      let c = continued (held_machine h) (held_lines h (take i xs)) 0 [] (held_line h x ∷ []) r.0 r.1 in
      ap (λ (ts : Tests). judged ts x) (same_tests h K.scale K.level (take i (as_lines h xs)) (tops b) x l)
      ∙ falling_bad h K.scale (left h K.scale K.level) x n
      (go r.0 (step (held_machine h) c.ins r.0 (held_line h x))
      (listed_step h (FallingSays h K.scale (left h K.scale K.level) x) (Agrees h K.scale (left h K.scale K.level)) Any (take i (as_lines h xs)) r.0
      (subst (λ (t : List Line). Matched (Agrees h K.scale (left h K.scale K.level)) t r.0) (sym (take_map (as_schedules h) xs i)) r.2) c.ins x l
      (says_listed h K.scale (left h K.scale K.level) x l.word))
      (sym c.goes_on ∙ ap (run (held_machine h)) (whole b) ∙ f.with_it))
    where
      x : Listed
      x = get_or xs i (line Free)

      tops : i < length xs → (a : ℕ) → T (numbered (kind_at (take i (as_lines h xs)) a)) → K.level a ≤ h.top
      tops b a t =
          let p = earlier h xs i a (omega arith) t in
          rising_levels h (take i xs) (take_formed i) K a (omega (arith, p.below, length-take-le i xs (omega arith)))
          (subst (λ (y : Listed). T (has_scale (as_schedules h y))) (sym (get_or-take i xs a (line Free) p.below)) p.has)

      whole : i < length xs → held_lines h (take i xs) ++ (held_line h x ∷ []) ≡ take (suc i) (held_lines h xs)
      whole b =
          ap (λ (l : List Line). l ++ (held_line h x ∷ [])) (sym (take_map (held_line h) xs i))
          ∙ ap (λ (y : Line). take i (held_lines h xs) ++ (y ∷ [])) (sym (held_line_lem h xs i))
          ∙ sym (take-suc (held_lines h xs) i Free (omega (arith, held_length h xs)))

      go : (found : List Found) (q : Step Found ℕ) → Outcome (FallingSays h K.scale (left h K.scale K.level) x) Any q
          → ◌≡◌ {A = Run Found ℕ} (elim q [ goes v ↦ finished (found ++ (v ∷ [])) | stops d ↦ stopped (length found) d ]) (stopped i n)
          → FallingSays h K.scale (left h K.scale K.level) x n
      go found (goes v) o p = stopped_finished (sym p)
      go found (stops d) o p = subst (FallingSays h K.scale (left h K.scale K.level) x) (stopped_is p) o
