-- The plan of a circuit whose best reserves are found keeps the rules, is well formed, erases to the circuit, and each of its kept lines has
-- just the best reserve. Assumes nothing.
use Prim.Native.Nat.{ℕ, suc, ◌+◌, ◌-◌, ◌*◌, ◌<◌, ◌≤◌}
use native.Mathlib.Omega.{arith}
use mathlib.Core.Path.{◌≡◌, refl, sym, ap, ap₂, ◌∙◌, subst}
use mathlib.Core.Bool.{true, ◌&&◌}
use mathlib.Core.List.{List, [], ◌∷◌, ◌++◌, append_assoc, append-nil}
use mathlib.Core.Option.{Option, none, some}
use lib.Dec.{T, eqb, eqb_refl}
use lib.ListN.{length, get_or, get_elem?}
use lib.IntN.{ℤ, pos}
use lib.Signed.{◌≤ℤ◌}
use Rattle.ints.specs.Parts.{positive, negative}
use Rattle.ints.proofs.Linear.{parts-, ≤-read}
use Rattle.model.specs.declared.Header.{Header}
use Rattle.model.specs.declared.Line.{Line}
use Rattle.model.specs.declared.Line.TheVariants.{In, Const, Neg, Rot, Add, Mul, Out, Enc, Rs, Ms, Us, Free}
use Rattle.model.specs.declared.Grammar.TheVariants.{Circuit}
use Rattle.model.specs.Scales.{headroom}
use Rattle.model.specs.Files.{kind_of, kind_at, is_usable, in_range, every_usable, line_formed, lines_formed}
use Rattle.model.specs.Machine.{Step, goes, stops, Run, finished, stopped, and_then, held_by, step, count_in, run_from, run}
use Rattle.model.specs.Rules.{Bounds}
use Rattle.model.specs.declared.Choice.{Choice}
use Rattle.model.specs.declared.Best.{Best}
use Rattle.model.specs.declared.Best.TheVariants as Bests
use Rattle.model.specs.Plan.{Draft, at_waterline, smaller, input_choice, unchanged_choice, times_constant_choice, constant_times_choice, product_choice, unless_too_few, on_reserves, best_machine, choice_of, plan_line, plan_from, plan_lines}
use Rattle.model.specs.declared.Found.TheVariants as Founds
use Rattle.model.specs.Answers.{sum, product, bounded}
use Rattle.model.proofs.Tests.{and_first, and_second, cond_true, HeaderFacts}
use Rattle.model.proofs.Lists.{length_snoc, found_after, found_last, found_snoc, found_is}
use Rattle.model.proofs.Runs.{or_absent, stops_goes, goes_is, stopped_finished, finished_is, kept_on}
use Rattle.model.proofs.Bounded.{bounded_goes}
use Rattle.model.proofs.Chosen.{unless_too_few_elim}
use Rattle.model.proofs.Formed.{LineFacts, line_facts}
use Rattle.model.proofs.Drafts.{Sound, Stands, Grown, nothing}
use Rattle.model.proofs.Supplies.{on_ciphertext_formed, Valid, scale_at, valid_bounds, ValidBest, found_for, kind_for}
use Rattle.model.proofs.Meets.{Meets, waterline_valid, meets_one, meets_sum, meets_times_constant, meets_constant_times, constant_scale, meets_product, product_scale}
use Rattle.model.proofs.Lines.{Progress, Ready, ready, two_grown, one_grown, out_grown, const_grown, in_grown}

module _ (h : Header) (H : HeaderFacts h) where
  -- ---- where a step of the best reserves went on
  by_operand : (held : List Best) (a : ℕ) (f : Best → Step Best ℕ) {v : Best} (Q : Type 0) → and_then (held_by (best_machine h) held a) f ≡ goes v
      → ((b : Best) → get_elem? held a ≡ some b → f b ≡ goes v → Q) → Q
  by_operand held a f {v} Q e k = go (get_elem? held a) refl e
    where
      go : (o : Option Best) → get_elem? held a ≡ o → and_then (or_absent 4 o) f ≡ goes v → Q
      go none p q = stops_goes q
      go (some b) p q = k b p q

  by_choice : (p : Choice) {v : Best} (Q : Best → Type 0) → unless_too_few h p ≡ goes v → (pos (headroom h) ≤ℤ p.reserve → Q (Bests.Ciphertext p)) → Q v
  by_choice p {v} Q e k = unless_too_few_elim h p (λ s. s ≡ goes v → Q v) (λ q. stops_goes q) (λ o q. subst Q (goes_is q) (k o)) e

  by_goes : {b v : Best} (Q : Best → Type 0) → ◌≡◌ {A = Step Best ℕ} (goes b) (goes v) → Q b → Q v
  by_goes Q e q = subst Q (goes_is e) q

  sum_goes : (s l : ℕ) → Bounds h s l → sum h s l s l ≡ goes (Founds.Ciphertext s l)
  sum_goes s l b = cond_true (eqb l l) _ _ (eqb_refl l) ∙ cond_true (eqb s s) _ _ (eqb_refl s) ∙ bounded_goes h Founds.Ciphertext s l b

  product_goes : (s s' t l : ℕ) → s + s' ≡ t → Bounds h t l → product h s l s' l ≡ goes (Founds.Ciphertext t l)
  product_goes s s' t l e b = cond_true (eqb l l) _ _ (eqb_refl l) ∙ ap (λ (n : ℕ). bounded h Founds.Ciphertext (pos n) (pos l)) e ∙ bounded_goes h Founds.Ciphertext t l b

  input_valid : pos (headroom h) ≤ℤ at_waterline h h.top → Valid h H (at_waterline h h.top) h.top
  input_valid o = waterline_valid h H h.top (h.factor * h.top - h.waterline) fits_top least_top (omega arith)
    where
      z : ℤ
      z = at_waterline h h.top

      parts : positive z + h.waterline ≡ negative z + h.factor * h.top
      parts = omega (arith, parts- (pos (h.factor * h.top)) (pos h.waterline))

      fits_top : h.factor * h.top - h.waterline + h.waterline ≤ h.factor * h.top
      fits_top = omega (arith, parts, ≤-read (pos (headroom h)) z o)

      least_top : headroom h ≤ h.factor * h.top - h.waterline
      least_top = omega (arith, parts, ≤-read (pos (headroom h)) z o)

  module _ (full : List Best) {done lines : List Line} {best : List Best} {numbers : List ℕ} (P : Progress h H done best numbers lines)
      (prefix : (a : ℕ) (b : Best) → get_elem? best a ≡ some b → get_or full a Bests.Constant ≡ b) where
    -- a circuit line whose best value is v, planned
    pub record Added (x : Line) (v : Best) : Type 0 where
      pub valid : ValidBest h H v
      pub kind : T (is_usable (kind_of x)) → kind_of x ≡ kind_for h H v
      pub grown : Grown h 7 lines (plan_line h full numbers (choice_of v) x lines).lines (done ++ (x ∷ [])) (numbers ++ ((plan_line h full numbers (choice_of v) x lines).number ∷ []))
          (plan_line h full numbers (choice_of v) x lines).number (found_for h H v) (kind_of x) (length done)

    usable_one : (a : ℕ) → T (every_usable done (a ∷ [])) → T (is_usable (kind_at done a))
    usable_one a t = and_first (is_usable (kind_at done a)) true t

    S : Sound h lines done numbers
    S = P.sound

    -- ---- `neg` and `rot`
    one_added : (word : ℕ → Line) (a : ℕ) (b v : Best) → LineFacts Circuit h done (word a) → get_elem? best a ≡ some b → T (is_usable (kind_at done a))
        → ((q : Choice) → Bests.Ciphertext q ≡ b → Added (word a) (Bests.Ciphertext (unchanged_choice h q.reserve)))
        → Rattle.model.specs.Plan.on_best (λ p. unless_too_few h (unchanged_choice h p.reserve)) b ≡ goes v → Added (word a) v
    one_added word a Bests.Constant v L e u k s = stops_goes s
    one_added word a (Bests.Ciphertext q) v L e u k s = by_choice (unchanged_choice h q.reserve) (Added (word a)) s (λ o. k q refl)

    neg_added : (a : ℕ) (b v : Best) → LineFacts Circuit h done (Neg a) → get_elem? best a ≡ some b → T (is_usable (kind_at done a))
        → Rattle.model.specs.Plan.on_best (λ p. unless_too_few h (unchanged_choice h p.reserve)) b ≡ goes v → Added (Neg a) v
    neg_added a b v L e u = one_added Neg a b v L e u (λ q w.
        let r = ready h H P a (Bests.Ciphertext q) u (e ∙ ap some (sym w)) in
        record {
          valid = (meets_one h H q r.valid).own;
          kind = λ t. refl;
          grown = one_grown h H full S Neg a q (λ i. refl) (λ g i. refl) (λ i. refl) (λ n i found. refl) (λ ls i k. on_ciphertext_formed true (kind_at ls i) tt k)
              (prefix a (Bests.Ciphertext q) (e ∙ ap some (sym w))) r;
        })

    rot_added : (a : ℕ) (t : ℤ) (b v : Best) → LineFacts Circuit h done (Rot a t) → get_elem? best a ≡ some b → T (is_usable (kind_at done a))
        → Rattle.model.specs.Plan.on_best (λ p. unless_too_few h (unchanged_choice h p.reserve)) b ≡ goes v → Added (Rot a t) v
    rot_added a t b v L e u = one_added (λ i. Rot i t) a b v L e u (λ q w.
        let r = ready h H P a (Bests.Ciphertext q) u (e ∙ ap some (sym w)) in
        record {
          valid = (meets_one h H q r.valid).own;
          kind = λ t. refl;
          grown = one_grown h H full S (λ i. Rot i t) a q (λ i. refl) (λ g i. refl) (λ i. refl) (λ n i found. refl)
              (λ ls i k. on_ciphertext_formed (in_range h (Rot a t)) (kind_at ls i) L.range k) (prefix a (Bests.Ciphertext q) (e ∙ ap some (sym w))) r;
        })

    -- ---- `out`
    out_added : (a : ℕ) (b v : Best) → get_elem? best a ≡ some b → T (is_usable (kind_at done a)) → Rattle.model.specs.Plan.on_best (λ p. goes (Bests.Ciphertext p)) b ≡ goes v
        → Added (Out a) v
    out_added a Bests.Constant v e u s = stops_goes s
    out_added a (Bests.Ciphertext q) v e u s = by_goes (Added (Out a)) s
        (let r = ready h H P a (Bests.Ciphertext q) u e in record { valid = r.valid; kind = λ t. absurd t; grown = out_grown h H full S a q r })

    -- ---- `add` and `mul`
    usable_two : (a b : ℕ) → T (every_usable done (a ∷ b ∷ [])) → T (is_usable (kind_at done a)) × T (is_usable (kind_at done b))
    usable_two a b t = (
      and_first (is_usable (kind_at done a)) (is_usable (kind_at done b) && true) t,
      usable_one b (and_second (is_usable (kind_at done a)) (is_usable (kind_at done b) && true) t),
    )

    module _ (a b : ℕ) {u v : Best} (e : get_elem? best a ≡ some u) (e' : get_elem? best b ≡ some v) (x : Ready h H lines numbers a u) (y : Ready h H lines numbers b v) where
      add_grown : (p : Choice) → Rattle.model.proofs.Lines.Pair h H u v → Meets h H p u v → scale_at h H p.first p.level ≡ scale_at h H p.reserve p.level
          → scale_at h H p.second p.level ≡ scale_at h H p.reserve p.level → Added (Add a b) (Bests.Ciphertext p)
      add_grown p z m i j =
          record {
            valid = m.own;
            kind = λ t. refl;
            grown = two_grown h H full S Add (sum h) a b u v p (λ i j. refl) (λ g i j. refl) (λ i j. refl) (λ n i j found. refl) (λ ls i j. refl) (prefix a u e)
                (prefix b v e') x y z m
                (ap₂ (λ (s s' : ℕ). sum h s p.level s' p.level) i j ∙ sum_goes (scale_at h H p.reserve p.level) p.level (valid_bounds h H m.own));
          }

      mul_grown : (p : Choice) → Rattle.model.proofs.Lines.Pair h H u v → Meets h H p u v
          → scale_at h H p.first p.level + scale_at h H p.second p.level ≡ scale_at h H p.reserve p.level → Added (Mul a b) (Bests.Ciphertext p)
      mul_grown p z m i =
          record {
            valid = m.own;
            kind = λ t. refl;
            grown = two_grown h H full S Mul (product h) a b u v p (λ i j. refl) (λ g i j. refl) (λ i j. refl) (λ n i j found. refl) (λ ls i j. refl) (prefix a u e)
                (prefix b v e') x y z m
                (product_goes (scale_at h H p.first p.level) (scale_at h H p.second p.level) (scale_at h H p.reserve p.level) p.level i
                (valid_bounds h H m.own));
          }

    add_added : (a b : ℕ) (u v w : Best) → get_elem? best a ≡ some u → get_elem? best b ≡ some v → Ready h H lines numbers a u → Ready h H lines numbers b v
        → on_reserves h (λ r r'. unchanged_choice h (smaller r r')) (unchanged_choice h) (unchanged_choice h) u v ≡ goes w
        → Added (Add a b) w
    add_added a b Bests.Constant Bests.Constant w e e' x y s = stops_goes s
    add_added a b Bests.Constant (Bests.Ciphertext q) w e e' x y s = by_choice (unchanged_choice h q.reserve) (Added (Add a b)) s
        (λ o. let m = meets_one h H q y.valid in
        add_grown a b e e' x y (unchanged_choice h q.reserve) tt
        (record { first = m.first; second = m.second; own = m.own; first_reached = tt; second_reached = m.second_reached }) refl refl)
    add_added a b (Bests.Ciphertext q) Bests.Constant w e e' x y s = by_choice (unchanged_choice h q.reserve) (Added (Add a b)) s
        (λ o. let m = meets_one h H q x.valid in
        add_grown a b e e' x y (unchanged_choice h q.reserve) tt
        (record { first = m.first; second = m.second; own = m.own; first_reached = m.first_reached; second_reached = tt }) refl refl)
    add_added a b (Bests.Ciphertext q) (Bests.Ciphertext q') w e e' x y s = by_choice (unchanged_choice h (smaller q.reserve q'.reserve)) (Added (Add a b)) s
        (λ o. add_grown a b e e' x y (unchanged_choice h (smaller q.reserve q'.reserve)) tt (meets_sum h H q q' x.valid y.valid) refl refl)

    mul_added : (a b : ℕ) (u v w : Best) → get_elem? best a ≡ some u → get_elem? best b ≡ some v → Ready h H lines numbers a u → Ready h H lines numbers b v
        → on_reserves h (product_choice h) (times_constant_choice h) (constant_times_choice h) u v ≡ goes w
        → Added (Mul a b) w
    mul_added a b Bests.Constant Bests.Constant w e e' x y s = stops_goes s
    mul_added a b Bests.Constant (Bests.Ciphertext q) w e e' x y s = by_choice (constant_times_choice h q.reserve) (Added (Mul a b)) s
        (λ o. mul_grown a b e e' x y (constant_times_choice h q.reserve) tt (meets_constant_times h H q y.valid o) (turn _ _ ∙ constant_scale h H q y.valid o))
      where
        turn : (m n : ℕ) → m + n ≡ n + m
        turn m n = omega arith
    mul_added a b (Bests.Ciphertext q) Bests.Constant w e e' x y s = by_choice (times_constant_choice h q.reserve) (Added (Mul a b)) s
        (λ o. mul_grown a b e e' x y (times_constant_choice h q.reserve) tt (meets_times_constant h H q x.valid o) (constant_scale h H q x.valid o))
    mul_added a b (Bests.Ciphertext q) (Bests.Ciphertext q') w e e' x y s = by_choice (product_choice h q.reserve q'.reserve) (Added (Mul a b)) s
        (λ o. mul_grown a b e e' x y (product_choice h q.reserve q'.reserve) tt (meets_product h H q q' x.valid y.valid o)
        (product_scale h H q q' x.valid y.valid o))

    two_added : (word : ℕ → ℕ → Line) (f : Best → Best → Step Best ℕ) (a b : ℕ) (w : Best) → T (every_usable done (a ∷ b ∷ []))
        → ((u v : Best) → get_elem? best a ≡ some u → get_elem? best b ≡ some v → Ready h H lines numbers a u → Ready h H lines numbers b v → f u v ≡ goes w → Added (word a b) w)
        → and_then (held_by (best_machine h) best a) (λ x. and_then (held_by (best_machine h) best b) (f x)) ≡ goes w → Added (word a b) w
    two_added word f a b w t k s =
        by_operand best a (λ x. and_then (held_by (best_machine h) best b) (f x)) (Added (word a b) w) s
        (λ u e s'. by_operand best b (f u) (Added (word a b) w) s' (λ v e' s''. k u v e e' (ready h H P a u (usable_two a b t).0 e) (ready h H P b v (usable_two a b t).1 e') s''))

    -- ---- any line of a circuit
    pub line_added : (x : Line) (k : ℕ) (v : Best) → LineFacts Circuit h done x → step (best_machine h) k best x ≡ goes v → Added x v
    line_added In k v L s = by_choice (input_choice h) (Added In) s (λ o. record { valid = input_valid o; kind = λ t. refl; grown = in_grown h H full S (input_valid o) })
    line_added (Const c) k v L s = by_goes (Added (Const c)) s (record { valid = tt; kind = λ t. refl; grown = const_grown h H full S c L.range })
    line_added (Neg a) k v L s = by_operand best a _ (Added (Neg a) v) s (λ b e s'. neg_added a b v L e (usable_one a L.usable) s')
    line_added (Rot a t) k v L s = by_operand best a _ (Added (Rot a t) v) s (λ b e s'. rot_added a t b v L e (usable_one a L.usable) s')
    line_added (Add a b) k v L s = two_added Add (best_machine h).add a b v L.usable (λ p q. add_added a b p q v) s
    line_added (Mul a b) k v L s = two_added Mul (best_machine h).mul a b v L.usable (λ p q. mul_added a b p q v) s
    line_added (Out a) k v L s = by_operand best a _ (Added (Out a) v) s (λ b e s'. out_added a b v e (usable_one a L.usable) s')
    line_added (Enc a s e) k v L q = absurd L.word
    line_added (Rs a c) k v L q = absurd L.word
    line_added (Ms a c) k v L q = absurd L.word
    line_added (Us a b) k v L q = absurd L.word
    line_added Free k v L q = absurd L.word

  -- ---- the whole circuit
  module _ (full : List Best) {done lines : List Line} {best : List Best} {numbers : List ℕ} (P : Progress h H done best numbers lines)
      (prefix : (a : ℕ) (b : Best) → get_elem? best a ≡ some b → get_or full a Bests.Constant ≡ b) where
    -- one line more
    more : (x : Line) (v : Best) → Added full P prefix x v
        → Progress h H (done ++ (x ∷ [])) (best ++ (v ∷ [])) (numbers ++ ((plan_line h full numbers (choice_of v) x lines).number ∷ []))
        (plan_line h full numbers (choice_of v) x lines).lines
    more x v A =
        record {
          sound = A.grown.sound;
          few = omega (arith, A.grown.few, P.few, length_snoc done x);
          long = length_snoc best v ∙ ap suc P.long ∙ sym (length_snoc done x);
          counted = length_snoc numbers d.number ∙ ap suc P.counted ∙ sym (length_snoc done x);
          valid = λ a b e. found_snoc best v a e (ValidBest h H b) (λ p. P.valid a b p) (λ p q. subst (ValidBest h H) q A.valid);
          kinds = λ a y b e e' u. found_snoc best v a e' (kind_of y ≡ kind_for h H b)
              (λ p. P.kinds a y b (old a y b e p) p u)
              (λ p q. let r = new a y p e in ap kind_of (sym r) ∙ A.kind (subst (λ (z : Line). T (is_usable (kind_of z))) (sym r) u) ∙ ap (kind_for h H) q);
          entry = λ a y b e e'. found_snoc best v a e' (Stands h d.lines (get_or (numbers ++ (d.number ∷ [])) a 0) (found_for h H b) (kind_of y) a)
              (λ p. let s = P.entry a y b (old a y b e p) p in
              subst (λ (i : ℕ). Stands h d.lines i (found_for h H b) (kind_of y) a) (sym (stays a (below a b p))) (A.grown.still _ _ _ _ s))
              (λ p q. subst (λ (z : Best). Stands h d.lines (get_or (numbers ++ (d.number ∷ [])) a 0) (found_for h H z) (kind_of y) a) q
              (subst (λ (z : Line). Stands h d.lines (get_or (numbers ++ (d.number ∷ [])) a 0) (found_for h H v) (kind_of z) a) (new a y p e)
              (subst (λ (o : ℕ). Stands h d.lines (get_or (numbers ++ (d.number ∷ [])) o 0) (found_for h H v) (kind_of x) o) (sym (p ∙ P.long))
              (subst (λ (i : ℕ). Stands h d.lines i (found_for h H v) (kind_of x) (length done)) (sym last) A.grown.stands))));
        }
      where
        d : Draft
        d = plan_line h full numbers (choice_of v) x lines

        below : (a : ℕ) (b : Best) → get_elem? best a ≡ some b → a < length done
        below a b p = omega (arith, Rattle.model.proofs.Lists.found_below best a p, P.long)

        old : (a : ℕ) (y : Line) (b : Best) → get_elem? (done ++ (x ∷ [])) a ≡ some y → get_elem? best a ≡ some b → get_elem? done a ≡ some y
        old a y b e p = found_snoc done x a e (get_elem? done a ≡ some y) (λ q. q) (λ q r. absurd (over q (below a b p)))
          where
            over : a ≡ length done → a < length done → ⊥
            over q r = omega arith

        new : (a : ℕ) (y : Line) → a ≡ length best → get_elem? (done ++ (x ∷ [])) a ≡ some y → x ≡ y
        new a y p e = found_snoc done x a e (x ≡ y) (λ q. absurd (over (Rattle.model.proofs.Lists.found_below done a q))) (λ q r. r)
          where
            over : a < length done → ⊥
            over q = omega (arith, P.long)

        stays : (a : ℕ) → a < length done → get_or (numbers ++ (d.number ∷ [])) a 0 ≡ get_or numbers a 0
        stays a u = lib.ListN.get_or-append numbers (d.number ∷ []) 0 a (omega (arith, P.counted))

        last : get_or (numbers ++ (d.number ∷ [])) (length done) 0 ≡ d.number
        last = ap (λ (i : ℕ). get_or (numbers ++ (d.number ∷ [])) i 0) (sym P.counted) ∙ lib.Seq.get_or-append_seam numbers d.number [] 0

  -- the circuit, its best values and its plan
  pub record Whole (circuit : List Line) (best : List Best) (schedule : List Line) : Type 0 where
    pub numbers : List ℕ
    pub progress : Progress h H circuit best numbers schedule

  planned_from : (xs : List Line) (k : ℕ) (done : List Line) (best full : List Best) (numbers : List ℕ) (lines : List Line) → Progress h H done best numbers lines
      → T (lines_formed Circuit h done xs)
      → run_from (best_machine h) k best xs ≡ finished full → Whole (done ++ xs) full (plan_from h full numbers lines xs)
  planned_from [] k done best full numbers lines P t e =
      record {
        numbers = numbers;
        progress = subst (λ (c : List Line). Progress h H c full numbers lines) (sym (append-nil done))
            (subst (λ (b : List Best). Progress h H done b numbers lines) (finished_is e) P);
      }
  planned_from (x ∷ xs) k done best full numbers lines P t e =
      go (step (best_machine h) k best x) refl e
      (λ v ns ls P' e'. planned_from xs (count_in x k) (done ++ (x ∷ [])) (best ++ (v ∷ [])) full ns ls P' (and_second (line_formed Circuit h done x) _ t) e')
    where
      L : LineFacts Circuit h done x
      L = line_facts Circuit h done x (and_first (line_formed Circuit h done x) (lines_formed Circuit h (done ++ (x ∷ [])) xs) t)

      d : Best → Draft
      d v = plan_line h full numbers (choice_of v) x lines

      go : (s : Step Best ℕ) → step (best_machine h) k best x ≡ s
          → ◌≡◌ {A = Run Best ℕ} (elim s [ goes v ↦ run_from (best_machine h) (count_in x k) (best ++ (v ∷ [])) xs | stops n ↦ stopped (length best) n ]) (finished full)
          → ((v : Best) (ns : List ℕ) (ls : List Line) → Progress h H (done ++ (x ∷ [])) (best ++ (v ∷ [])) ns ls
          → run_from (best_machine h) (count_in x k) (best ++ (v ∷ [])) xs ≡ finished full → Whole ((done ++ (x ∷ [])) ++ xs) full (plan_from h full ns ls xs))
          → Whole (done ++ (x ∷ xs)) full (plan_from h full numbers lines (x ∷ xs))
      go (stops n) p q r = stopped_finished q
      go (goes v) p q r =
          subst (λ (b : Best). Whole (done ++ (x ∷ xs)) full
          (plan_from h full (numbers ++ ((plan_line h full numbers (choice_of b) x lines).number ∷ [])) (plan_line h full numbers (choice_of b) x lines).lines xs)) (sym own)
          (subst (λ (c : List Line). Whole c full (plan_from h full (numbers ++ ((d v).number ∷ [])) (d v).lines xs)) (append_assoc done (x ∷ []) xs)
          (r v (numbers ++ ((d v).number ∷ [])) (d v).lines (more full P prefix x v (line_added full P prefix x k v L p)) q))
        where
          prefix : (a : ℕ) (b : Best) → get_elem? best a ≡ some b → get_or full a Bests.Constant ≡ b
          prefix a b f = found_is full a Bests.Constant (kept_on (best_machine h) xs (count_in x k) (best ++ (v ∷ [])) q a (found_after best (v ∷ []) a f))

          own : get_or full (length numbers) Bests.Constant ≡ v
          own = ap (λ (i : ℕ). get_or full i Bests.Constant) (P.counted ∙ sym P.long)
              ∙ found_is full (length best) Bests.Constant (kept_on (best_machine h) xs (count_in x k) (best ++ (v ∷ [])) q (length best) (found_last best v))

  pub planned : (c : List Line) {best : List Best} → T (lines_formed Circuit h [] c) → run (best_machine h) c ≡ finished best → Whole c best (plan_lines h best c)
  planned c {best} t e = planned_from c 0 [] [] best [] [] start t e
    where
      start : Progress h H [] [] [] []
      start = record {
        sound = nothing h;
        few = omega arith;
        long = refl;
        counted = refl;
        valid = λ a b e. absurd (empty e);
        kinds = λ a x b e. absurd (empty e);
        entry =
            λ a x b e. absurd (empty e);
      }
        where
          empty : {X : Type 0} {x : X} → ◌≡◌ {A = Option X} none (some x) → ⊥
          empty q = let z : ◌≡◌ {A = ℕ} 0 1 = cc in omega arith
