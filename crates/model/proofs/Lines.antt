-- The plan's lines for one circuit line: its operands' lines, then the line itself. They keep the rules, are in range, erase to the circuit
-- line, and the line has just the best reserve. Assumes nothing.
use Prim.Native.Nat.{ℕ, ◌*◌, ◌≤◌}
use native.Mathlib.Omega.{arith}
use mathlib.Core.Path.{◌≡◌, refl, sym, ap, ap₂, ◌∙◌, subst}
use mathlib.Core.Bool.{Bool, true, ◌&&◌}
use mathlib.Core.List.{List, [], ◌∷◌, ◌++◌}
use mathlib.Core.Option.{some}
use lib.Dec.{T}
use lib.ListN.{length, get_or, get_elem?}
use lib.IntN.{ℤ, pos}
use Rattle.ints.proofs.Linear.{positive_sub}
use Rattle.model.specs.declared.Header.{Header}
use Rattle.model.specs.declared.Line.{Line}
use Rattle.model.specs.declared.Line.TheVariants.{In, Const, Out, Free}
use Rattle.model.specs.declared.Grammar.TheVariants.{Schedule}
use Rattle.model.specs.declared.Kind.{Kind}
use Rattle.model.specs.declared.Kind.TheVariants.{Ciphertext, Constant, Nothing}
use Rattle.model.specs.Files.{kind_of, kind_at, is_usable, is_pair, in_range, line_formed}
use Rattle.model.specs.Machine.{Step, goes, and_then, held_by, step}
use Rattle.model.specs.declared.Choice.{Choice}
use Rattle.model.specs.declared.Best.{Best}
use Rattle.model.specs.declared.Best.TheVariants as Bests
use Rattle.model.specs.Plan.{Draft, at_waterline, supply, operand_to, plan_one, plan_two, input_choice, unchanged_choice}
use Rattle.model.specs.Services.{kept, fate_of, renamed, erase}
use Rattle.model.proofs.Statements.Erasing.{origins}
use Rattle.model.specs.Answers as Refused
use Rattle.model.specs.declared.Found.{Found}
use Rattle.model.specs.declared.Found.TheVariants as Founds
use Rattle.model.specs.Answers.{bounded, on_pair, check_machine}
use Rattle.model.proofs.Tests.{and_both, HeaderFacts}
use Rattle.model.proofs.Lists.{found_at, found_is}
use Rattle.model.proofs.Bounded.{bounded_goes}
use Rattle.model.proofs.Formed.{usable_below}
use Rattle.model.proofs.Drafts.{found_in, Sound, Stands, kind_at_lem, reads, Grown, emit_kept, then, at_most}
use Rattle.model.proofs.Supplies.{on_ciphertext_formed, Valid, scale_at, valid_bounds, ValidBest, found_for, kind_for, supplied_found, supplied_kind, Reaches, supply_grown}
use Rattle.model.proofs.Meets.{Meets, meets_one}

module _ (h : Header) (H : HeaderFacts h) where
  -- What holds when the circuit lines `done` are planned: their best values, the value numbers that they have in the schedule, its lines.
  pub record Progress (done : List Line) (best : List Best) (numbers : List ℕ) (lines : List Line) : Type 0 where
    pub sound : Sound h lines done numbers
    pub few : length lines ≤ 7 * length done
    pub long : length best ≡ length done
    pub counted : length numbers ≡ length done
    pub valid : (a : ℕ) (b : Best) → get_elem? best a ≡ some b → ValidBest h H b
    pub kinds : (a : ℕ) (x : Line) (b : Best) → get_elem? done a ≡ some x → get_elem? best a ≡ some b → T (is_usable (kind_of x)) → kind_of x ≡ kind_for h H b
    pub entry : (a : ℕ) (x : Line) (b : Best) → get_elem? done a ≡ some x → get_elem? best a ≡ some b → Stands h lines (get_or numbers a 0) (found_for h H b) (kind_of x) a

  -- an held_by that the line may name, as it stands
  pub record Ready (lines : List Line) (numbers : List ℕ) (a : ℕ) (b : Best) : Type 0 where
    pub valid : ValidBest h H b
    pub stands : Stands h lines (get_or numbers a 0) (found_for h H b) (kind_for h H b) a

  pub ready : {done lines : List Line} {best : List Best} {numbers : List ℕ} → Progress done best numbers lines → (a : ℕ) (b : Best) → T (is_usable (kind_at done a))
      → get_elem? best a ≡ some b → Ready lines numbers a b
  ready {done} {lines} {numbers = numbers} P a b u e =
      let there : get_elem? done a ≡ some (get_or done a Free) = found_at done a Free (usable_below done a u) in
      record {
        valid = P.valid a b e;
        stands = subst (λ (k : Kind). Stands h lines (get_or numbers a 0) (found_for h H b) k a) (P.kinds a (get_or done a Free) b there e u) (P.entry a (get_or done a Free) b there e);
      }

  -- ---- a line with two operands
  -- one of the two is a ciphertext
  abbrev pub Pair : Best → Best → Type 0
  Pair Bests.Constant Bests.Constant = ⊥
  Pair Bests.Constant (Bests.Ciphertext q) = Unit {0}
  Pair (Bests.Ciphertext p) b = Unit {0}

  pair_kinds : (b b' : Best) → Pair b b'
      → T (is_usable (supplied_kind h H b) && (is_usable (supplied_kind h H b') && true) && is_pair Schedule (supplied_kind h H b) (supplied_kind h H b'))
  pair_kinds Bests.Constant Bests.Constant x = absurd x
  pair_kinds Bests.Constant (Bests.Ciphertext q) x = tt
  pair_kinds (Bests.Ciphertext p) Bests.Constant x = tt
  pair_kinds (Bests.Ciphertext p) (Bests.Ciphertext q) x = tt

  pair_found : (f : ℕ → ℕ → ℕ → ℕ → Step Found ℕ) (b b' : Best) (r r' : ℤ) (l : ℕ) → Pair b b'
      → on_pair f (supplied_found h H b r l) (supplied_found h H b' r' l) ≡ f (scale_at h H r l) l (scale_at h H r' l) l
  pair_found f Bests.Constant Bests.Constant r r' l x = absurd x
  pair_found f Bests.Constant (Bests.Ciphertext q) r r' l x = refl
  pair_found f (Bests.Ciphertext p) Bests.Constant r r' l x = refl
  pair_found f (Bests.Ciphertext p) (Bests.Ciphertext q) r r' l x = refl

  -- what the check makes of two operands
  on_two : {lines : List Line} {i j : ℕ} {f g : Found} {k m : Kind} {o q : ℕ} (r : ℕ → ℕ → ℕ → ℕ → Step Found ℕ) → Stands h lines i f k o → Stands h lines j g m q
      → and_then (held_by (check_machine h) (found_in h lines) i) (λ x. and_then (held_by (check_machine h) (found_in h lines) j) (on_pair r x)) ≡ on_pair r f g
  on_two {lines} {i} {j} {f} r s t =
      ap (λ (u : Step Found ℕ). and_then u (λ x. and_then (held_by (check_machine h) (found_in h lines) j) (on_pair r x))) (reads h s)
      ∙ ap (λ (u : Step Found ℕ). and_then u (on_pair r f)) (reads h t)

  two_formed : (r : Bool) (j k : Kind) (b b' : Best) → T r → j ≡ supplied_kind h H b → k ≡ supplied_kind h H b' → Pair b b'
      → T (r && (is_usable j && (is_usable k && true) && is_pair Schedule j k))
  two_formed r j k b b' t e e' x =
      subst (λ (j : Kind). T (r && (is_usable j && (is_usable k && true) && is_pair Schedule j k))) (sym e)
      (subst (λ (k : Kind). T (r && (is_usable (supplied_kind h H b) && (is_usable k && true) && is_pair Schedule (supplied_kind h H b) k))) (sym e')
      (and_both r (is_usable (supplied_kind h H b) && (is_usable (supplied_kind h H b') && true) && is_pair Schedule (supplied_kind h H b) (supplied_kind h H b')) t (pair_kinds b b' x)))

  module _ (full : List Best) {done lines : List Line} {numbers : List ℕ} (S : Sound h lines done numbers) where
    abbrev d₀ : ℕ → List Line → Draft
    d₀ a ls = record { lines = ls; number = get_or numbers a 0 }

    -- an held_by brought to where the line is done
    brought : (a : ℕ) (b : Best) (ls : List Line) (p : Choice) (r : ℤ) → get_or full a Bests.Constant ≡ b → ValidBest h H b → Valid h H r p.level → Reaches h H b r p.level
        → Sound h ls done numbers → Stands h ls (get_or numbers a 0) (found_for h H b) (kind_for h H b) a
        → Grown h 3 ls (operand_to h full numbers p r a ls).lines done numbers (operand_to h full numbers p r a ls).number (supplied_found h H b r p.level) (supplied_kind h H b) a
    brought a b ls p r e u v x s t =
        subst (λ (z : Best). Grown h 3 ls (supply h z r p.level (d₀ a ls)).lines done numbers (supply h z r p.level (d₀ a ls)).number (supplied_found h H b r p.level)
        (supplied_kind h H b) a) (sym e)
        (supply_grown h H b r p.level (d₀ a ls) u v x s t)

    -- the origin of what was supplied
    names : {ls : List Line} {i : ℕ} {f : Found} {k : Kind} {a : ℕ} → Stands h ls i f k a → get_or (origins ls) i (length (erase ls)) ≡ a
    names {ls} {i} s = found_is (origins ls) i (length (erase ls)) s.origin

    pub two_grown : (word : ℕ → ℕ → Line) (f : ℕ → ℕ → ℕ → ℕ → Step Found ℕ) (a b : ℕ) (u v : Best) (p : Choice)
        → ((i j : ℕ) → fate_of (word i j) ≡ kept) → ((g : ℕ → ℕ) (i j : ℕ) → renamed g (word i j) ≡ word (g i) (g j)) → ((i j : ℕ) → kind_of (word i j) ≡ Ciphertext)
        → ((n i j : ℕ) (found : List Found)
        → step (check_machine h) n found (word i j) ≡ and_then (held_by (check_machine h) found i) (λ x. and_then (held_by (check_machine h) found j) (on_pair f x)))
        → ((ls : List Line) (i j : ℕ)
        → line_formed Schedule h ls (word i j) ≡ (true && (is_usable (kind_at ls i) && (is_usable (kind_at ls j) && true) && is_pair Schedule (kind_at ls i) (kind_at ls j))))
        → get_or full a Bests.Constant ≡ u → get_or full b Bests.Constant ≡ v → Ready lines numbers a u → Ready lines numbers b v → Pair u v → Meets h H p u v
        → f (scale_at h H p.first p.level) p.level (scale_at h H p.second p.level) p.level ≡ goes
        (Founds.Ciphertext (scale_at h H p.reserve p.level) p.level)
        → Grown h 7 lines (plan_two h full numbers p word a b lines).lines (done ++ (word a b ∷ [])) (numbers ++ ((plan_two h full numbers p word a b lines).number ∷ []))
        (plan_two h full numbers p word a b lines).number
        (Founds.Ciphertext (scale_at h H p.reserve p.level) p.level) Ciphertext (length done)
    two_grown word f a b u v p fate rename kind steps forms e e' x y z m goes_on =
        subst (λ (k : Kind). Grown h 7 lines (E.lines ++ (word D.number E.number ∷ [])) (done ++ (word a b ∷ [])) (numbers ++ (length E.lines ∷ []))
        (length E.lines) result k (length done)) (kind D.number E.number)
        (then h g₁ (then h g₂ (emit_kept h (word D.number E.number) (word a b) result g₂.sound (fate _ _)
        (λ n. steps n D.number E.number (found_in h E.lines) ∙ on_two f first second ∙ pair_found f u v p.first p.second p.level z ∙ goes_on)
        (subst T (sym (forms E.lines D.number E.number)) (two_formed true _ _ u v tt (kind_at_lem h first) (kind_at_lem h second) z))
        (rename (λ o. get_or (origins E.lines) o (length (erase E.lines))) _ _ ∙ ap₂ word (names first) (names second)))))
      where
        result : Found
        result = Founds.Ciphertext (scale_at h H p.reserve p.level) p.level

        D : Draft
        D = operand_to h full numbers p p.first a lines

        E : Draft
        E = operand_to h full numbers p p.second b D.lines

        g₁ : Grown h 3 lines D.lines done numbers D.number (supplied_found h H u p.first p.level) (supplied_kind h H u) a
        g₁ = brought a u lines p p.first e x.valid m.first m.first_reached S x.stands

        g₂ : Grown h 3 D.lines E.lines done numbers E.number (supplied_found h H v p.second p.level) (supplied_kind h H v) b
        g₂ = brought b v D.lines p p.second e' y.valid m.second m.second_reached g₁.sound (g₁.still _ _ _ _ y.stands)

        first : Stands h E.lines D.number (supplied_found h H u p.first p.level) (supplied_kind h H u) a
        first = g₂.still _ _ _ _ g₁.stands

        second : Stands h E.lines E.number (supplied_found h H v p.second p.level) (supplied_kind h H v) b
        second = g₂.stands

    -- ---- a line with one held_by, a ciphertext: neither its scale nor its level changes
    pub one_grown : (word : ℕ → Line) (a : ℕ) (q : Choice) → ((i : ℕ) → fate_of (word i) ≡ kept) → ((g : ℕ → ℕ) (i : ℕ) → renamed g (word i) ≡ word (g i))
        → ((i : ℕ) → kind_of (word i) ≡ Ciphertext)
        → ((n i : ℕ) (found : List Found)
        → step (check_machine h) n found (word i) ≡ and_then (held_by (check_machine h) found i) (Refused.on_ciphertext (λ s l. bounded h Founds.Ciphertext (pos s) (pos l))))
        → ((ls : List Line) (i : ℕ) → kind_at ls i ≡ Ciphertext → T (line_formed Schedule h ls (word i)))
        → get_or full a Bests.Constant ≡ Bests.Ciphertext q → Ready lines numbers a (Bests.Ciphertext q)
        → Grown h 7 lines (plan_one h full numbers (unchanged_choice h q.reserve) word a lines).lines (done ++ (word a ∷ []))
        (numbers ++ ((plan_one h full numbers (unchanged_choice h q.reserve) word a lines).number ∷ []))
        (plan_one h full numbers (unchanged_choice h q.reserve) word a lines).number (found_for h H (Bests.Ciphertext (unchanged_choice h q.reserve))) Ciphertext (length done)
    one_grown word a q fate rename kind steps forms e x =
        subst (λ (k : Kind). Grown h 7 lines (D.lines ++ (word D.number ∷ [])) (done ++ (word a ∷ [])) (numbers ++ (length D.lines ∷ [])) (length D.lines) result k
        (length done)) (kind D.number)
        (at_most h 7 (omega arith) (then h g₁ (emit_kept h (word D.number) (word a) result g₁.sound (fate _)
        (λ n. steps n D.number (found_in h D.lines)
        ∙ ap (λ (s : Step Found ℕ). and_then s (Refused.on_ciphertext (λ s l. bounded h Founds.Ciphertext (pos s) (pos l)))) (reads h g₁.stands)
        ∙ bounded_goes h Founds.Ciphertext _ _ (valid_bounds h H m.own))
        (forms D.lines D.number (kind_at_lem h g₁.stands)) (rename (λ o. get_or (origins D.lines) o (length (erase D.lines))) _ ∙ ap word (names g₁.stands)))))
      where
        p : Choice
        p = unchanged_choice h q.reserve

        m : Meets h H (unchanged_choice h q.reserve) (Bests.Ciphertext q) (Bests.Ciphertext q)
        m = meets_one h H q x.valid

        result : Found
        result = found_for h H (Bests.Ciphertext (unchanged_choice h q.reserve))

        D : Draft
        D = operand_to h full numbers (unchanged_choice h q.reserve) q.reserve a lines

        g₁ : Grown h 3 lines D.lines done numbers D.number result Ciphertext a
        g₁ = brought a (Bests.Ciphertext q) lines (unchanged_choice h q.reserve) q.reserve e x.valid m.first m.first_reached S x.stands

    pub out_grown : (a : ℕ) (q : Choice) → Ready lines numbers a (Bests.Ciphertext q)
        → Grown h 7 lines (lines ++ (Out (get_or numbers a 0) ∷ [])) (done ++ (Out a ∷ [])) (numbers ++ (length lines ∷ [])) (length lines)
        (found_for h H (Bests.Ciphertext q)) Nothing (length done)
    out_grown a q x = at_most h 7 (omega arith) (emit_kept h (Out (get_or numbers a 0)) (Out a) (found_for h H (Bests.Ciphertext q)) S refl
        (λ n. ap (λ (s : Step Found ℕ). and_then s (Refused.on_ciphertext (λ s l. bounded h Founds.Ciphertext (pos s) (pos l)))) (reads h x.stands)
        ∙ bounded_goes h Founds.Ciphertext _ _ (valid_bounds h H x.valid))
        (on_ciphertext_formed true (kind_at lines (get_or numbers a 0)) tt (kind_at_lem h x.stands)) (ap Out (names x.stands)))

    pub const_grown : (k : ℕ) → T (in_range h (Const k))
        → Grown h 7 lines (lines ++ (Const k ∷ [])) (done ++ (Const k ∷ [])) (numbers ++ (length lines ∷ [])) (length lines) Founds.Bare Constant (length done)
    const_grown k r = at_most h 7 (omega arith) (emit_kept h (Const k) (Const k) Founds.Bare S refl (λ n. refl) (and_both (in_range h (Const k)) true r tt) refl)

    pub in_grown : Valid h H (at_waterline h h.top) h.top
        → Grown h 7 lines (lines ++ (In ∷ [])) (done ++ (In ∷ [])) (numbers ++ (length lines ∷ [])) (length lines) (found_for h H (Bests.Ciphertext (input_choice h))) Ciphertext
        (length done)
    in_grown v = at_most h 7 (omega arith) (emit_kept h In In (found_for h H (Bests.Ciphertext (input_choice h))) S refl
        (λ n. ap (λ (s : ℕ). bounded h Founds.Ciphertext (pos s) (pos h.top)) scale ∙ bounded_goes h Founds.Ciphertext _ _ (valid_bounds h H v)) tt refl)
      where
        scale : h.waterline ≡ scale_at h H (at_waterline h h.top) h.top
        scale = omega (arith, positive_sub (h.factor * h.top) h.waterline, v.fits)
