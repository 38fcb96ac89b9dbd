-- The reserve bound: in every schedule that passes the check, of any length, each ciphertext's reserve is at most the best reserve of the
-- circuit line that it comes from, and the circuit has a best reserve at every line. Assumes nothing.
use Prim.Native.Nat.{ℕ, zero, ◌+◌, ◌*◌, ◌<◌, ◌≤◌}
use native.Mathlib.Nat.{mul-add}
use native.Mathlib.Omega.{arith}
use mathlib.Core.Path.{◌≡◌, sym, ap, ap₂, ◌∙◌, subst}
use mathlib.Core.List.{List}
use mathlib.Core.Option.{some}
use lib.ListN.{get_elem?}
use lib.IntN.{ℤ, pos, ◌+ℤ◌, ◌-ℤ◌}
use lib.Signed.{◌≤ℤ◌}
use Rattle.ints.specs.Parts.{positive, negative}
use Rattle.ints.proofs.Linear.{signed, parts+, parts-, is_positive, ≡-read}
use Rattle.model.specs.declared.Header.{Header}
use Rattle.model.specs.declared.Line.{Line}
use Rattle.model.specs.Scales.{reserve, headroom}
use Rattle.model.specs.Machine.{Step, goes, finished, run}
use Rattle.model.specs.Rules.{Bounds}
use Rattle.model.specs.Plan as Plan
use Rattle.model.specs.declared.Choice.{Choice}
use Rattle.model.specs.declared.Best.{Best}
use Rattle.model.specs.declared.Best.TheVariants as Bests
use Rattle.model.proofs.Statements.Products.{product_at}
use Rattle.model.specs.Plan.{smaller, at_waterline, input_choice, unchanged_choice, times_constant_choice, constant_times_choice, product_choice, unless_too_few, on_reserves, best_machine}
use Rattle.model.specs.Services.{erase}
use Rattle.model.proofs.Statements.Erasing.{origins}
use Rattle.model.specs.Answers as Refused
use Rattle.model.specs.declared.Found.{Found}
use Rattle.model.specs.declared.Found.TheVariants as Founds
use Rattle.model.specs.Answers.{bounded, on_pair, sum, product, check_machine}
use Rattle.model.proofs.Lists.{nil3, front2, All2, beside, flip2}
use Rattle.model.proofs.Kept.{Follows, Kept, run_kept, Finished, finish, idle}
use Rattle.model.proofs.Erasing.{through, Erased, erased}
use Rattle.model.proofs.Products.{below_smaller, optimal}
use Rattle.model.proofs.Chosen.{unless_too_few_goes}
use Rattle.model.proofs.Bounded.{sum_cases, product_cases, bounded_elim}

module _ (h : Header) where
  -- a scale and a level in bounds, with no more reserve than p
  pub record Within (s l : ℕ) (p : Choice) : Type 0 where
    pub bounds : Bounds h s l
    pub at_most : reserve h s l ≤ℤ p.reserve

  -- what the check finds of a schedule's line, against the best of its circuit line
  abbrev pub Bound : Found → Best → Unit {0} → Type 0
  Bound Founds.Bare Bests.Constant u = Unit {0}
  Bound Founds.Bare (Bests.Ciphertext p) u = ⊥
  Bound (Founds.Encoded s l) Bests.Constant u = Bounds h s l
  Bound (Founds.Encoded s l) (Bests.Ciphertext p) u = ⊥
  Bound (Founds.Ciphertext s l) Bests.Constant u = ⊥
  Bound (Founds.Ciphertext s l) (Bests.Ciphertext p) u = Within s l p

  abbrev Keeps : Step Found ℕ → Step Best ℕ → Type 0
  Keeps s t = Follows {E = ℕ} {D = ℕ} {G = Unit {0}} Bound s t (goes tt)

  -- a best reserve is at least the least reserve
  above : {s l : ℕ} {p : Choice} → Within s l p → pos (headroom h) ≤ℤ p.reserve
  above {s} {l} {p} w = omega (signed, w.bounds.high, w.at_most, parts- (pos (h.factor * l)) (pos s))

  whole : {s l : ℕ} {p : Choice} → Within s l p → p.reserve ≡ pos (positive p.reserve)
  whole {p} w = is_positive p.reserve (omega (signed, above w))

  reaches : (s l : ℕ) (p : Choice) → Bounds h s l → reserve h s l ≤ℤ p.reserve → Keeps (goes (Founds.Ciphertext s l)) (unless_too_few h p)
  reaches s l p b a = subst (Keeps (goes (Founds.Ciphertext s l))) (sym (unless_too_few_goes h p (above w))) w
    where
      w : Within s l p
      w = record { bounds = b; at_most = a }

  module _ (F⁺ : zero < h.factor) (W⁺ : zero < h.waterline) where
    -- a line whose scale and level the check bounds
    settles : (t : Step Best ℕ) (S L : ℤ) → ((s l : ℕ) → S ≡ pos s → L ≡ pos l → Bounds h s l → Keeps (goes (Founds.Ciphertext s l)) t) → Keeps (bounded h Founds.Ciphertext S L) t
    settles t S L k = bounded_elim h W⁺ (λ u. Keeps u t) Founds.Ciphertext S L (λ n. tt) k

    pos_is : {m n : ℕ} → pos m ≡ pos n → m ≡ n
    pos_is e = ap positive e

    on_ciphertext_lem : (f : ℕ → ℕ → Step Found ℕ) (g : Best → Step Best ℕ) → ((s l : ℕ) (p : Choice) → Within s l p → Keeps (f s l) (g (Bests.Ciphertext p)))
        → (x : Found) (y : Best) (z : Unit {0}) → Bound x y z → Keeps (Refused.on_ciphertext f x) (g y)
    on_ciphertext_lem f g k Founds.Bare y z r = tt
    on_ciphertext_lem f g k (Founds.Encoded s l) y z r = tt
    on_ciphertext_lem f g k (Founds.Ciphertext s l) Bests.Constant z r = absurd r
    on_ciphertext_lem f g k (Founds.Ciphertext s l) (Bests.Ciphertext p) z r = k s l p r

    -- two ciphertexts; a ciphertext and an encoded constant; an encoded constant and a ciphertext
    module _ (f : ℕ → ℕ → ℕ → ℕ → Step Found ℕ) (both : ℤ → ℤ → Choice) (left right : ℤ → Choice)
        (k : (s l s' l' : ℕ) (p q : Choice) → Within s l p → Within s' l' q → Keeps (f s l s' l') (unless_too_few h (both p.reserve q.reserve)))
        (i : (s l s' l' : ℕ) (p : Choice) → Within s l p → Bounds h s' l' → Keeps (f s l s' l') (unless_too_few h (left p.reserve)))
        (j : (s l s' l' : ℕ) (q : Choice) → Bounds h s l → Within s' l' q → Keeps (f s l s' l') (unless_too_few h (right q.reserve))) where
      after_ciphertext : (s l : ℕ) (p : Choice) → Within s l p → (x' : Found) (y' : Best) (z' : Unit {0}) → Bound x' y' z'
          → Keeps (on_pair f (Founds.Ciphertext s l) x') (on_reserves h both left right (Bests.Ciphertext p) y')
      after_ciphertext s l p w Founds.Bare y' z' r = tt
      after_ciphertext s l p w (Founds.Encoded s' l') Bests.Constant z' r = i s l s' l' p w r
      after_ciphertext s l p w (Founds.Encoded s' l') (Bests.Ciphertext q) z' r = absurd r
      after_ciphertext s l p w (Founds.Ciphertext s' l') Bests.Constant z' r = absurd r
      after_ciphertext s l p w (Founds.Ciphertext s' l') (Bests.Ciphertext q) z' r = k s l s' l' p q w r

      on_pair_lem : (x : Found) (y : Best) (z : Unit {0}) → Bound x y z → (x' : Found) (y' : Best) (z' : Unit {0}) → Bound x' y' z'
          → Keeps (on_pair f x x') (on_reserves h both left right y y')
      on_pair_lem Founds.Bare y z r x' y' z' r' = tt
      on_pair_lem (Founds.Encoded s l) Bests.Constant z r x' y' z' r' = on_ciphertext_lem (f s l) (on_reserves h both left right Bests.Constant) (λ s' l' q w. j s l s' l' q r w) x' y' z' r'
      on_pair_lem (Founds.Encoded s l) (Bests.Ciphertext p) z r x' y' z' r' = absurd r
      on_pair_lem (Founds.Ciphertext s l) Bests.Constant z r x' y' z' r' = absurd r
      on_pair_lem (Founds.Ciphertext s l) (Bests.Ciphertext p) z r x' y' z' r' = after_ciphertext s l p r x' y' z' r'

    -- `neg`, `rot`, `out`: neither scale nor level changes
    unchanged : (t : Step Best ℕ) (s l : ℕ) → ((b : Bounds h s l) → Keeps (goes (Founds.Ciphertext s l)) t) → Keeps (bounded h Founds.Ciphertext (pos s) (pos l)) t
    unchanged t s l k = settles t (pos s) (pos l)
        (λ s' l' e e' b. subst (λ (m : ℕ). Keeps (goes (Founds.Ciphertext m l')) t) (pos_is e) (subst (λ (m : ℕ). Keeps (goes (Founds.Ciphertext s m)) t) (pos_is e')
        (k (subst (λ (m : ℕ). Bounds h m l) (sym (pos_is e)) (subst (λ (m : ℕ). Bounds h s' m) (sym (pos_is e')) b)))))

    sums : (t : Step Best ℕ) (s l s' l' : ℕ) → (l ≡ l' → s ≡ s' → Bounds h s l → Keeps (goes (Founds.Ciphertext s l)) t) → Keeps (sum h s l s' l') t
    sums t s l s' l' k = sum_cases h (λ u. Keeps u t) s l s' l' (λ e e'. unchanged t s l (k e e')) (λ e. tt) (λ e. tt)

    products : (t : Step Best ℕ) (s l s' l' : ℕ) → (l ≡ l' → Bounds h (s + s') l → Keeps (goes (Founds.Ciphertext (s + s') l)) t) → Keeps (product h s l s' l') t
    products t s l s' l' k = product_cases h (λ u. Keeps u t) s l s' l' (λ e. unchanged t (s + s') l (k e)) (λ e. tt)

    -- the parts of a reserve
    parts : (s l : ℕ) → positive (reserve h s l) + s ≡ negative (reserve h s l) + h.factor * l
    parts s l = omega (arith, parts- (pos (h.factor * l)) (pos s))

    add_both : (s l s' l' : ℕ) (p q : Choice) → Within s l p → Within s' l' q → Keeps (sum h s l s' l') (unless_too_few h (unchanged_choice h (smaller p.reserve q.reserve)))
    add_both s l s' l' p q w w' = sums _ s l s' l' (λ e e' b. reaches s l _ b (below_smaller (reserve h s l) p.reserve q.reserve w.at_most (subst₂' e e')))
      where
        subst₂' : l ≡ l' → s ≡ s' → reserve h s l ≤ℤ q.reserve
        subst₂' e e' = omega (signed, w'.at_most, ap₂ (reserve h) e' e)

    add_left : (s l s' l' : ℕ) (p : Choice) → Within s l p → Bounds h s' l' → Keeps (sum h s l s' l') (unless_too_few h (unchanged_choice h p.reserve))
    add_left s l s' l' p w b' = sums _ s l s' l' (λ e e' b. reaches s l _ b w.at_most)

    add_right : (s l s' l' : ℕ) (q : Choice) → Bounds h s l → Within s' l' q → Keeps (sum h s l s' l') (unless_too_few h (unchanged_choice h q.reserve))
    add_right s l s' l' q b w = sums _ s l s' l' (λ e e' b'. reaches s l (unchanged_choice h q.reserve) b' (omega (signed, w.at_most, ap₂ (reserve h) e' e)))

    -- a reserve that is at most r, at a scale from W on, is at most r capped
    capped : (s l : ℕ) (p : Choice) → Within s l p → reserve h s l ≤ℤ smaller p.reserve (at_waterline h l)
    capped s l p w = below_smaller (reserve h s l) p.reserve (at_waterline h l) w.at_most (omega (signed, w.bounds.low, parts s l, parts h.waterline l))

    best_product : (p q : Choice) (l : ℕ) → p.reserve ≡ pos (positive p.reserve) → q.reserve ≡ pos (positive q.reserve)
        → product_at h p.reserve q.reserve l ≤ℤ (product_choice h p.reserve q.reserve).reserve
    best_product p q l e e' =
        subst (λ (r : ℤ). product_at h r q.reserve l ≤ℤ (product_choice h r q.reserve).reserve) (sym e)
        (subst (λ (r : ℤ). product_at h (pos (positive p.reserve)) r l ≤ℤ (product_choice h (pos (positive p.reserve)) r).reserve) (sym e')
        ((optimal h F⁺ W⁺ (positive p.reserve) (positive q.reserve)).greatest l))

    mul_both : (s l s' l' : ℕ) (p q : Choice) → Within s l p → Within s' l' q → Keeps (product h s l s' l') (unless_too_few h (product_choice h p.reserve q.reserve))
    mul_both s l s' l' p q w w' = products _ s l s' l' (λ e b. reaches (s + s') l (product_choice h p.reserve q.reserve) b (meet e))
      where
        x : ℤ
        x = smaller p.reserve (at_waterline h l)

        y : ℤ
        y = smaller q.reserve (at_waterline h l)

        second : l ≡ l' → reserve h s' l ≤ℤ y
        second e = capped s' l q (subst (λ (k : ℕ). Within s' k q) (sym e) w')

        meet : l ≡ l' → reserve h (s + s') l ≤ℤ (product_choice h p.reserve q.reserve).reserve
        meet e = omega (
          signed,
          capped s l p w,
          second e,
          best_product p q l (whole w) (whole w'),
          parts s l,
          parts s' l,
          parts (s + s') l,
          parts+ x y,
          parts- (x +ℤ y) (pos (h.factor * l)),
        )

    mul_left : (s l s' l' : ℕ) (p : Choice) → Within s l p → Bounds h s' l' → Keeps (product h s l s' l') (unless_too_few h (times_constant_choice h p.reserve))
    mul_left s l s' l' p w b' = products _ s l s' l' (λ e b. reaches (s + s') l (times_constant_choice h p.reserve) b
        (omega (signed, w.at_most, b'.low, parts s l, parts (s + s') l, parts- p.reserve (pos h.waterline))))

    mul_right : (s l s' l' : ℕ) (q : Choice) → Bounds h s l → Within s' l' q → Keeps (product h s l s' l') (unless_too_few h (constant_times_choice h q.reserve))
    mul_right s l s' l' q b w = products _ s l s' l' (λ e b'. reaches (s + s') l (constant_times_choice h q.reserve) b'
        (omega (signed, w.at_most, b.low, ap (reserve h s') e, parts s' l, parts (s + s') l, parts- q.reserve (pos h.waterline))))

    -- a scale operation spends reserve or keeps it: s' bits at level l' are no better than s at l
    spends : (p : Choice) (S L : ℤ) (s l : ℕ) → Within s l p → ((s' l' : ℕ) → S ≡ pos s' → L ≡ pos l' → h.factor * l' + s ≤ h.factor * l + s')
        → Keeps (bounded h Founds.Ciphertext S L) (goes (Bests.Ciphertext p))
    spends p S L s l w k =
        settles (goes (Bests.Ciphertext p)) S L (λ s' l' e e' b. record { bounds = b; at_most = omega (signed, w.at_most, k s' l' e e', parts s l, parts s' l') })

    -- what is left of a natural number
    left_of : (a b c : ℕ) → pos a -ℤ pos b ≡ pos c → a ≡ c + b
    left_of a b c e = omega (arith, parts- (pos a) (pos b), ≡-read (pos a -ℤ pos b) (pos c) e)

    levels : (c l l' : ℕ) → l ≡ l' + c → h.factor * l ≡ h.factor * l' + h.factor * c
    levels c l l' e = ap (λ (k : ℕ). h.factor * k) e ∙ mul-add h.factor l' c

    rescales : (c s l : ℕ) (p : Choice) → Within s l p → Keeps (bounded h Founds.Ciphertext (pos s -ℤ pos (h.factor * c)) (pos l -ℤ pos c)) (goes (Bests.Ciphertext p))
    rescales c s l p w = spends p (pos s -ℤ pos (h.factor * c)) (pos l -ℤ pos c) s l w
        (λ s' l' e e'. omega (arith, left_of s (h.factor * c) s' e, levels c l l' (left_of l c l' e')))

    switches : (c s l : ℕ) (p : Choice) → Within s l p → Keeps (bounded h Founds.Ciphertext (pos s) (pos l -ℤ pos c)) (goes (Bests.Ciphertext p))
    switches c s l p w = spends p (pos s) (pos l -ℤ pos c) s l w (λ s' l' e e'. omega (arith, pos_is e, levels c l l' (left_of l c l' e')))

    upscales : (b s l : ℕ) (p : Choice) → Within s l p → Keeps (bounded h Founds.Ciphertext (pos (s + b)) (pos l)) (goes (Bests.Ciphertext p))
    upscales b s l p w = spends p (pos (s + b)) (pos l) s l w (λ s' l' e e'. omega (arith, pos_is e, ap (λ (k : ℕ). h.factor * k) (pos_is e')))

    encodes : (s e : ℕ) (x : Found) (y : Best) (z : Unit {0}) → Bound x y z → Keeps (Refused.on_bare (bounded h Founds.Encoded (pos s) (pos e)) x) (goes y)
    encodes s e Founds.Bare Bests.Constant z r = bounded_elim h W⁺ (λ u. Keeps u (goes Bests.Constant)) Founds.Encoded (pos s) (pos e) (λ n. tt) (λ s' l' p q b. b)
    encodes s e Founds.Bare (Bests.Ciphertext p) z r = absurd r
    encodes s e (Founds.Encoded s' l') y z r = tt
    encodes s e (Founds.Ciphertext s' l') y z r = tt

    again : (s l : ℕ) (p : Choice) → Within s l p → Keeps (bounded h Founds.Ciphertext (pos s) (pos l)) (unless_too_few h (unchanged_choice h p.reserve))
    again s l p w = unchanged (unless_too_few h (unchanged_choice h p.reserve)) s l (λ b. reaches s l (unchanged_choice h p.reserve) b w.at_most)

    pub reserves_kept : Kept (check_machine h) (through (best_machine h)) idle Bound
    reserves_kept =
        record {
          input = λ k. unchanged (unless_too_few h (input_choice h)) h.waterline h.top (λ b. reaches h.waterline h.top (input_choice h) b (omega signed));
          constant = λ k. tt;
          neg = on_ciphertext_lem _ (Plan.on_best (λ p. unless_too_few h (unchanged_choice h p.reserve))) again;
          rot = λ t. on_ciphertext_lem _ (Plan.on_best (λ p. unless_too_few h (unchanged_choice h p.reserve))) again;
          add = on_pair_lem (sum h) (λ r r'. unchanged_choice h (smaller r r')) (unchanged_choice h) (unchanged_choice h) add_both add_left add_right;
          mul = on_pair_lem (product h) (product_choice h) (times_constant_choice h) (constant_times_choice h) mul_both mul_left mul_right;
          out = on_ciphertext_lem _ (Plan.on_best (λ p. goes (Bests.Ciphertext p))) (λ s l p w. unchanged (goes (Bests.Ciphertext p)) s l (λ b. w));
          enc = encodes;
          rs = λ c. on_ciphertext_lem _ goes (rescales c);
          ms = λ c. on_ciphertext_lem _ goes (switches c);
          us = λ b. on_ciphertext_lem _ goes (upscales b);
        }

    -- a line of which the check finds f, against its circuit line
    pub record AtBest (s : List Line) (best : List Best) (i : ℕ) (f : Found) : Type 0 where
      pub from : ℕ
      pub value : Best
      pub comes_from : get_elem? (origins s) i ≡ some from
      pub best_is : get_elem? best from ≡ some value
      pub bound : Bound f value tt

    -- what a schedule that passes the check says of its circuit
    pub record AllBest (s : List Line) (found : List Found) : Type 0 where
      pub best : List Best
      pub runs : run (best_machine h) (erase s) ≡ finished best
      pub lines : (i : ℕ) (f : Found) → get_elem? found i ≡ some f → AtBest s best i f

    pub reserve_bound : (s : List Line) {found : List Found} → run (check_machine h) s ≡ finished found → AllBest s found
    reserve_bound s {found} e =
        record {
          best = E.held;
          runs = E.runs;
          lines = λ i f p.
              let b = beside pairs i p in
              let c = beside (flip2 E.from_circuit) i b.there in
              record { from = c.other; value = b.other; comes_from = c.there; best_is = c.related; bound = b.related };
        }
      where
        K : Finished Bound found (run (through (best_machine h)) s) (run idle s)
        K = finish Bound (run (check_machine h) s) (run (through (best_machine h)) s) (run idle s) e
            (run_kept (check_machine h) (through (best_machine h)) idle Bound reserves_kept s 0 nil3)

        E : Erased (best_machine h) (run (best_machine h) (erase s)) (origins s) K.second
        E = erased (best_machine h) s K.second_is

        pairs : All2 (λ x y. Bound x y tt) found K.second
        pairs = front2 (λ x y z r. r) K.related
