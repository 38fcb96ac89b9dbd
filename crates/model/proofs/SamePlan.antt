-- The plan with headroom has the lines of the plan without: the best reserves are the same as long as none is too low, and no line of the
-- plan asks for the headroom. Assumes nothing.
use Prim.Native.Nat.{ℕ}
use native.Mathlib.Omega.{arith}
use mathlib.Core.Path.{◌≡◌, refl, sym, ap, ◌∙◌, subst}
use mathlib.Core.List.{List, [], ◌∷◌, ◌++◌}
use lib.ListN.{length, get_or}
use lib.IntN.{ℤ}
use Rattle.ints.proofs.Linear.{signed}
use Rattle.rows.specs.Rows.{place_of}
use Rattle.model.specs.declared.Header.{Header}
use Rattle.model.specs.declared.Line.{Line}
use Rattle.model.specs.declared.Choice.{Choice}
use Rattle.model.specs.declared.Best.{Best}
use Rattle.model.specs.declared.Best.TheVariants as Bests
use Rattle.model.specs.Machine.{Step, goes, Run, finished, stopped, run}
use Rattle.model.specs.Files.{nth}
use Rattle.model.specs.Plan.{smaller, input_choice, unchanged_choice, times_constant_choice, constant_times_choice, product_choice, unless_too_few, on_best, on_reserves, best_machine}
use Rattle.model.specs.Plan.{Draft, supply, choice_of, plan_line, plan_from, plan_lines}
use Rattle.model.specs.Services.{Planned, scheduled, unplanned, plan}
use Rattle.model.proofs.EveryWord.{each_line}
use Rattle.model.proofs.Lists.{All3, nil3, cons3}
use Rattle.model.proofs.Kept.{Follows, Kept, run_kept, Finished, finish, idle}
use Rattle.model.proofs.HeadroomLaws.{none_is}
use Rattle.model.proofs.Chosen.{unless_too_few_elim, unless_too_few_goes}
use Rattle.model.proofs.Statements.SamePlan.{without_headroom}

module _ (h : Header) where
  abbrev k : Header
  k = without_headroom h

  -- ---- the best reserves
  abbrev Same : Best → Best → Unit {0} → Type 0
  Same x y u = x ≡ y

  abbrev Keeps : Step Best ℕ → Step Best ℕ → Type 0
  Keeps s t = Follows {E = ℕ} {D = ℕ} {G = Unit {0}} Same s t (goes tt)

  chosen : (p : Choice) → Keeps (unless_too_few h p) (unless_too_few k p)
  chosen p = unless_too_few_elim h p (λ s. Keeps s (unless_too_few k p)) tt
      (λ a. subst (Keeps (goes (Bests.Ciphertext p))) (sym (unless_too_few_goes k p (omega (signed, a, none_is k refl)))) refl)

  on_ciphertext_lem : (f g : Choice → Step Best ℕ) → ((p : Choice) → Keeps (f p) (g p)) → (x y : Best) (z : Unit {0}) → x ≡ y → Keeps (on_best f x) (on_best g y)
  on_ciphertext_lem f g n x y z e = subst (λ (y : Best). Keeps (on_best f x) (on_best g y)) e (go x)
    where
      go : (x : Best) → Keeps (on_best f x) (on_best g x)
      go Bests.Constant = tt
      go (Bests.Ciphertext p) = n p

  module _ (both : ℤ → ℤ → Choice) (left right : ℤ → Choice) where
    one_pair : (x x' : Best) → Keeps (on_reserves h both left right x x') (on_reserves k both left right x x')
    one_pair Bests.Constant Bests.Constant = tt
    one_pair Bests.Constant (Bests.Ciphertext q) = chosen (right q.reserve)
    one_pair (Bests.Ciphertext p) Bests.Constant = chosen (left p.reserve)
    one_pair (Bests.Ciphertext p) (Bests.Ciphertext q) = chosen (both p.reserve q.reserve)

    on_pair_lem : (x y : Best) (z : Unit {0}) → x ≡ y → (x' y' : Best) (z' : Unit {0}) → x' ≡ y' → Keeps (on_reserves h both left right x x') (on_reserves k both left right y y')
    on_pair_lem x y z e x' y' z' e' =
        subst (λ (y : Best). Keeps (on_reserves h both left right x x') (on_reserves k both left right y y')) e
        (subst (λ (y' : Best). Keeps (on_reserves h both left right x x') (on_reserves k both left right x y')) e' (one_pair x x'))

  best_kept : Kept (best_machine h) (best_machine k) idle Same
  best_kept =
      record {
        input = λ i. chosen (input_choice h);
        constant = λ i. refl;
        neg = on_ciphertext_lem _ _ (λ p. chosen (unchanged_choice h p.reserve));
        rot = λ t. on_ciphertext_lem _ _ (λ p. chosen (unchanged_choice h p.reserve));
        add = on_pair_lem (λ r r'. unchanged_choice h (smaller r r')) (unchanged_choice h) (unchanged_choice h);
        mul = on_pair_lem (product_choice h) (times_constant_choice h) (constant_times_choice h);
        out = on_ciphertext_lem _ _ (λ p. refl);
        enc = λ s e x y z r. tt;
        rs = λ c x y z r. tt;
        ms = λ c x y z r. tt;
        us = λ b x y z r. tt;
      }

  all_same : {f g : List Best} {u : List (Unit {0})} → All3 Same f g u → f ≡ g
  all_same nil3 = refl
  all_same (cons3 e r) = λ i. e i ∷ all_same r i

  bests_same : (c : List Line) {best : List Best} → run (best_machine h) c ≡ finished best → run (best_machine k) c ≡ finished best
  bests_same c {best} e = K.second_is ∙ ap finished (sym (all_same K.related))
    where
      K : Finished Same best (run (best_machine k) c) (run idle c)
      K = finish Same (run (best_machine h) c) (run (best_machine k) c) (run idle c) e (run_kept (best_machine h) (best_machine k) idle Same best_kept c 0 nil3)

  -- ---- the lines
  supply_same : (b : Best) (r : ℤ) (l : ℕ) (d : Draft) → supply h b r l d ≡ supply k b r l d
  supply_same Bests.Constant r l d = refl
  supply_same (Bests.Ciphertext p) r l d = refl

  module _ (best : List Best) where
    line_same : (names : List ℕ) (p : Choice) (x : Line) (lines : List Line) → plan_line h best names p x lines ≡ plan_line k best names p x lines
    line_same names p x lines =
        each_line (λ y. plan_line h best names p y lines) (λ y. plan_line k best names p y lines)
        (λ ns. rw (supply_same (get_or best (nth ns 0) Bests.Constant), supply_same (get_or best (nth ns 1) Bests.Constant))) x

    from_same : (xs : List Line) (names : List ℕ) (lines : List Line) → plan_from h best names lines xs ≡ plan_from k best names lines xs
    from_same [] names lines = refl
    from_same (x ∷ xs) names lines =
        ap (λ (d : Draft). plan_from h best (names ++ (d.number ∷ [])) d.lines xs) (line_same names (choice_of (get_or best (length names) Bests.Constant)) x lines)
        ∙ from_same xs _ _

  abbrev planned_by : Header → List Line → Run Best ℕ → Planned
  planned_by j c r = elim r [ finished best ↦ scheduled (record { header = j; lines = plan_lines j best c }) | stopped i n ↦ unplanned n (place_of i) ]

  abbrev lines_of : Planned → List Line
  lines_of (scheduled f) = f.lines
  lines_of (unplanned n p) = []

  pub same_plan_lem : (c s : List Line) → plan (record { header = h; lines = c }) ≡ scheduled (record { header = h; lines = s })
      → plan (record { header = k; lines = c }) ≡ scheduled (record { header = k; lines = s })
  same_plan_lem c s e = go (run (best_machine h) c) refl e
    where
      go : (r : Run Best ℕ) → run (best_machine h) c ≡ r → planned_by h c r ≡ scheduled (record { header = h; lines = s })
          → planned_by k c (run (best_machine k) c) ≡ scheduled (record { header = k; lines = s })
      go (finished best) q v =
          ap (planned_by k c) (bests_same c q)
          ∙ ap (λ (lines : List Line). scheduled (record { header = k; lines = lines })) (sym (from_same best c [] []) ∙ ap lines_of v)
      go (stopped i n) q v = absurd (let z : ◌≡◌ {A = ℕ} 0 1 = cc in omega arith)
