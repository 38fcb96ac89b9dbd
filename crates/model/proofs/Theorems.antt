-- The theorems, each at its statement. Assumes nothing.
use Prim.Native.Nat.{ℕ, suc, ◌*◌, ◌<◌, ◌≤◌}
use native.Mathlib.Omega.{arith}
use mathlib.Core.Path.{◌≡◌, refl, sym, ap, ap₂, ◌∙◌, subst, subst₂}
use mathlib.Core.List.{List, [], ◌∷◌, ◌++◌}
use mathlib.Core.Option.{some, some-injective}
use lib.Dec.{T}
use lib.ListN.{length, get_or, get_elem?, take}
use lib.IntN.{ℤ, pos}
use lib.Signed.{◌≤ℤ◌}
use Rattle.ints.specs.Parts.{positive}
use Rattle.ints.proofs.Linear.{signed, is_positive, sub_is}
use Rattle.model.specs.declared.Header.{Header}
use Rattle.model.specs.declared.Line.{Line}
use Rattle.model.specs.declared.Line.TheVariants.{In, Const, Neg, Rot, Add, Mul, Out, Enc, Rs, Ms, Us, Free}
use Rattle.model.specs.declared.Grammar.TheVariants.{Circuit, Schedule}
use Rattle.model.specs.declared.Answer.{Answer}
use Rattle.model.specs.declared.Answer.TheVariants.{Done, Level, Refused}
use Rattle.model.specs.Scales.{with_top, header_in_range, reserve}
use Rattle.rows.specs.Rows.{place_of}
use Rattle.model.specs.Files.{File, well_formed, kind_of, line_formed, lines_formed}
use Rattle.model.specs.Machine.{Run, finished, stopped, run}
use Rattle.model.specs.Rules.{KeepsRules}
use Rattle.model.specs.declared.Choice.{Choice}
use Rattle.model.specs.declared.Best.{Best}
use Rattle.model.specs.declared.Best.TheVariants as Bests
use Rattle.model.specs.Plan.{best_machine, product_choice, plan_lines}
use Rattle.model.specs.Services.{erase, kept_lines, Planned, scheduled, unplanned, plan}
use Rattle.model.specs.Answers.{least_level}
use Rattle.model.proofs.Statements.Erasing.{origins}
use Rattle.model.specs.declared.Found.{Found}
use Rattle.model.specs.declared.Found.TheVariants as Founds
use Rattle.model.specs.Answers.{check_machine, rules_answer}
use Rattle.model.specs.Demands.{Schedulable, is_ciphertext_line, HasReserve}
use Rattle.model.proofs.Statements.Check.{PassedFiles}
use Rattle.model.proofs.Statements.LeastLevel.{IsLeastLevel}
use Rattle.model.proofs.Statements.LowestLevel as LowestLevel
use Rattle.model.proofs.Statements.Products as ProductStatement
use Rattle.model.proofs.Statements.Verdict as Verdict
use Rattle.model.proofs.Statements.FirstBroken as FirstBroken
use Rattle.model.proofs.Statements.Bounds as BoundsStatement
use Rattle.model.proofs.Statements.DemandThree as DemandThree
use Rattle.model.proofs.Statements.Check as Check
use Rattle.model.proofs.Statements.Erasing as ErasingStatement
use Rattle.model.proofs.Statements.Exactness as Exactness
use Rattle.model.proofs.Statements.ScaleMachine as ScaleMachine
use Rattle.model.proofs.Statements.ReserveBound as ReserveBound
use Rattle.model.proofs.Statements.ThePlan as ThePlan
use Rattle.model.proofs.Statements.SamePlan as SamePlanStatement
use Rattle.model.proofs.Statements.BestReserve as BestReserve
use Rattle.model.proofs.Statements.TooFewLevels as TooFewLevels
use Rattle.model.proofs.Statements.HigherLevels as HigherLevels
use Rattle.model.proofs.Statements.LeastLevel as LeastLevel
use Rattle.model.proofs.Tests.{and_first, and_second, and_both, HeaderFacts, header_facts, header_passes}
use Rattle.model.proofs.Lists.{found_at, found_is, found_below}
use Rattle.model.proofs.Runs.{stopped_finished, finished_is, first_stop}
use Rattle.model.proofs.HeadroomLaws.{none_is, given_is}
use Rattle.model.proofs.Levels.{level_fits, level_least}
use Rattle.model.proofs.Products.{optimal}
use Rattle.model.proofs.Reserves.{Bound, AtBest, AllBest, reserve_bound}
use Rattle.model.proofs.Higher.{fits_higher}
use Rattle.model.proofs.Formed.{well_header, well_lines, well_take}
use Rattle.model.proofs.Checked.{checked_keeps, keeps_checked, verdict}
use Rattle.model.proofs.FoundNumbers.{ciphertext_line, same_numbers_lem, found_numbers}
use Rattle.model.proofs.Reason.{only_six, only_rules}
use Rattle.model.proofs.Broken.{refused_says}
use Rattle.model.proofs.Compared.{judges}
use Rattle.model.proofs.KeptLines.{renamed_kind}
use Rattle.model.proofs.Exactly.{exact}
use Rattle.model.proofs.Erasure.{erasure}
use Rattle.model.proofs.ScaleRuns.{is_the_rules}
use Rattle.model.proofs.Supplies.{Valid, scale_at, found_for}
use Rattle.model.proofs.Lines.{Progress}
use Rattle.model.proofs.Planned.{Whole, planned}
use Rattle.model.proofs.SamePlan as SamePlan
use Rattle.model.proofs.Least.{StopsAt, First, Never, Says, least_says}

-- ---- the smaller statements
pub lowest_level_lem : LowestLevel.Statement
lowest_level_lem h t r =
    let F⁺ = (header_facts h t).factor.least in
    record { enough = level_fits h F⁺ r; smallest = level_least h F⁺ r }

pub products : ProductStatement.Statement
products h t r r' a b =
    subst₂ (λ (x y : ℤ). ProductStatement.IsOptimum h x y (product_choice h x y)) (sym (is_positive r a)) (sym (is_positive r' b))
    (let H = header_facts h t in
    let o = optimal h H.factor.least H.waterline.least (positive r) (positive r') in
    record { attained = o.attained; greatest = o.greatest; lowest = o.lowest; first_is = o.first_is; second_is = o.second_is })

pub rules : Verdict.Statement
rules = verdict

refused_run : {P : Type 0} (h : Header) (s : List Line) (n p : ℕ) → rules_answer h s ≡ Refused n p → ((i : ℕ) → p ≡ place_of i → run (check_machine h) s ≡ stopped i n → P) → P
refused_run {P} h s n p e k = go (run (check_machine h) s) refl e
  where
    go : (r : Run Found ℕ) → run (check_machine h) s ≡ r → elim r [ finished found ↦ Done | stopped i m ↦ Refused m (place_of i) ] ≡ Refused n p → P
    go (finished found) q f = absurd (let z : ◌≡◌ {A = ℕ} 0 1 = cc in omega arith)
    go (stopped i m) q f = k i (place f) (q ∙ ap (stopped i) (number f))
      where
        number : Refused m (place_of i) ≡ Refused n p → m ≡ n
        number g = cc

        place : Refused m (place_of i) ≡ Refused n p → p ≡ place_of i
        place g = cc

pub first_broken : FirstBroken.Statement
first_broken h s t n p e = refused_run h s n p e (λ i q r.
    let f = first_stop (check_machine h) s i n r in
    let w = only_rules h s t i n r in
    record {
      broken = record {
        line = i;
        place_is = q;
        below = f.below;
        before = checked_keeps h (take i s) (well_header Schedule h s t) f.before;
        with_it = λ k. let c = keeps_checked h (take (suc i) s) (well_take Schedule h s (suc i) t) k in stopped_finished (sym f.with_it ∙ c.1);
        number_is = refused_says h s t i n r;
      };
      least = w.least;
      most = w.most;
    })

pub bounds_are : BoundsStatement.Statement
bounds_are h s l =
    record {
      none = λ e. (λ b. (b.low, omega (arith, b.high, none_is h e)), λ b. record { low = b.0; high = omega (arith, b.1, none_is h e) });
      given = λ bits e. (λ b. (b.low, omega (arith, b.high, given_is h bits e)), λ b. record { low = b.0; high = omega (arith, b.1, given_is h bits e) });
    }

pub checks : Check.Statement
checks = judges

pub erasing : ErasingStatement.Statement
erasing = erasure

pub exactness : Exactness.Statement
exactness circuit schedule p H =
    let k = schedule.header in
    let s = schedule.lines in
    subst (λ (c : List Line). Rattle.model.specs.Demands.Exact H k c s) (λ i. (p.erases i).lines)
    (exact H k (header_facts k (well_header Schedule k s p.schedule_formed)) s (keeps_checked k s p.schedule_formed p.keeps).1)

pub scale_machine_lem : ScaleMachine.Statement
scale_machine_lem = is_the_rules

-- ---- the reserve bound
pub bound : ReserveBound.Statement
bound h circuit s t K e =
    record {
      best = B.best;
      runs = ap (run (best_machine h)) (sym e) ∙ B.runs;
      lines = λ i u c. at_most i (B.lines i _ (found_numbers h s t K F.1 i u c));
    }
  where
    H : HeaderFacts h
    H = header_facts h (well_header Schedule h s t)

    F : (found : List Found) × (run (check_machine h) s ≡ finished found)
    F = keeps_checked h s t K

    B : AllBest h H.factor.least H.waterline.least s F.0
    B = reserve_bound h H.factor.least H.waterline.least s F.1

    by_value : (i : ℕ) (b : Best) → Bound h (Founds.Ciphertext (K.scale i) (K.level i)) b tt → (from : ℕ) → get_elem? (origins s) i ≡ some from → get_elem? B.best from ≡ some b
        → ReserveBound.AtMostBest h s K B.best i
    by_value i Bests.Constant w from p q = absurd w
    by_value i (Bests.Ciphertext p) w from q r = record { from = from; choice = p; comes_from = q; best_is = r; at_most = w.at_most }

    at_most : (i : ℕ) → AtBest h H.factor.least H.waterline.least s B.best i (Founds.Ciphertext (K.scale i) (K.level i)) → ReserveBound.AtMostBest h s K B.best i
    at_most i a = by_value i a.value a.bound a.from a.comes_from a.best_is

-- ---- the plan
-- what planning gives, by the run of the best reserves
plan_is : (circuit : File) (r : Run Best ℕ) → run (best_machine circuit.header) circuit.lines ≡ r
    → plan circuit ≡ elim r
    [ finished best ↦ scheduled (record { header = circuit.header; lines = plan_lines circuit.header best circuit.lines }) | stopped i n ↦ unplanned n (place_of i) ]
plan_is circuit r e =
    ap (λ (q : Run Best ℕ). elim q as
    (λ x. Planned) [
      | finished best ↦ scheduled (record { header = circuit.header; lines = plan_lines circuit.header best circuit.lines })
      | stopped i n ↦ unplanned n
          (place_of i)
    ]) e

module _ (circuit : File) (t : T (well_formed Circuit circuit.header circuit.lines)) where
  abbrev h : Header
  h = circuit.header

  H : HeaderFacts circuit.header
  H = header_facts circuit.header (well_header Circuit circuit.header circuit.lines t)

  module _ (best : List Best) (e : run (best_machine circuit.header) circuit.lines ≡ finished best) where
    abbrev s : List Line
    s = plan_lines circuit.header best circuit.lines

    whole : Whole h H circuit.lines best s
    whole = planned h H circuit.lines (well_lines Circuit h circuit.lines t) e

    P : Progress h H circuit.lines best whole.numbers s
    P = whole.progress

    formed : T (well_formed Schedule h s)
    formed = and_both (header_in_range h) (lines_formed Schedule h [] s) (well_header Circuit h circuit.lines t) P.sound.formed

    keeps : KeepsRules h s
    keeps = checked_keeps h s (well_header Circuit h circuit.lines t) P.sound.checks

    pub plan_passed : PassedFiles circuit (record { header = circuit.header; lines = s })
    plan_passed = record { circuit_formed = t; schedule_formed = formed; keeps = keeps; erases = λ i. record { header = circuit.header; lines = P.sound.erases i } }

    pub plan_schedulable : Schedulable h circuit.lines
    plan_schedulable = record { schedule = s; formed = formed; keeps = keeps; erases = P.sound.erases }

    -- the scale of a valid reserve leaves that reserve
    scale_leaves : (r : ℤ) (l : ℕ) → Valid h H r l → reserve h (scale_at h H r l) l ≡ r
    scale_leaves r l v = sub_is (h.factor * l) (scale_at h H r l) (omega arith) ∙ ap pos (omega (arith, v.fits)) ∙ sym v.whole

    attains : (K : KeepsRules h s) (j : ℕ) → j < length circuit.lines → T (is_ciphertext_line (get_or circuit.lines j Free))
        → ThePlan.AttainsBest (record { header = circuit.header; lines = s }) K best j
    attains K j u c = by_value (get_or best j Bests.Constant) (found_at best j Bests.Constant (omega (arith, P.long)))
      where
        x : Line
        x = get_or circuit.lines j Free

        i : ℕ
        i = get_or whole.numbers j 0

        -- what the check finds of the line that was written for it
        numbers : (b : Best) → get_elem? best j ≡ some b → some (found_for h H b) ≡ some (Founds.Ciphertext (K.scale i) (K.level i))
        numbers b q =
            let S = P.entry j x b (found_at circuit.lines j Free u) q in
            let same_kind = ap kind_of (found_is s i Free S.there) ∙ S.kind in
            sym S.found ∙ found_numbers h s formed K P.sound.checks i (found_below s i S.there) (ciphertext_line x (get_or s i Free) (sym same_kind) c)

        by_value : (b : Best) → get_elem? best j ≡ some b → ThePlan.AttainsBest (record { header = circuit.header; lines = s }) K best j
        by_value Bests.Constant q = absurd (never (numbers Bests.Constant q))
          where
            never : some Founds.Bare ≡ some (Founds.Ciphertext (K.scale i) (K.level i)) → ⊥
            never p = let z : ◌≡◌ {A = ℕ} 0 1 = cc in omega arith
        by_value (Bests.Ciphertext p) q =
            record {
              line = i;
              choice = p;
              kept = ap (λ (l : List ℕ). get_elem? l j) P.sound.kept_are ∙ found_at whole.numbers j 0 (omega (arith, P.counted));
              best_is = q;
              reserve_is = ap₂ (reserve h) (sym same.0) (sym same.1) ∙ scale_leaves p.reserve p.level (P.valid j (Bests.Ciphertext p) q);
              level_is = sym same.1;
            }
          where
            same : (scale_at h H p.reserve p.level ≡ K.scale i) × (p.level ≡ K.level i)
            same = same_numbers_lem (numbers (Bests.Ciphertext p) q)

    right : ThePlan.IsRight circuit (record { header = circuit.header; lines = s })
    right = record {
      passed = plan_passed;
      checked = (judges circuit (record { header = circuit.header; lines = s }) t formed).passes.1 plan_passed;
      few =
          λ u. omega (arith, P.few);
      best = best;
      runs = e;
      attains = attains;
    }

-- a refusal is no schedule
refused_written : {P : Type 0} (n p : ℕ) (f : File) → ◌≡◌ {A = Planned} (unplanned n p) (scheduled f) → P
refused_written n p f e = absurd (let z : ◌≡◌ {A = ℕ} 0 1 = cc in omega arith)

pub the_plan : ThePlan.Statement
the_plan circuit t schedule e = go (run (best_machine circuit.header) circuit.lines) refl
  where
    go : (r : Run Best ℕ) → run (best_machine circuit.header) circuit.lines ≡ r → ThePlan.IsRight circuit schedule
    go (finished best) q = subst (ThePlan.IsRight circuit) (same (sym (plan_is circuit (finished best) q) ∙ e)) (right circuit t best q)
      where
        same : scheduled (record { header = circuit.header; lines = plan_lines circuit.header best circuit.lines }) ≡ scheduled schedule
            → record { header = circuit.header; lines = plan_lines circuit.header best circuit.lines } ≡ schedule
        same p = cc
    go (stopped i n) q = refused_written n (place_of i) schedule (sym (plan_is circuit (stopped i n) q) ∙ e)

-- ---- the plan with headroom and without
pub same_plan_lem : SamePlanStatement.Statement
same_plan_lem = SamePlan.same_plan_lem

-- ---- the best reserve
-- line j of a circuit in a schedule that erases to it: a ciphertext line that comes from it
pub record KeptCiphertext (schedule : List Line) (j : ℕ) : Type 0 where
  pub line : ℕ
  pub kept : get_elem? (kept_lines schedule) j ≡ some line
  pub below : line < length schedule
  pub origin : get_elem? (origins schedule) line ≡ some j
  pub is_ciphertext_lem : T (is_ciphertext_line (get_or schedule line Free))

pub kept_ciphertext : (h : Header) (s : List Line) → T (well_formed Schedule h s) → (j : ℕ) → j < length (erase s) → T (is_ciphertext_line (get_or (erase s) j Free)) → KeptCiphertext s j
kept_ciphertext h s t j below c =
    let I = (erasing h s t).lines j below in
    let same_kind =
    ap kind_of (found_is (erase s) j Free I.written) ∙ renamed_kind (λ a. get_or (origins s) a 0) (get_or s I.line Free) in
    record {
      line = I.line;
      kept = I.there;
      below = I.below;
      origin = I.origin;
      is_ciphertext_lem = ciphertext_line (get_or (erase s) j Free) (get_or s I.line Free) same_kind c;
    }

-- its reserve is the same for all scales and levels that keep the rules
has_reserve : (h : Header) (s : List Line) → T (well_formed Schedule h s) → (K : KeepsRules h s) {j : ℕ} (k : KeptCiphertext s j)
    → HasReserve h s j (reserve h (K.scale k.line) (K.level k.line))
has_reserve h s t K k = record { legal = K; line = k.line; kept = k.kept; reserve_is = same_reserve }
  where
    i : ℕ
    i = k.line

    same_reserve : (M : KeepsRules h s) → reserve h (M.scale i) (M.level i) ≡ reserve h (K.scale i) (K.level i)
    same_reserve M =
        let F = keeps_checked h s t K in
        let same = same_numbers_lem (sym (found_numbers h s t M F.1 i k.below k.is_ciphertext_lem) ∙ found_numbers h s t K F.1 i k.below k.is_ciphertext_lem) in
        ap₂ (reserve h) same.0 same.1

pub best_reserve : BestReserve.Statement
best_reserve circuit t schedule e j below c =
    record {
      best = right.best;
      choice = A.choice;
      runs = right.runs;
      best_is = A.best_is;
      has = subst (λ (k : Header). HasReserve k schedule.lines j A.choice.reserve) header_is has;
      none_more = λ other. record {
        bits = bits_of other;
        has = has_reserve h other.schedule other.formed other.keeps (kept_of other);
        at_most = omega (signed, at_most other);
      };
    }
  where
    h : Header
    h = circuit.header

    right : ThePlan.IsRight circuit schedule
    right = the_plan circuit t schedule e

    A : ThePlan.AttainsBest schedule right.passed.keeps right.best j
    A = right.attains right.passed.keeps j below c

    header_is : schedule.header ≡ circuit.header
    header_is = λ i. (right.passed.erases i).header

    kept_in : (k : Header) (s : List Line) → T (well_formed Schedule k s) → erase s ≡ circuit.lines → KeptCiphertext s j
    kept_in k s f is =
        kept_ciphertext k s f j (subst (λ (l : List Line). j < length l) (sym is) below) (subst (λ (l : List Line). T (is_ciphertext_line (get_or l j Free))) (sym is) c)

    has : HasReserve schedule.header schedule.lines j A.choice.reserve
    has =
        let P = right.passed in
        let k = kept_in schedule.header schedule.lines P.schedule_formed (λ i. (P.erases i).lines) in
        let line_is : k.line ≡ A.line = some-injective k.line A.line (sym k.kept ∙ A.kept) in
        subst (HasReserve schedule.header schedule.lines j)
        (ap (λ (i : ℕ). reserve schedule.header (P.keeps.scale i) (P.keeps.level i)) line_is ∙ A.reserve_is)
        (has_reserve schedule.header schedule.lines P.schedule_formed P.keeps k)

    kept_of : (other : Schedulable circuit.header circuit.lines) → KeptCiphertext other.schedule j
    kept_of other = kept_in h other.schedule other.formed other.erases

    bits_of : Schedulable circuit.header circuit.lines → ℤ
    bits_of other = reserve h (other.keeps.scale (kept_of other).line) (other.keeps.level (kept_of other).line)

    at_most : (other : Schedulable circuit.header circuit.lines) → bits_of other ≤ℤ A.choice.reserve
    at_most other = subst (λ (p : Choice). bits_of other ≤ℤ p.reserve) same L.at_most
      where
        B : ReserveBound.Bounded h circuit.lines other.schedule other.keeps
        B = bound h circuit.lines other.schedule other.formed other.keeps other.erases

        L : ReserveBound.AtMostBest h other.schedule other.keeps B.best (kept_of other).line
        L = B.lines (kept_of other).line (kept_of other).below (kept_of other).is_ciphertext_lem

        same : L.choice ≡ A.choice
        same = choice L.best_is (some-injective L.from j (sym L.comes_from ∙ (kept_of other).origin)) A.best_is (finished_is (sym B.runs ∙ right.runs))
          where
            choice : {best best' : List Best} {i : ℕ} {p q : Choice} → get_elem? best i ≡ some (Bests.Ciphertext p) → i ≡ j
                → get_elem? best' j ≡ some (Bests.Ciphertext q) → best ≡ best' → p ≡ q
            choice {best} {best'} {i} {p} {q} u v w x = is (some-injective (Bests.Ciphertext p) (Bests.Ciphertext q) (sym u ∙ ap₂ get_elem? x v ∙ w))
              where
                is : Bests.Ciphertext p ≡ Bests.Ciphertext q → p ≡ q
                is y = cc

-- ---- too few levels
-- a circuit with a schedule has a best reserve at every line
schedulable_fits : (h : Header) (c : List Line) → Schedulable h c → (best : List Best) × (run (best_machine h) c ≡ finished best)
schedulable_fits h c S = let b = bound h c S.schedule S.formed S.keeps S.erases in (b.best, b.runs)

finished_stopped : {P : Type 0} {r : Run Best ℕ} (best : List Best) (i n : ℕ) → r ≡ finished best → r ≡ stopped i n → P
finished_stopped best i n e f = absurd (let z : ◌≡◌ {A = ℕ} 0 1 = cc in omega arith)

-- a run finishes or stops
by_run : (r : Run Best ℕ) (P : Type 0) → ((best : List Best) → r ≡ finished best → P) → ((i n : ℕ) → r ≡ stopped i n → P) → P
by_run (finished best) P f g = f best refl
by_run (stopped i n) P f g = g i n refl

pub too_few_levels : TooFewLevels.Statement
too_few_levels circuit t =
    record {
      too_few_only = λ w S. let b = schedulable_fits h c S in refused_written 6 w.place _ (sym w.says ∙ plan_is circuit (finished b.0) b.1);
      first = λ w. by_run R (TooFewLevels.FirstTooFew circuit w.place) (λ best e. refused_written 6 w.place _ (sym w.says ∙ plan_is circuit (finished best) e))
          (λ i n e. first w.place i n (refused_place (sym w.says ∙ plan_is circuit (stopped i n) e)) e);
      too_few_if = λ f. by_run R (TooFewLevels.SaysTooFew circuit) (λ best e. absurd (f (plan_schedulable circuit t best e))) (λ i n e. says i n e (only_six h c t i n e));
      writes_if = λ S. let b = schedulable_fits h c S in record { schedule = _; writes = plan_is circuit (finished b.0) b.1 };
      writes_only = λ w. by_run R (Schedulable h c) (λ best e. plan_schedulable circuit t best e)
          (λ i n e. refused_written n (place_of i) w.schedule (sym (plan_is circuit (stopped i n) e) ∙ w.writes));
      only_six = λ n p e. by_run R (n ≡ 6) (λ best f. refused_written n p _ (sym e ∙ plan_is circuit (finished best) f))
          (λ i m f. number (sym e ∙ plan_is circuit (stopped i m) f) ∙ only_six h c t i m f);
    }
  where
    h : Header
    h = circuit.header

    c : List Line
    c = circuit.lines

    R : Run Best ℕ
    R = run (best_machine circuit.header) circuit.lines

    says : (i n : ℕ) → R ≡ stopped i n → n ≡ 6 → TooFewLevels.SaysTooFew circuit
    says i n e s = record { place = place_of i; says = plan_is circuit (stopped i n) e ∙ ap (λ (m : ℕ). unplanned m (place_of i)) s }

    number : {n p m q : ℕ} → unplanned n p ≡ unplanned m q → n ≡ m
    number e = cc

    refused_place : {n p m q : ℕ} → unplanned n p ≡ unplanned m q → p ≡ q
    refused_place e = cc

    first : (p i n : ℕ) → p ≡ place_of i → R ≡ stopped i n → TooFewLevels.FirstTooFew circuit p
    first p i n q e =
        let f = first_stop (best_machine circuit.header) circuit.lines i n e in
        record {
          line = i;
          place_is = q;
          below = f.below;
          before = plan_schedulable (record { header = circuit.header; lines = take i circuit.lines }) (well_take Circuit circuit.header circuit.lines i t) f.after
              f.before;
          with_it = λ S. let b = schedulable_fits circuit.header (take (suc i) circuit.lines) S in stopped_finished (sym f.with_it ∙ b.1);
        }

-- ---- other top levels
-- a circuit's lines do not depend on the top level
line_at_top : (h : Header) (l : ℕ) (before : List Line) (x : Line) → T (line_formed Circuit h before x) → T (line_formed Circuit (with_top h l) before x)
line_at_top h l before In t = t
line_at_top h l before (Const k) t = t
line_at_top h l before (Neg a) t = t
line_at_top h l before (Rot a r) t = t
line_at_top h l before (Add a b) t = t
line_at_top h l before (Mul a b) t = t
line_at_top h l before (Out a) t = t
line_at_top h l before (Enc a s e) t = absurd t
line_at_top h l before (Rs a c) t = absurd t
line_at_top h l before (Ms a c) t = absurd t
line_at_top h l before (Us a b) t = absurd t
line_at_top h l before Free t = absurd t

lines_at_top : (h : Header) (l : ℕ) (xs before : List Line) → T (lines_formed Circuit h before xs) → T (lines_formed Circuit (with_top h l) before xs)
lines_at_top h l [] before t = tt
lines_at_top h l (x ∷ xs) before t =
    and_both (line_formed Circuit (with_top h l) before x) (lines_formed Circuit (with_top h l) (before ++ (x ∷ [])) xs)
    (line_at_top h l before x (and_first (line_formed Circuit h before x) (lines_formed Circuit h (before ++ (x ∷ [])) xs) t))
    (lines_at_top h l xs (before ++ (x ∷ [])) (and_second (line_formed Circuit h before x) (lines_formed Circuit h (before ++ (x ∷ [])) xs) t))

pub formed_at_top : (h : Header) (c : List Line) → T (well_formed Circuit h c) → (l : ℕ) → 1 ≤ l → l ≤ 60 → T (well_formed Circuit (with_top h l) c)
formed_at_top h c t l a b =
    let H = header_facts h (well_header Circuit h c t) in
    and_both (header_in_range (with_top h l)) (lines_formed Circuit (with_top h l) [] c)
    (header_passes (with_top h l) (record { factor = H.factor; waterline = H.waterline; top = record { least = a; most = b }; headroom = H.headroom }))
    (lines_at_top h l c [] (well_lines Circuit h c t))

at_top : (h : Header) (c : List Line) → ℕ → File
at_top h c l = record { header = with_top h l; lines = c }

fits_schedulable : (h : Header) (c : List Line) → T (well_formed Circuit h c) → (l : ℕ) → 1 ≤ l → l ≤ 60 → (best : List Best) → run (best_machine (with_top h l)) c ≡ finished best
    → Schedulable (with_top h l) c
fits_schedulable h c t l a b best e = plan_schedulable (record { header = with_top h l; lines = c }) (formed_at_top h c t l a b) best e

pub higher_levels : HigherLevels.Statement
higher_levels h c t l u v S =
    let H = header_facts h (well_header Circuit h c t) in
    let b = schedulable_fits h c S in
    let b' = fits_higher h l u H.factor.least H.waterline.least c b.1 in
    fits_schedulable h c t l (omega (arith, H.top.least)) v b'.0 b'.1

-- ---- the least level
pub least_level_lem : LeastLevel.Statement
least_level_lem circuit t =
    record {
      level = λ l e. found l (subst (Says h c) e says);
      too_few = λ n p e. none n p (subst (Says h c) e says);
      too_few_if = λ f. by_answer f (least_level circuit) refl says;
      replies = λ e. subst (Says h c) e says;
    }
  where
    h : Header
    h = circuit.header

    c : List Line
    c = circuit.lines

    says : Says circuit.header circuit.lines (least_level circuit)
    says = least_says circuit

    sixty : T (well_formed Circuit (with_top circuit.header 60) circuit.lines)
    sixty = formed_at_top circuit.header circuit.lines t 60 (omega arith) (omega arith)

    stops_there : (k : ℕ) → StopsAt circuit.header circuit.lines k → Schedulable (with_top circuit.header k) circuit.lines → ⊥
    stops_there k s S = let b = schedulable_fits (with_top circuit.header k) circuit.lines S in finished_stopped b.0 s.line s.number b.1 s.runs

    found : (l : ℕ) → First circuit.header circuit.lines l → IsLeastLevel circuit.header circuit.lines l
    found l f =
        record {
          low = f.low;
          high = f.high;
          fits = fits_schedulable circuit.header circuit.lines t l f.low f.high f.fits.best f.fits.runs;
          least = λ k a b. stops_there k (f.lower k a b);
        }

    none : (n p : ℕ) → Never circuit.header circuit.lines n p → LeastLevel.TooFewAtSixty circuit n p
    none n p f =
        record {
          six = only_six (with_top circuit.header 60) circuit.lines sixty f.line n f.runs;
          no_schedule = stops_there 60 (record { line = f.line; number = n; runs = f.runs });
          as_planned = plan_is (LeastLevel.at_sixty_lem circuit) (stopped f.line n) f.runs ∙ ap (unplanned n) (sym f.place_is);
        }

    -- a level that fits would fit at 60
    by_answer : (Schedulable (with_top circuit.header 60) circuit.lines → ⊥) → (a : Answer) → least_level circuit ≡ a → Says circuit.header circuit.lines a
        → LeastLevel.Refuses circuit
    by_answer f Done e s = absurd s
    by_answer f (Level l) e s =
        absurd (f (higher_levels (with_top circuit.header l) circuit.lines (formed_at_top circuit.header circuit.lines t l s.low s.high) 60 s.high (omega arith)
        (found l s).fits))
    by_answer f (Refused n p) e s = record { place = p; says = e ∙ ap (λ (m : ℕ). Refused m p) (none n p s).six }

-- ---- demand 3 as one claim
pub demand_three : DemandThree.Statement
demand_three circuit t =
    record {
      exact = λ schedule p H. exactness circuit schedule p H;
      decides = too_few_levels circuit t;
      plan_is_right = the_plan circuit t;
      least_level_lem = least_level_lem circuit t;
    }
