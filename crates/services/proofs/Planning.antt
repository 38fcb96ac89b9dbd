-- What planning replies is what is promised: the plan, or 6 exactly where no schedule exists. Assumes nothing.
use Prim.Native.Nat.{ℕ, ◌≤◌}
use native.Mathlib.Omega.{arith}
use mathlib.Core.Path.{◌≡◌, refl, sym, ap, ◌∙◌, subst}
use mathlib.Core.Logic.{◌↔◌}
use lib.Dec.{T}
use Rattle.fields.specs.Pieces.{Bytes}
use Rattle.model.specs.declared.Grammar.TheVariants.{Circuit, Schedule}
use Rattle.model.specs.declared.Best.{Best}
use Rattle.rows.specs.Rows.{place_of, Reading, read, refused}
use Rattle.model.specs.Scales.{with_top}
use Rattle.model.specs.Files.{File, well_formed}
use Rattle.model.specs.Machine.{Run, finished, stopped, run}
use Rattle.model.specs.Plan.{best_machine, plan_lines}
use Rattle.model.specs.Services.{Planned, scheduled, unplanned, plan}
use Rattle.model.proofs.Tests.{Within, header_facts}
use Rattle.model.proofs.Formed.{well_header}
use Rattle.model.proofs.Theorems as Model
use Rattle.text.specs.Files.{read_text, circuit_context, file_text}
use Rattle.text.proofs.FileLaws.{FileBack, file_read_written}
use Rattle.services.specs.declared.Reply.{Reply}
use Rattle.services.specs.Outcomes.{Outcome, writes, refuses, Replied}
use Rattle.services.specs.Calls.{once_read, planned, plan_outcome}
use Rattle.model.specs.Demands.{Schedulable}
use Rattle.services.specs.Promises as Promises
use Rattle.services.specs.Promises.{OnceRead, Passed, IsBest, TooFew, Plans, with_level, Fits, PlannedAt, PlannedFrom, PlanComesTo, NeverTooFew, PlanPromise}
use Rattle.services.proofs.Lending.{Writing, text, refusal, by_room, lent_replies}
use Rattle.services.proofs.Texts.{not_both, one_file, is_unread, few_lines, text_inverse, schedule_back, circuit_back, passed_texts, passed_exact}
use Rattle.services.proofs.OneOutcome.{one_plan}

-- ---- what planning comes to
pub data PlanCase (circuit : Bytes) : Outcome → Type 0 where
  unread : (n p : ℕ) → read_text circuit_context circuit ≡ refused n p → PlanCase circuit (refuses n 1 p)
  few : (f : File) (p : ℕ) → read_text circuit_context circuit ≡ read f → plan f ≡ unplanned 6 p → PlanCase circuit (refuses 6 1 p)
  written : (f s : File) → read_text circuit_context circuit ≡ read f → plan f ≡ scheduled s → PlanCase circuit (writes (file_text Schedule s))

case_writing : {circuit : Bytes} {o : Outcome} → PlanCase circuit o → Writing o
case_writing (unread n p e) = refusal n 1 p
case_writing (few f p e q) = refusal 6 1 p
case_writing (written f s e q) = text (file_text Schedule s)

-- where planning refuses, the walk over the circuit stopped
pub record StopsAt (f : File) (p : ℕ) : Type 0 where
  pub line : ℕ
  pub place_is : p ≡ place_of line
  pub stops : run (best_machine f.header) f.lines ≡ stopped line 6

pub plan_stops : (f : File) (p : ℕ) → plan f ≡ unplanned 6 p → StopsAt f p
plan_stops f p = go (run (best_machine f.header) f.lines) refl
  where
    go : (r : Run Best ℕ) → run (best_machine f.header) f.lines ≡ r
        → elim r as (λ x. Planned)
        [ finished best ↦ scheduled (record { header = f.header; lines = plan_lines f.header best f.lines }) | stopped i n ↦ unplanned n (place_of i) ]
        ≡ unplanned 6 p → StopsAt f p
    go (finished best) e q = absurd (let z : ◌≡◌ {A = ℕ} 0 1 = cc in omega arith)
    go (stopped i n) e q = let six : n ≡ 6 = cc in let at : place_of i ≡ p = cc in record { line = i; place_is = sym at; stops = e ∙ ap (stopped i) six }

-- no schedule, and the first line with which there is none
pub too_few_at : (f : File) (p : ℕ) → T (well_formed Circuit f.header f.lines) → plan f ≡ unplanned 6 p → TooFew f.header f.lines p
too_few_at f p t says =
    let w = (Model.too_few_levels f t).first (record { place = p; says = says }) in
    let s = plan_stops f p says in
    let same : s.line ≡ w.line = omega (arith, w.place_is, s.place_is) in
    record {
      no_schedule = (Model.too_few_levels f t).too_few_only (record { place = p; says = says });
      line = w.line;
      place_is = w.place_is;
      stops = s.stops ∙ ap (λ (i : ℕ). stopped i 6) same;
      below = w.below;
      before = w.before;
      with_it = w.with_it;
    }

module _ (circuit : Bytes) where
  abbrev Reads : File → Type 0
  Reads f = read_text circuit_context circuit ≡ read f

  back : {f : File} → Reads f → FileBack circuit_context circuit f
  back e = file_read_written circuit_context circuit e

  pub plan_case : PlanCase circuit (plan_outcome circuit)
  plan_case = go (read_text circuit_context circuit) refl
    where
      on_file : (f : File) → Reads f → (q : Planned) → plan f ≡ q → PlanCase circuit (planned q)
      on_file f e (scheduled s) q = written f s e q
      on_file f e (unplanned n p) q =
          let six = (Model.too_few_levels f (back e).formed).only_six n p q in
          subst (λ (m : ℕ). PlanCase circuit (refuses m 1 p)) (sym six) (few f p e (q ∙ ap (λ (m : ℕ). unplanned m p) six))

      go : (x : Reading File) → read_text circuit_context circuit ≡ x → PlanCase circuit (once_read 1 x (λ f. planned (plan f)))
      go (refused n p) e = unread n p e
      go (read f) e = on_file f e (plan f) refl

  -- what is written passes
  plan_passes : {f s : File} → Reads f → plan f ≡ scheduled s → Passed circuit (file_text Schedule s)
  plan_passes {f} {s} e q =
      let right = Model.the_plan f (back e).formed s q in
      passed_texts circuit (file_text Schedule s) e (schedule_back s right.passed.schedule_formed (right.few (few_lines circuit_context (back e)))) right.passed

  -- the schedule that it reads to is the plan, and leaves the most reserve
  module _ {f s : File} (e : Reads f) (q : plan f ≡ scheduled s) (p : Passed circuit (file_text Schedule s)) where
    same_schedule : s ≡ p.files.schedule_file
    same_schedule =
        let right = Model.the_plan f (back e).formed s q in
        one_file (schedule_back s right.passed.schedule_formed (right.few (few_lines circuit_context (back e)))) p.files.schedule_reads

    plan_is : plan p.files.circuit_file ≡ scheduled p.files.schedule_file
    plan_is = ap plan (one_file p.files.circuit_reads e) ∙ q ∙ ap scheduled same_schedule

    plan_best : IsBest p.files
    plan_best = Model.best_reserve p.files.circuit_file (back p.files.circuit_reads).formed p.files.schedule_file plan_is

  -- there is a schedule
  plan_exists : {f s : File} → Reads f → plan f ≡ scheduled s → Schedulable f.header f.lines
  plan_exists {f} {s} e q = (Model.too_few_levels f (back e).formed).writes_only (record { schedule = s; writes = q })

  pub plans_text : {f s : File} → Reads f → plan f ≡ scheduled s → Plans circuit (file_text Schedule s)
  plans_text {f} {s} e q =
      let p = plan_passes e q in
      record {
        passed = p;
        is_plan = plan_is e q p;
        text_is = ap (file_text Schedule) (same_schedule e q p);
        exists = plan_exists p.files.circuit_reads (plan_is e q p);
        exact = passed_exact circuit (file_text Schedule s) p;
        best = plan_best e q p;
      }

module _ (circuit : Bytes) where
  -- with another top level in its header
  module _ {f : File} (e : Reads circuit f) (l : ℕ) (low : 1 ≤ l) (high : l ≤ 60) where
    pub formed_at : T (well_formed Circuit (with_top f.header l) f.lines)
    formed_at = Model.formed_at_top f.header f.lines (back circuit e).formed l low high

    reads_at : read_text circuit_context (file_text Circuit (with_level f l)) ≡ read (with_level f l)
    reads_at = circuit_back (with_level f l) formed_at (few_lines circuit_context (back circuit e))

    planned_at : Fits f l → PlannedAt f l
    planned_at S =
        let w = (Model.too_few_levels (with_level f l) formed_at).writes_if S in
        record {
          fits = S;
          written = file_text Schedule w.schedule;
          reads = reads_at;
          plans = plans_text (file_text Circuit (with_level f l)) reads_at w.writes;
        }

  -- what fits at one level fits, and is planned, at every higher one
  pub fits_above : {f : File} → Reads circuit f → (l : ℕ) → 1 ≤ l → Fits f l → (k : ℕ) → l ≤ k → k ≤ 60 → Fits f k
  fits_above {f} e l low S k above high = Model.higher_levels (with_top f.header l) f.lines (formed_at e l low (omega arith)) k above high S

  pub planned_from : {f : File} → Reads circuit f → (l : ℕ) → 1 ≤ l → l ≤ 60 → Fits f l → PlannedFrom f l
  planned_from e l low top S k above high = planned_at e k (omega arith) (omega arith) (fits_above e l low S k (omega arith) (omega arith))

  -- its own level
  own_level : {f : File} → Reads circuit f → Within 1 60 f.header.top
  own_level {f} e = (header_facts f.header (well_header Circuit f.header f.lines (back circuit e).formed)).top

  case_comes_to : {o : Outcome} → PlanCase circuit o → OnceRead (read_text circuit_context circuit) 1 (PlanComesTo circuit) o
  case_comes_to (unread n p e) = Promises.unread n p (is_unread circuit_context circuit n p e)
  case_comes_to (few f p e q) = Promises.is_read f _ e (Promises.too_few p (too_few_at f p (back circuit e).formed q))
  case_comes_to (written f s e q) = Promises.is_read f _ e (Promises.plans (file_text Schedule s) (plans_text circuit e q)
      (planned_from e f.header.top (own_level e).least (own_level e).most (plan_exists circuit e q)))

  pub plan_comes_to : OnceRead (read_text circuit_context circuit) 1 (PlanComesTo circuit) (plan_outcome circuit)
  plan_comes_to = case_comes_to (plan_case circuit)

-- a text that is to be written is never refused with 6
written_not_six : (out : Bytes) (r : Reply) (after t : Bytes) → Replied (writes t) out r after → r.number ≡ 6 → ⊥
written_not_six out r after t a six =
    by_room out r after ⊥ t a.reply a.bytes
    (λ u v w. let same = ap (λ (q : Reply). q.number) v in omega arith) (λ v w. let same = ap (λ (q : Reply). q.number) v in omega arith)

module _ (circuit out : Bytes) (r : Reply) (after : Bytes) where
  abbrev Tells : Type 0
  Tells = (f : File) → read_text circuit_context circuit ≡ read f → (r.number ≡ 6) ↔ (Schedulable f.header f.lines → ⊥)

  -- 6 exactly where no schedule exists
  exactly : {o : Outcome} → PlanCase circuit o → Replied o out r after → Tells
  exactly (unread n p e) a f i = not_both i e
  exactly (few k p e q) a f i =
      let none = (Model.too_few_levels k (back circuit e).formed).too_few_only (record { place = p; says = q }) in
      (λ six S. none (subst (λ (x : File). Schedulable x.header x.lines) (one_file i e) S), λ n. ap (λ (q : Reply). q.number) a.reply)
  exactly (written k s e q) a f i =
      let S = subst (λ (x : File). Schedulable x.header x.lines) (one_file e i) (plan_exists circuit e q) in
      (λ six. absurd (written_not_six out r after (file_text Schedule s) a six), λ n. absurd (n S))

-- a circuit that is planned from this level on
module _ {f : File} {l : ℕ} (high : l ≤ 60) (from : PlannedFrom f l) where
  -- with this level in its header
  planned_there : PlannedFrom (with_level f l) l
  planned_there k over up = let p = from k over up in record { fits = p.fits; written = p.written; reads = p.reads; plans = p.plans }

  never_too_few : NeverTooFew (file_text Circuit (with_level f l))
  never_too_few call out after r replies six =
      let p = from l (omega arith) (omega (arith, high)) in
      let comes_to = Promises.is_read (with_level f l) (writes p.written) p.reads (Promises.plans p.written p.plans planned_there) in
      written_not_six out r after p.written (subst (λ (o : Outcome). Replied o out r after) (sym (call.only (writes p.written) comes_to)) replies.replied) (omega (arith, six))

pub plan_promise : (circuit out : Bytes) (r : Reply) (after : Bytes) → Replied (plan_outcome circuit) out r after → PlanPromise circuit out r after
plan_promise circuit out r after a =
    let too_few = exactly circuit out r after (plan_case circuit) a in
    record {
      inverse = text_inverse circuit_context (omega arith) circuit;
      call = record { outcome = plan_outcome circuit; comes_to = plan_comes_to circuit; only = λ other c. one_plan circuit other _ c (plan_comes_to circuit) };
      replies = lent_replies out r after (case_writing (plan_case circuit)) a;
      too_few_iff = too_few;
      -- 6 there would be 6 here
      higher = λ f e not-six l above high call out' after' r' replies six.
          not-six ((too_few f e).1 (λ S.
          let own = own_level circuit e in
          let from = planned_from circuit e f.header.top own.least own.most S in
          never_too_few (omega (arith, above, high, own.most)) (λ k over up. from k (omega (arith, above, over)) up) call out' after' r' replies six));
    }
