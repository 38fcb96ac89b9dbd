-- What is quoted is what is promised: where planning comes to a plan, what counting over it gives; where it comes to a refusal, that one. Assumes nothing.
use Prim.Native.Nat.{ℕ, ◌≤◌, ◌<◌}
use native.Mathlib.Omega.{arith}
use mathlib.Core.Path.{◌≡◌, refl, sym, ap, ◌∙◌, subst}
use mathlib.Core.Bool.{Bool, true, false, cond}
use mathlib.Core.List.{[], ◌++◌}
use mathlib.Core.Logic.{◌⊎◌, inl, inr}
use borrow.Author.Tests.{le-leb, lt-leb}
use lib.Dec.{leb}
use lib.ListN.{length, take, drop}
use lib.Seq.{take-append_seam}
use Rattle.fields.specs.Pieces.{Bytes}
use Rattle.model.specs.Files.{File}
use Rattle.model.proofs.Tests.{below_or_not}
use Rattle.text.specs.Files.{read_text, circuit_context, schedule_context}
use Rattle.services.specs.declared.Reply.{Reply}
use Rattle.services.specs.Outcomes.{Outcome, writes, passes, tells, refuses, lent, reply_of, bytes_after, Replied}
use Rattle.services.specs.Calls.{plan_outcome}
use Rattle.services.specs.Promises.{OnceRead, unread, is_read, PlanComesTo, too_few, plans, PlanPromise}
use Rattle.services.proofs.Steps.{replied_as}
use Rattle.services.proofs.Texts.{one_file, text_inverse}
use Rattle.services.proofs.Planning.{plan_comes_to, plan_promise}
use Rattle.services.proofs.OneOutcome.{one_plan}
use Rattle.prices.specs.Prices.{IsPrice}
use Rattle.quotes.specs.declared.QuoteReply.{QuoteReply}
use Rattle.quotes.specs.Quotes.{line_feeds, Quotes, QuoteComesTo, quoted, unplanned, BesidePlan, QuotePromise}

-- ---- two replies to one outcome are the same
module _ {circuit written other : Bytes} {r s : QuoteReply} (same : written ≡ other) (x : Quotes circuit written r) (y : Quotes circuit other s) where
  same_file : y.plans.passed.files.schedule_file ≡ x.plans.passed.files.schedule_file
  same_file =
      one_file y.plans.passed.files.schedule_reads (ap (read_text schedule_context) (sym same) ∙ x.plans.passed.files.schedule_reads)

  same_price : s.price ≡ r.price
  same_price =
      let keeps = x.plans.passed.keeps in
      (subst (λ (f : File). IsPrice f.header f.lines s.price) same_file y.price_is).price_is keeps ∙ sym (x.price_is.price_is keeps)

  same_reply : s ≡ r
  same_reply =
      let number = y.number_is ∙ sym x.number_is in
      let file = y.file_is ∙ sym x.file_is in
      let place = y.place_is ∙ sym x.place_is in
      let lines = y.lines_are ∙ ap line_feeds (sym same) ∙ sym x.lines_are in
      let bytes = y.bytes_are ∙ ap length (sym same) ∙ sym x.bytes_are in
      λ i. record { number = number i; file = file i; place = place i; lines = lines i; bytes = bytes i; price = same_price i }

one_quote : {circuit : Bytes} (o p : Outcome) {r s : QuoteReply} → o ≡ p → QuoteComesTo circuit o r → QuoteComesTo circuit p s → s ≡ r
one_quote o p e (quoted w r x) (quoted v s y) = let same : w ≡ v = cc in same_reply same x y
one_quote o p e (quoted w r x) (unplanned n f place) = absurd (let z : ◌≡◌ {A = ℕ} 0 1 = cc in omega arith)
one_quote o p e (unplanned m f place) (quoted v s y) = absurd (let z : ◌≡◌ {A = ℕ} 0 1 = cc in omega arith)
one_quote o p e (unplanned m f place) (unplanned n g other) =
    let number : n ≡ m = cc in
    let file : g ≡ f = cc in
    let at : other ≡ place = cc in
    λ i. record { number = number i; file = file i; place = at i; lines = 0; bytes = 0; price = 0 }

-- ---- a refusal of planning has a number that is neither 0 nor 13
pub record PlannersOwn (n : ℕ) : Type 0 where
  pub some : n ≡ 0 → ⊥
  pub reading : n ≡ 13 → ⊥

abbrev Told : Outcome → Type 0
Told (writes text) = Unit {0}
Told passes = Unit {0}
Told (tells l) = Unit {0}
Told (refuses n f p) = PlannersOwn n

told : (circuit : Bytes) {o : Outcome} → OnceRead (read_text circuit_context circuit) 1 (PlanComesTo circuit) o → Told o
told circuit (unread n p u) =
    record {
      some = λ e. let low = u.by_reading (λ z. omega (arith, e, z)) in omega (arith, e, low.0);
      reading = λ e. let high = u.by_reading (λ z. omega (arith, e, z)) in omega (arith, e, high.1);
    }
told circuit (is_read f o e (too_few p t)) = record { some = λ z. omega arith; reading = λ z. omega arith }
told circuit (is_read f o e (plans w t higher)) = tt

-- ---- beside a reply of planning
front : (w out : Bytes) (n : ℕ) → n ≡ length w → take n (w ++ drop (length w) out) ≡ w
front w out n e = ap (λ (m : ℕ). take m (w ++ drop (length w) out)) e ∙ take-append_seam w (drop (length w) out)

module _ (out : Bytes) (plan : Reply) (after : Bytes) where
  -- the outcome of a text, where it fits or not
  abbrev fitting : Bytes → Bool → Outcome
  fitting w fits = cond fits (writes w) (refuses 13 0 0)

  beside : {circuit : Bytes} {o : Outcome} {r : QuoteReply} → Told o → QuoteComesTo circuit o r → Replied o out plan after
      → BesidePlan circuit r (length out) plan after
  beside {circuit} t (quoted w r x) a =
      record {
        long_enough = λ z enough.
            let all = reply_as true (fits (omega (arith, enough))) in
            (ap (λ (p : Reply). p.number) all, ap (λ (p : Reply). p.length) all ∙ sym x.bytes_are);
        written = λ z enough.
            let all : after ≡ w ++ drop (length w) out = a.bytes ∙ ap (λ (b : Bool). bytes_after (fitting w b) out) (fits enough) in
            subst (λ (v : Bytes). Quotes circuit v r) (sym (ap (take r.bytes) all ∙ front w out r.bytes x.bytes_are)) x;
        too_short = λ z short. ap (λ (p : Reply). p.number) (reply_as false (lt-leb (length w) (length out) (omega (arith, x.bytes_are))));
        own_refusal = λ z. absurd (z x.number_is);
      }
    where
      fits : r.bytes ≤ length out → leb (length w) (length out) ≡ true
      fits enough = le-leb (length w) (length out) (omega (arith, x.bytes_are))

      reply_as : (b : Bool) → leb (length w) (length out) ≡ b → plan ≡ reply_of (fitting w b)
      reply_as b is = a.reply ∙ ap (λ (c : Bool). reply_of (fitting w c)) is
  beside t (unplanned n f p) a =
      record {
        long_enough = λ z enough. absurd (t.some z);
        written = λ z enough. absurd (t.some z);
        too_short = λ z short. absurd (t.some z);
        own_refusal = λ z. (ap (λ (p : Reply). p.number) a.reply, ap (λ (p : Reply). p.file) a.reply, ap (λ (p : Reply). p.place) a.reply);
      }

never_short : {circuit : Bytes} {o : Outcome} {r : QuoteReply} → Told o → QuoteComesTo circuit o r → r.number ≡ 13 → ⊥
never_short t (quoted w r x) e = omega (arith, x.number_is, e)
never_short t (unplanned n f p) e = t.reading e

-- ---- the promise
module _ (circuit : Bytes) (r : QuoteReply) (c : QuoteComesTo circuit (plan_outcome circuit) r) where
  comes_to : OnceRead (read_text circuit_context circuit) 1 (PlanComesTo circuit) (plan_outcome circuit)
  comes_to = plan_comes_to circuit

  beside_plan : (out after : Bytes) (plan : Reply) → PlanPromise circuit out plan after → BesidePlan circuit r (length out) plan after
  beside_plan out after plan p =
      let same : p.call.outcome ≡ plan_outcome circuit = one_plan circuit _ _ p.call.comes_to comes_to in
      beside out plan after (told circuit comes_to) c (replied_as same p.replies.replied)

  -- a call of planning with no byte lent
  abbrev none_lent : Reply
  none_lent = reply_of (lent 0 (plan_outcome circuit))

  planning : PlanPromise circuit [] none_lent (bytes_after (lent 0 (plan_outcome circuit)) [])
  planning = plan_promise circuit [] none_lent _ (record { reply = refl; bytes = refl })

  here : BesidePlan circuit r 0 none_lent (bytes_after (lent 0 (plan_outcome circuit)) [])
  here = beside_plan [] _ none_lent planning

  six_too : r.number ≡ 6 → none_lent.number ≡ 6
  six_too e = (here.own_refusal (λ z. omega (arith, e, z))).0 ∙ e

  six_only : none_lent.number ≡ 6 → r.number ≡ 6
  six_only e = go (below_or_not 0 r.number) (below_or_not 0 r.bytes)
    where
      go : (0 < r.number) ⊎ (r.number ≤ 0) → (0 < r.bytes) ⊎ (r.bytes ≤ 0) → r.number ≡ 6
      go (inl some) b = sym (here.own_refusal (λ z. omega (arith, z))).0 ∙ e
      go (inr none) (inl short) = absurd (let thirteen = here.too_short (omega arith) short in omega (arith, thirteen, e))
      go (inr none) (inr fits) = absurd (let zero = (here.long_enough (omega arith) fits).0 in omega (arith, zero, e))

  pub quote_promise : QuotePromise circuit r
  quote_promise =
      record {
        inverse = text_inverse circuit_context (omega arith) circuit;
        call = record { outcome = plan_outcome circuit; comes_to = comes_to; only = λ other p. one_plan circuit other _ p comes_to };
        quote = c;
        only = λ other p. one_quote (plan_outcome circuit) (plan_outcome circuit) refl c p;
        beside_plan = beside_plan;
        never_too_short = never_short (told circuit comes_to) c;
        too_few_iff = λ file e.
            let planned = planning.too_few_iff file e in
            (λ six. planned.0 (six_too six), λ none. six_only (planned.1 none));
      }
