-- Each promise allows one outcome: two to which a call could come by it are the same. So no reply is left open. Assumes nothing.
use Prim.Native.Nat.{ℕ, suc, ◌≤◌, ◌<◌}
use native.Mathlib.Omega.{arith}
use mathlib.Core.Path.{◌≡◌, refl, sym, ap, ◌∙◌, subst}
use mathlib.Core.Logic.{◌⊎◌, inl, inr}
use mathlib.Core.List.{List}
use lib.Dec.{T}
use lib.ListN.{length, get_or, take, length-take}
use lib.Seq.{get_or-take, take-take}
use Rattle.fields.specs.Pieces.{Bytes, line_feed, split}
use Rattle.model.specs.declared.Header.{Header}
use Rattle.model.specs.declared.Line.{Line}
use Rattle.model.specs.declared.Line.TheVariants.{Free}
use Rattle.model.specs.declared.Grammar.TheVariants.{Schedule}
use Rattle.rows.specs.Rows.{place_of, Reading, read, refused, bad, judged}
use Rattle.model.specs.Files.{File}
use Rattle.model.specs.Rules.{KeepsRules, Rule, Bounds, has_scale}
use Rattle.model.specs.Services.{scheduled, plan}
use Rattle.model.specs.Broken.{rule_tests, FirstBroken}
use Rattle.model.specs.Demands.{Schedulable}
use Rattle.model.proofs.Tests.{below_or_not}
use Rattle.text.specs.Files.{read_text, circuit_context, schedule_context, erase_context, file_text}
use Rattle.services.specs.Outcomes.{Outcome, writes, tells, refuses}
use Rattle.services.specs.Promises as Promises
use Rattle.services.specs.Promises.{OnceRead, unread, is_read, TooFew, Fits, PlanComesTo, TextsDifferAt, Verdict, keeps_rules, other_circuit, breaks_rule}
use Rattle.services.specs.Promises.{EraseComesTo, Least, LeastComesTo}
use Rattle.services.proofs.Texts.{not_both, one_file}

-- ---- one reading, one line, one level
pub neither_below : (m n : ℕ) → (m < n → ⊥) → (n < m → ⊥) → m ≡ n
neither_below m n f g = go (below_or_not m n) (below_or_not n m)
  where
    go : (m < n) ⊎ (n ≤ m) → (n < m) ⊎ (m ≤ n) → m ≡ n
    go (inl u) v = absurd (f u)
    go (inr u) (inl v) = absurd (g v)
    go (inr u) (inr v) = omega arith

pub same_refusal : {A : Type 0} {x : Reading A} {m p n q : ℕ} (file : ℕ) → x ≡ refused m p → x ≡ refused n q → refuses m file p ≡ refuses n file q
same_refusal file e f = cc

too_few_place : {h : Header} {lines : List Line} {p q : ℕ} → TooFew h lines p → TooFew h lines q → p ≡ q
too_few_place {h} {lines} {p} {q} s t =
    let first = s.stops in
    let second = t.stops in
    let same : s.line ≡ t.line = cc in
    s.place_is ∙ ap place_of same ∙ sym t.place_is

least_fits : {file : File} {l : ℕ} → Least file l → Fits file l
least_fits {file} {l} x = (x.planned l (omega arith) (omega (arith, x.low, x.high))).fits

least_level_lem : {file : File} {l m : ℕ} → Least file l → Least file m → l ≡ m
least_level_lem {file} {l} {m} x y =
    neither_below l m (λ u. y.least l x.low u (least_fits x)) (λ u. x.least m y.low u (least_fits y))

abbrev pub One : (Outcome → Type 0) → Type 0
One ComesTo = (o q : Outcome) → ComesTo o → ComesTo q → o ≡ q

-- a text is refused in one way, or is read to one file: where one outcome follows of that file, one follows of the text
pub one_read : {A : Type 0} (x : Reading A) (which : ℕ) (Then : A → Outcome → Type 0) → ((f : A) → x ≡ read f → One (Then f)) → One (OnceRead x which Then)
one_read x which Then each o q (unread m p u) (unread n r v) = same_refusal which u.is_refused v.is_refused
one_read x which Then each o q (unread m p u) (is_read f w e t) = not_both e u.is_refused
one_read x which Then each o q (is_read f w e t) (unread n r v) = not_both e v.is_refused
one_read {A} x which Then each o q (is_read f v e t) (is_read k w i s) = each f e o q t (subst (λ (y : A). Then y q) (one_file i e) s)

-- ---- plan
planned_once : (circuit : Bytes) (f : File) → read_text circuit_context circuit ≡ read f → One (PlanComesTo circuit f)
planned_once circuit f e o q (Promises.too_few p s) (Promises.too_few r t) = ap (refuses 6 1) (too_few_place s t)
planned_once circuit f e o q (Promises.too_few p s) (Promises.plans w x higher) =
    absurd (s.no_schedule (subst (λ (k : File). Schedulable k.header k.lines) (one_file x.passed.files.circuit_reads e) x.exists))
planned_once circuit f e o q (Promises.plans w x higher) (Promises.too_few p s) =
    absurd (s.no_schedule (subst (λ (k : File). Schedulable k.header k.lines) (one_file x.passed.files.circuit_reads e) x.exists))
planned_once circuit f e o q (Promises.plans w x higher) (Promises.plans v y higher') =
    let is = x.is_plan in
    let other : plan x.passed.files.circuit_file ≡ scheduled y.passed.files.schedule_file =
    ap plan (one_file x.passed.files.circuit_reads y.passed.files.circuit_reads) ∙ y.is_plan in
    let same : x.passed.files.schedule_file ≡ y.passed.files.schedule_file = cc in
    ap writes (x.text_is ∙ ap (file_text Schedule) same ∙ sym y.text_is)

pub one_plan : (circuit : Bytes) → One (OnceRead (read_text circuit_context circuit) 1 (PlanComesTo circuit))
one_plan circuit = one_read (read_text circuit_context circuit) 1 (PlanComesTo circuit) (planned_once circuit)

-- ---- erase
pub one_erasure : (schedule : Bytes) → One (OnceRead (read_text erase_context schedule) 1 EraseComesTo)
one_erasure schedule = one_read (read_text erase_context schedule) 1 EraseComesTo once
  where
    once : (f : File) → read_text erase_context schedule ≡ read f → One (EraseComesTo f)
    once f e o q (Promises.erases w t r) (Promises.erases v s d) = subst (λ (x : Bytes). writes w ≡ writes x) (sym s) (ap writes t)

-- ---- least level
pub one_level : (circuit : Bytes) → One (OnceRead (read_text circuit_context circuit) 1 LeastComesTo)
one_level circuit = one_read (read_text circuit_context circuit) 1 LeastComesTo once
  where
    once : (f : File) → read_text circuit_context circuit ≡ read f → One (LeastComesTo f)
    once f e o q (Promises.fits_from l x) (Promises.fits_from m y) = ap tells (least_level_lem x y)
    once f e o q (Promises.fits_from l x) (Promises.too_few r t) = absurd (t.none_fits l x.low x.high (least_fits x))
    once f e o q (Promises.too_few p s) (Promises.fits_from m y) = absurd (s.none_fits m y.low y.high (least_fits y))
    once f e o q (Promises.too_few p s) (Promises.too_few r t) = ap (refuses 6 1) (too_few_place s.at_sixty t.at_sixty)

-- ---- check
-- lines that keep the rules do so up to any line
pub keeps_up_to : {h : Header} (xs : List Line) → KeepsRules h xs → (n : ℕ) → KeepsRules h (take n xs)
keeps_up_to {h} xs k n = record { scale = k.scale; level = k.level; rules = rules; bounds = bounds }
  where
    shorter : (i : ℕ) → i < length (take n xs) → (i < n) × (i < length xs)
    shorter i u = (let long = length-take n xs in omega arith, let long = length-take n xs in omega arith)

    same : (i : ℕ) → i < length (take n xs) → get_or (take n xs) i Free ≡ get_or xs i Free
    same i u = get_or-take n xs i Free (shorter i u).0

    rules : (i : ℕ) → i < length (take n xs) → Rule h k.scale k.level i (get_or (take n xs) i Free)
    rules i u = subst (Rule h k.scale k.level i) (sym (same i u)) (k.rules i (shorter i u).1)

    bounds : (i : ℕ) → i < length (take n xs) → T (has_scale (get_or (take n xs) i Free)) → Bounds h (k.scale i) (k.level i)
    bounds i u t = k.bounds i (shorter i u).1 (subst (λ (x : Line). T (has_scale x)) (same i u) t)

pub keeps_shorter : {h : Header} (xs : List Line) (m n : ℕ) → m ≤ n → KeepsRules h (take n xs) → KeepsRules h (take m xs)
keeps_shorter {h} xs m n u k = subst (KeepsRules h) (take-take m n xs u) (keeps_up_to (take n xs) k m)

pub first_broken_one :
    {h : Header} {xs : List Line} {m p n q file : ℕ} → FirstBroken h xs m p → FirstBroken h xs n q → refuses m file p ≡ refuses n file q
first_broken_one {h} {xs} {m} {p} {n} {q} x y =
    let line = neither_below x.line y.line (λ u. x.with_it (keeps_shorter xs (suc x.line) y.line u y.before))
    (λ u. y.with_it (keeps_shorter xs (suc y.line) x.line u x.before)) in
    let place = x.place_is ∙ ap place_of line ∙ sym y.place_is in
    let before = subst (λ (i : ℕ). KeepsRules h (take i xs)) line x.before in
    let first = subst (NumberAt m) line x.number_is before in
    let second = y.number_is before in
    let number : m ≡ n = cc in
    cc
  where
    NumberAt : ℕ → ℕ → Type 0
    NumberAt k i = (r : KeepsRules h (take i xs)) → judged (rule_tests h r.scale r.level (get_or xs i Free)) (get_or xs i Free) ≡ bad k

texts_differ_one : {xs ys : List Bytes} {p q : ℕ} → TextsDifferAt xs ys p → TextsDifferAt xs ys q → p ≡ q
texts_differ_one {xs} {ys} {p} {q} x y =
    let line = neither_below x.line y.line (λ u. x.with_it (up_to (suc x.line) y.line u y.before))
    (λ u. y.with_it (up_to (suc y.line) x.line u x.before)) in
    x.place_is ∙ ap suc line ∙ sym y.place_is
  where
    up_to : (m n : ℕ) → m ≤ n → take n xs ≡ take n ys → take m xs ≡ take m ys
    up_to m n u e = sym (take-take m n xs u) ∙ ap (take m) e ∙ take-take m n ys u

-- texts that are the same differ nowhere
same_texts : {P : Type 0} {text circuit : Bytes} {p : ℕ} → text ≡ circuit → TextsDifferAt (split line_feed circuit) (split line_feed text) p → P
same_texts e x = absurd (x.with_it (ap (λ (t : Bytes). take (suc x.line) (split line_feed t)) (sym e)))

one_verdict : (circuit : Bytes) (s : File) {o q : Outcome} → Verdict circuit s o → Verdict circuit s q → o ≡ q
one_verdict circuit s (keeps_rules e k) (keeps_rules i j) = refl
one_verdict circuit s (keeps_rules e k) (other_circuit p x) = same_texts e x
one_verdict circuit s (keeps_rules e k) (breaks_rule n p i b) = absurd (b.with_it (keeps_up_to s.lines k (suc b.line)))
one_verdict circuit s (other_circuit p x) (keeps_rules e k) = same_texts e x
one_verdict circuit s (other_circuit p x) (other_circuit q y) = ap (refuses 12 1) (texts_differ_one x y)
one_verdict circuit s (other_circuit p x) (breaks_rule n q e b) = same_texts e x
one_verdict circuit s (breaks_rule n p i b) (keeps_rules e k) = absurd (b.with_it (keeps_up_to s.lines k (suc b.line)))
one_verdict circuit s (breaks_rule n p e b) (other_circuit q x) = same_texts e x
one_verdict circuit s (breaks_rule m p e a) (breaks_rule n q i b) = first_broken_one a b

pub one_check : (circuit schedule : Bytes) → One (OnceRead (read_text circuit_context circuit) 1 (λ file. OnceRead (read_text schedule_context schedule) 2 (Verdict circuit)))
one_check circuit schedule =
    one_read (read_text circuit_context circuit) 1 (λ file. OnceRead (read_text schedule_context schedule) 2 (Verdict circuit))
    (λ f e. one_read (read_text schedule_context schedule) 2 (Verdict circuit) (λ s i o q. one_verdict circuit s))
