-- What is replied to a listing is what is promised: it is converted exactly when it keeps its rules and the conversion fits. Assumes nothing.
use Prim.Native.Nat.{ℕ, zero, suc, ◌+◌, ◌≤◌, ◌<◌}
use native.Mathlib.Omega.{arith}
use mathlib.Core.Path.{◌≡◌, refl, sym, ap, ◌∙◌, subst}
use mathlib.Core.Logic.{inl, inr}
use mathlib.Core.Bool.{Bool, true, false, cond, not}
use mathlib.Core.List.{List, [], ◌∷◌, ◌++◌}
use borrow.Author.Tests.{le-leb, lt-leb}
use lib.Dec.{T, leb, leb→le, le→leb, nleb→lt}
use lib.ListN.{length, get_or, take, length-take}
use lib.Seq.{get_or-take, take-take}
use Rattle.fields.specs.Pieces.{Bytes}
use Rattle.rows.specs.Rows.{place_of, Reading, read, refused, bad, judged}
use Rattle.model.specs.declared.Answer.{Answer}
use Rattle.model.specs.declared.Answer.TheVariants.{Done, Level, Refused}
use Rattle.model.specs.declared.Grammar.TheVariants.{Circuit, Schedule}
use Rattle.model.specs.declared.Header.{Header}
use Rattle.model.specs.declared.Line.{Line}
use Rattle.model.specs.declared.Line.TheVariants.{Free}
use Rattle.model.specs.Files.{File, well_formed}
use Rattle.model.specs.Machine.{Run, finished, stopped, run}
use Rattle.model.specs.declared.Found.{Found}
use Rattle.model.specs.Rules.{has_scale}
use Rattle.model.specs.Services.{erase_file}
use Rattle.model.proofs.Tests.{and_both}
use Rattle.model.proofs.Theorems as Model
use Rattle.text.specs.Files.{kept_count, read_text, erase_context, file_text}
use Rattle.text.proofs.FileLaws.{file_written_read}
use Rattle.listings.specs.Listings.{Listed, line, Listing, as_schedules, read_listing}
use Rattle.listings.specs.Rules.{RisingRule, RisingBounds, KeepsRisingRules}
use Rattle.listings.specs.Broken.{rising_tests, FirstBrokenRising}
use Rattle.listings.specs.Conversion.{converted, converted_file, TooLong}
use Rattle.listings.specs.Held.{held_lines, held_reading, is_downscale, held_machine, held_answer, found_scales, convert_held_from, convert_held}
use Rattle.listings.proofs.Texts.{ListingFacts, listing_facts, listing_read_written, listing_written_read, listing_refused, few_enough_lem}
use Rattle.listings.proofs.Converting.{convert_held_lem, convert_held_first}
use Rattle.listings.proofs.RulesTheorems as Rules
use Rattle.listings.proofs.Unique.{converted_same}
use Rattle.services.specs.declared.Reply.{Reply}
use Rattle.services.specs.Outcomes.{Outcome, writes, refuses, lent, reply_of, Replied}
use Rattle.services.specs.Calls.{once_read, full_at, converted_outcome, ruled_outcome, from_rising_outcome}
use Rattle.services.specs.Promises as Promises
use Rattle.services.specs.Promises.{OnceRead, Unread, Passed}
use Rattle.services.specs.Listings.{IsInverseListing, Converts, FromRisingComesTo, breaks_rule, too_long, converts, Convertible, FromRisingPromise}
use Rattle.services.proofs.Lending.{Writing, text, refusal, lent_replies}
use Rattle.services.proofs.Texts.{schedule_back, passed_texts, passed_exact}
use Rattle.services.proofs.Erasing.{erasure_reads}
use Rattle.services.proofs.OneOutcome.{neither_below, One, one_read}

-- ---- how many lines the conversion has
abbrev line_count : Line → ℕ
line_count x = cond (is_downscale x) 2 1

abbrev size : List Line → ℕ
size [] = 0
size (x ∷ xs) = line_count x + size xs

either_length : (b : Bool) (ys zs : List Line) (n : ℕ) → length ys ≡ 2 + n → length zs ≡ 1 + n → length (cond b ys zs) ≡ cond b 2 1 + n
either_length true ys zs n e f = e
either_length false ys zs n e f = f

converted_size : (h : Header) (scale : ℕ → ℕ) (names : List ℕ) (count : ℕ) (xs : List Line) → length (convert_held_from h scale names count xs) ≡ size xs
converted_size h scale names count [] = refl
converted_size h scale names count (x ∷ xs) =
    either_length (is_downscale x) _ _ (size xs)
    (let two = converted_size h scale (names ++ (suc count ∷ [])) (suc (suc count)) xs in omega arith)
    (let one = converted_size h scale (names ++ (count ∷ [])) (suc count) xs in omega arith)

size_up_to : (m n : ℕ) (xs : List Line) → m ≤ n → size (take m xs) ≤ size (take n xs)
size_up_to zero n xs u = omega arith
size_up_to (suc m) zero xs u = absurd (omega arith)
size_up_to (suc m) (suc n) [] u = omega arith
size_up_to (suc m) (suc n) (x ∷ xs) u = let rest = size_up_to m n xs (omega arith) in omega arith

size_all : (m : ℕ) (xs : List Line) → size (take m xs) ≤ size xs
size_all zero xs = omega arith
size_all (suc m) [] = omega arith
size_all (suc m) (x ∷ xs) = let rest = size_all m xs in omega arith

-- the first line that no longer fits
record Full (i used : ℕ) (xs : List Line) : Type 0 where
  line_number : ℕ
  place_is : full_at i used xs ≡ place_of (i + line_number)
  before : used + size (take line_number xs) ≤ 1792
  with_it : 1792 < used + size (take (suc line_number) xs)

full : (i used : ℕ) (xs : List Line) → used ≤ 1792 → 1792 < used + size xs → Full i used xs
full i used [] few over = absurd (omega arith)
full i used (x ∷ xs) few over = go (leb (used + line_count x) 1792) refl (λ fits. full (suc i) (used + line_count x) xs fits (omega arith))
  where
    go : (b : Bool) → leb (used + line_count x) 1792 ≡ b → (used + line_count x ≤ 1792 → Full (suc i) (used + line_count x) xs) → Full i used (x ∷ xs)
    go true e later =
        let rest = later (leb→le (used + line_count x) 1792 (subst T (sym e) tt)) in
        let low = rest.before in
        let high = rest.with_it in
        let here : suc i + rest.line_number ≡ i + suc rest.line_number = omega arith in
        record {
          line_number = suc rest.line_number;
          place_is = ap (λ (b : Bool). cond b (full_at (suc i) (used + line_count x) xs) (place_of i)) e ∙ rest.place_is ∙ ap place_of here;
          before = omega arith;
          with_it = omega arith;
        }
    go false e later =
        let past = nleb→lt (used + line_count x) 1792 (subst (λ (b : Bool). T (not b)) (sym e) tt) in
        let here : i ≡ i + 0 = omega arith in
        record {
          line_number = 0;
          place_is = ap (λ (b : Bool). cond b (full_at (suc i) (used + line_count x) xs) (place_of i)) e ∙ ap place_of here;
          before = omega arith;
          with_it = omega arith;
        }

-- what a conversion comes to whose lines fit, and one of which line n is the first that does not
module _ (h : Header) (scale : ℕ → ℕ) (lines : List Line) where
  pub fits_told : length (convert_held h scale lines) ≤ 1792
      → writes (file_text Schedule (record { header = h; lines = convert_held h scale lines })) ≡ converted_outcome h scale lines
  unfolding converted_outcome
  fits_told few = rw (le-leb (length (convert_held h scale lines)) 1792 few)

  pub full_told : (n : ℕ) → length (convert_held h scale (take n lines)) ≤ 1792 → 1792 < length (convert_held h scale (take (suc n) lines))
      → refuses 3 1 (place_of n) ≡ converted_outcome h scale lines
  unfolding converted_outcome
  full_told n before with_it =
      let here = converted_size h scale [] 0 (take n lines) in
      let after = converted_size h scale [] 0 (take (suc n) lines) in
      let all = converted_size h scale [] 0 lines in
      let over : 1792 < length (convert_held h scale lines) = omega (arith, size_all (suc n) lines) in
      let f = full 0 0 lines (omega arith) (omega arith) in
      let low = f.before in
      let high = f.with_it in
      let line : n ≡ f.line_number =
      neither_below n f.line_number (λ u. omega (arith, size_up_to (suc n) f.line_number lines u))
      (λ u. omega (arith, size_up_to (suc f.line_number) n lines u)) in
      let same : n ≡ 0 + f.line_number = omega arith in
      rw (lt-leb (length (convert_held h scale lines)) 1792 over) (ap (refuses 3 1) (ap place_of same ∙ sym f.place_is))

-- ---- lines that keep the rules do so up to any line
rising_up_to : {h : Header} (xs : List Listed) → KeepsRisingRules h xs → (n : ℕ) → KeepsRisingRules h (take n xs)
rising_up_to {h} xs k n = record { scale = k.scale; level = k.level; rules = rules; bounds = bounds }
  where
    shorter : (i : ℕ) → i < length (take n xs) → (i < n) × (i < length xs)
    shorter i u = (let long = length-take n xs in omega arith, let long = length-take n xs in omega arith)

    same : (i : ℕ) → i < length (take n xs) → get_or (take n xs) i (line Free) ≡ get_or xs i (line Free)
    same i u = get_or-take n xs i (line Free) (shorter i u).0

    rules : (i : ℕ) → i < length (take n xs) → RisingRule h k.scale k.level i (get_or (take n xs) i (line Free))
    rules i u = subst (RisingRule h k.scale k.level i) (sym (same i u)) (k.rules i (shorter i u).1)

    bounds : (i : ℕ) → i < length (take n xs) → T (has_scale (as_schedules h (get_or (take n xs) i (line Free)))) → RisingBounds h (k.scale i) (k.level i)
    bounds i u t = k.bounds i (shorter i u).1 (subst (λ (x : Listed). T (has_scale (as_schedules h x))) (same i u) t)

rising_shorter : {h : Header} (xs : List Listed) (m n : ℕ) → m ≤ n → KeepsRisingRules h (take n xs) → KeepsRisingRules h (take m xs)
rising_shorter {h} xs m n u k = subst (KeepsRisingRules h) (take-take m n xs u) (rising_up_to (take n xs) k m)

first_broken_one :
    {h : Header} {xs : List Listed} {m p n q : ℕ} → FirstBrokenRising h xs m p → FirstBrokenRising h xs n q → refuses m 1 p ≡ refuses n 1 q
first_broken_one {h} {xs} {m} {p} {n} {q} x y =
    let line = neither_below x.line_number y.line_number (λ u. x.with_it (rising_shorter xs (suc x.line_number) y.line_number u y.before))
    (λ u. y.with_it (rising_shorter xs (suc y.line_number) x.line_number u x.before)) in
    let place = x.place_is ∙ ap place_of line ∙ sym y.place_is in
    let before = subst (λ (i : ℕ). KeepsRisingRules h (take i xs)) line x.before in
    let first = subst (NumberAt m) line x.number_is before in
    let second = y.number_is before in
    let number : m ≡ n = cc in
    cc
  where
    NumberAt : ℕ → ℕ → Type 0
    NumberAt k i = (r : KeepsRisingRules h (take i xs)) → judged (rising_tests h r.scale r.level (get_or xs i (line Free))) (get_or xs i (line Free)) ≡ bad k

-- a check does not answer with a level
pub not_level : (r : Run Found ℕ) (l : ℕ) → ◌≡◌ {A = Answer} (elim r [ finished found ↦ Done | stopped i n ↦ Refused n (place_of i) ]) (Level l) → ⊥
not_level (finished found) l e = absurd (let z : ◌≡◌ {A = ℕ} 0 1 = cc in omega arith)
not_level (stopped i n) l e = absurd (let z : ◌≡◌ {A = ℕ} 0 1 = cc in omega arith)

module _ (l : Listing) (facts : ListingFacts l) where
  abbrev h : Header
  h = l.header

  abbrev xs : List Listed
  xs = l.lines

  abbrev held : List Line
  held = held_lines h xs

  -- ---- lengths
  first_size : (scale : ℕ → ℕ) (n : ℕ) → length (converted h scale (take n xs)) ≡ size (take n held)
  first_size scale n = sym (ap length (convert_held_first l facts scale n)) ∙ converted_size h scale [] 0 (take n held)

  all_size : (scale : ℕ → ℕ) → length (converted h scale xs) ≡ size held
  all_size scale = sym (ap length (convert_held_lem l facts scale)) ∙ converted_size h scale [] 0 held

  too_long_at : (scale : ℕ → ℕ) → 1792 < size held → TooLong h scale xs (full_at 0 0 held)
  too_long_at scale over =
      let f = full 0 0 held (omega arith) (omega arith) in
      let here : 0 + f.line_number ≡ f.line_number = omega arith in
      record {
        line_number = f.line_number;
        place_is = f.place_is ∙ ap place_of here;
        before = omega (arith, first_size scale f.line_number, f.before);
        with_it = omega (arith, first_size scale (suc f.line_number), f.with_it);
      }

  -- ---- a listing that keeps its rules and whose conversion is short enough
  module _ (k : KeepsRisingRules h xs) (few : length (converted h k.scale xs) ≤ 1792) where
    abbrev file : File
    file = converted_file k.scale l

    formed : T (well_formed Schedule h file.lines)
    formed = Rules.converted_formed h xs facts.formed k

    reads_back : read_text erase_context (file_text Schedule file) ≡ read file
    reads_back =
        file_written_read erase_context file (omega arith) formed
        (and_both (leb (length file.lines) 1792) (leb (kept_count file.lines) 256) (le→leb (length file.lines) 1792 few)
        (le→leb (kept_count file.lines) 256 (omega (arith, Rules.converted_kept h xs facts.formed k, facts.kept))))

    passes_check : Passed (file_text Circuit (erase_file file)) (file_text Schedule file)
    passes_check =
        passed_texts (file_text Circuit (erase_file file)) (file_text Schedule file) (erasure_reads (file_text Schedule file) reads_back) (schedule_back file formed few)
        (record {
          circuit_formed = (Model.erasing h file.lines formed).formed;
          schedule_formed = formed;
          keeps = Rules.converted_keeps h xs facts.formed k;
          erases = refl;
        })

    pub becomes : Converts l (file_text Schedule file)
    becomes =
        record {
          keeps = k;
          few = few;
          text_is = refl;
          reads = reads_back;
          passed = passes_check;
          exact = passed_exact (file_text Circuit (erase_file file)) (file_text Schedule file) passes_check;
        }

  -- ---- what an answer says
  module _ (e : held_answer h held ≡ Done) where
    abbrev kept : KeepsRisingRules h xs
    kept = Rules.done h xs facts.formed e

    abbrev lines : List Line
    lines = convert_held h (found_scales h held) held

    lines_are : lines ≡ converted h kept.scale xs
    lines_are =
        convert_held_lem l facts (found_scales h held) ∙ ap (λ (s : ℕ → ℕ). converted h s xs) (λ j i. sym (Rules.done_scale h xs facts.formed e i) j)

    same_file : ◌≡◌ {A = File} (record { header = h; lines = lines }) (converted_file kept.scale l)
    same_file j = record { header = h; lines = lines_are j }

    fits_so : leb (length lines) 1792 ≡ true → Converts l (file_text Schedule (record { header = h; lines = lines }))
    fits_so q =
        let few = leb→le (length lines) 1792 (subst T (sym q) tt) in
        subst (λ (f : File). Converts l (file_text Schedule f)) (sym same_file) (becomes kept (omega (arith, ap length lines_are)))

    converted_so : (b : Bool) → leb (length lines) 1792 ≡ b
        → FromRisingComesTo l (cond b (writes (file_text Schedule (record { header = h; lines = lines }))) (refuses 3 1 (full_at 0 0 held)))
    converted_so true q = converts (file_text Schedule (record { header = h; lines = lines })) (fits_so q)
    converted_so false q =
        let over = nleb→lt (length lines) 1792 (subst (λ (b : Bool). T (not b)) (sym q) tt) in
        too_long kept (full_at 0 0 held) (too_long_at kept.scale (omega (arith, ap length lines_are, all_size kept.scale)))

  ruled : (a : Answer) → held_answer h held ≡ a → FromRisingComesTo l (ruled_outcome h held a)
  unfolding converted_outcome
  ruled Done e = converted_so e (leb (length (convert_held h (found_scales h held) held)) 1792) refl
  ruled (Level n) e = absurd (not_level (run (held_machine h) held) n e)
  ruled (Refused n p) e = breaks_rule n p (Rules.refused h xs facts.formed n p e)

  -- ---- one outcome
  broken_kept : {n p : ℕ} {P : Type 0} → FirstBrokenRising h xs n p → KeepsRisingRules h xs → P
  broken_kept b k = absurd (b.with_it (rising_up_to xs k (suc b.line_number)))

  long_place : (k k' : KeepsRisingRules h xs) {p q : ℕ} → TooLong h k.scale xs p → TooLong h k'.scale xs q → p ≡ q
  long_place k k' x y =
      let line = neither_below x.line_number y.line_number
      (λ u. omega
      (arith, size_up_to (suc x.line_number) y.line_number held u, first_size k.scale (suc x.line_number), first_size k'.scale y.line_number, x.with_it, y.before))
      (λ u. omega
      (arith, size_up_to (suc y.line_number) x.line_number held u, first_size k'.scale (suc y.line_number), first_size k.scale x.line_number, y.with_it, x.before)) in
      x.place_is ∙ ap place_of line ∙ sym y.place_is

  long_few : (k : KeepsRisingRules h xs) {p : ℕ} {w : Bytes} {P : Type 0} → TooLong h k.scale xs p → Converts l w → P
  long_few k x c =
      absurd (omega (arith, size_all (suc x.line_number) held, first_size k.scale (suc x.line_number), x.with_it, c.few, all_size c.keeps.scale))

  once : One (FromRisingComesTo l)
  once o q (breaks_rule m p x) (breaks_rule n r y) = first_broken_one x y
  once o q (breaks_rule m p x) (too_long k r y) = broken_kept x k
  once o q (breaks_rule m p x) (converts w y) = broken_kept x y.keeps
  once o q (too_long k p x) (breaks_rule n r y) = broken_kept y k
  once o q (too_long k p x) (too_long k' r y) = ap (refuses 3 1) (long_place k k' x y)
  once o q (too_long k p x) (converts w y) = long_few k x y
  once o q (converts w x) (breaks_rule n r y) = broken_kept y x.keeps
  once o q (converts w x) (too_long k r y) = long_few k y x
  once o q (converts w x) (converts v y) =
      ap writes
      (x.text_is ∙ ap (λ (ys : List Line). file_text Schedule (record { header = h; lines = ys })) (converted_same h xs facts.formed x.keeps y.keeps) ∙ sym y.text_is)

-- ---- what a call comes to
data RisingCase (listing : Bytes) : Outcome → Type 0 where
  unread : (n p : ℕ) → read_listing listing ≡ refused n p → RisingCase listing (refuses n 1 p)
  answered : (l : Listing) → read_listing listing ≡ read l → (a : Answer) → held_answer l.header (held_lines l.header l.lines) ≡ a
      → RisingCase listing (ruled_outcome l.header (held_lines l.header l.lines) a)

either_writes : (b : Bool) (t : Bytes) (p : ℕ) → Writing (cond b (writes t) (refuses 3 1 p))
either_writes true t p = text t
either_writes false t p = refusal 3 1 p

case_writing : {listing : Bytes} {o : Outcome} → RisingCase listing o → Writing o
unfolding converted_outcome
case_writing (unread n p e) = refusal n 1 p
case_writing {listing} (answered l e Done i) =
    let f = listing_facts listing e in
    either_writes (leb (length (lines l f i)) 1792) (file_text Schedule (record { header = l.header; lines = lines l f i })) (full_at 0 0 (held l f))
case_writing (answered l e (Level n) i) = absurd (not_level (run (held_machine l.header) (held_lines l.header l.lines)) n i)
case_writing (answered l e (Refused n p) i) = refusal n 1 p

module _ (listing : Bytes) where
  rising_case : RisingCase listing (from_rising_outcome listing)
  rising_case = go (read_listing listing) refl
    where
      go : (x : Reading Listing) → read_listing listing ≡ x
          → RisingCase listing (once_read 1 (held_reading x) (λ f. ruled_outcome f.header f.lines (held_answer f.header f.lines)))
      go (refused n p) e = unread n p e
      go (read l) e = answered l e (held_answer l.header (held_lines l.header l.lines)) refl

  is_unread : (n p : ℕ) → read_listing listing ≡ refused n p → Unread (read_listing listing) n p
  is_unread n p e = record { is_refused = e; by_reading = listing_refused listing e }

  comes_to : {o : Outcome} → RisingCase listing o → OnceRead (read_listing listing) 1 FromRisingComesTo o
  comes_to (unread n p e) = Promises.unread n p (is_unread n p e)
  comes_to (answered l e a i) = Promises.is_read l _ e (ruled l (listing_facts listing e) a i)

  pub one_conversion : One (OnceRead (read_listing listing) 1 FromRisingComesTo)
  one_conversion = one_read (read_listing listing) 1 FromRisingComesTo (λ l e. once l (listing_facts listing e))

  pub listing_inverse : IsInverseListing listing
  listing_inverse l = (
    λ e. let f = listing_facts listing e in record { formed = f.formed; few = few_enough_lem l f; text_is = listing_read_written listing e },
    λ w. ap read_listing (sym w.text_is) ∙ listing_written_read l w.formed w.few,
  )

  module _ (out : Bytes) (r : Reply) (after : Bytes) (a : Replied (from_rising_outcome listing) out r after) where
    number : (o : Outcome) → r ≡ reply_of o → r.number ≡ (reply_of o).number
    number o e = ap (λ (q : Reply). q.number) e

    -- a reply of 0 is a text that fits
    fits_room : (b : Bool) (t : Bytes) (p : ℕ) → r ≡ reply_of (lent (length out) (cond b (writes t) (refuses 3 1 p))) → r.number ≡ 0 → (b ≡ true) × (length t ≤ length out)
    fits_room false t p e z = absurd (omega (arith, number (refuses 3 1 p) e))
    fits_room true t p e z = (refl, go (leb (length t) (length out)) refl e)
      where
        go : (c : Bool) → leb (length t) (length out) ≡ c → r ≡ reply_of (cond c (writes t) (refuses 13 0 0)) → length t ≤ length out
        go true q v = leb→le (length t) (length out) (subst T (sym q) tt)
        go false q v = absurd (omega (arith, number (refuses 13 0 0) v))

    zero_converted : {o : Outcome} → RisingCase listing o → r ≡ reply_of (lent (length out) o) → r.number ≡ 0 → Convertible listing (length out)
    unfolding converted_outcome
    zero_converted (unread n p e) q z =
        absurd (let told = number (refuses n 1 p) q in let low = (listing_refused listing e (λ i. omega arith)).0 in omega arith)
    zero_converted (answered l e Done i) q z =
        let f = listing_facts listing e in
        let told = fits_room (leb (length (lines l f i)) 1792) (file_text Schedule (record { header = l.header; lines = lines l f i })) (full_at 0 0 (held l f)) q z in
        let c = fits_so l f i told.0 in
        let long = told.1 in
        record { listing = l; reads = e; keeps = c.keeps; few = c.few; holds = subst (λ (w : Bytes). length w ≤ length out) c.text_is long }
    zero_converted (answered l e (Level n) i) q z = absurd (not_level (run (held_machine l.header) (held_lines l.header l.lines)) n i)
    zero_converted (answered l e (Refused n p) i) q z = absurd (go (Rules.numbers l.header l.lines (listing_facts listing e).formed n p i))
      where
        go : Rules.RisingNumber n → ⊥
        go (inl b) = omega (arith, b.0, number (refuses n 1 p) q)
        go (inr b) = omega (arith, b, number (refuses n 1 p) q)

    converted_zero : Convertible listing (length out) → r.number ≡ 0
    converted_zero c =
        let l = c.listing in
        let w = file_text Schedule (converted_file c.keeps.scale l) in
        let is = converts w (becomes l (listing_facts listing c.reads) c.keeps c.few) in
        let same = one_conversion (writes w) (from_rising_outcome listing) (Promises.is_read l _ c.reads is) (comes_to rising_case) in
        ap (λ (q : Reply). q.number) a.reply ∙ ap (λ (o : Outcome). (reply_of (lent (length out) o)).number) (sym same)
        ∙ ap (λ (b : Bool). (reply_of (cond b (writes w) (refuses 13 0 0))).number) (le-leb (length w) (length out) c.holds)

    pub from_rising_promise : FromRisingPromise listing out r after
    from_rising_promise =
        record {
          inverse = listing_inverse;
          call =
              record {
                outcome = from_rising_outcome listing;
                comes_to = comes_to rising_case;
                only = λ other c. one_conversion other _ c (comes_to rising_case);
              };
          replies = lent_replies out r after (case_writing rising_case) a;
          converted_iff = (zero_converted rising_case a.reply, converted_zero);
        }
