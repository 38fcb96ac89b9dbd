-- The service's check answers Done exactly for the schedules that pass: one header, the circuit's lines after erasing, and the rules.
-- Assumes nothing.
use Rattle.std.specs.Prelude.{Option, Some, None}
use Prim.Native.Nat.{ℕ, zero, suc, ◌+◌}
use native.Mathlib.Omega.{arith}
use mathlib.Core.Path.{◌≡◌, refl, sym, ap, ap₂, ◌∙◌, subst}
use mathlib.Core.Logic.{◌⊎◌, inl, inr}
use mathlib.Core.Bool.{cond, not, ◌&&◌}
use mathlib.Core.List.{List, [], ◌∷◌, nil≢cons, head-eq_of_cons-eq, tail-eq_of_cons-eq}
use lib.Dec.{T, T_not, leb, eqb, eqb→eq, eqb_refl}
use lib.ListN.{length, take}
use lib.IntN.{ℤ, pos, negsuc}
use Rattle.ints.specs.Parts.{positive, negative}
use Rattle.model.specs.declared.Header.{Header}
use Rattle.model.specs.declared.Line.{Line}
use Rattle.model.specs.declared.Grammar.TheVariants.{Circuit, Schedule}
use Rattle.model.specs.declared.Answer.{Answer}
use Rattle.model.specs.declared.Answer.TheVariants.{Done, Level, Refused}
use Rattle.rows.specs.Rows.{place_of}
use Rattle.model.specs.Files.{said, nth, line_of, word_of, well_formed, File}
use Rattle.model.specs.Scales.{header_numbers}
use Rattle.model.specs.Numbering.{order, same_word}
use Rattle.model.specs.Machine.{Run, finished, stopped, run}
use Rattle.model.specs.Services.{erase}
use Rattle.model.specs.declared.Found.{Found}
use Rattle.model.specs.Answers.{check_machine, same_numbers, same_line, same_header, compared, rules_answer, check}
use Rattle.model.proofs.Statements.Check.{PassedFiles}
use Rattle.model.proofs.Statements.Check.{OtherCircuit, other_header, other_lines, ByRules, Judges}
use Rattle.model.proofs.Tests.{and_first, and_second, and_both, cond_cases, cond_true}
use Rattle.model.proofs.EveryWord.{same_word_lem, line_said}
use Rattle.model.proofs.Checked.{verdict}

-- ---- numbers
unfoldable pub rejoined : ℕ → ℕ → ℤ
rejoined p zero = pos p
rejoined p (suc n) = negsuc n

pub rejoined_parts : (t : ℤ) → rejoined (positive t) (negative t) ≡ t
unfolding rejoined
rejoined_parts (pos n) = refl
rejoined_parts (negsuc n) = refl

same_parts : (m n : ℤ) → positive m ≡ positive n → negative m ≡ negative n → m ≡ n
same_parts m n p q = sym (rejoined_parts m) ∙ ap₂ rejoined p q ∙ rejoined_parts n

pub same_numbers_lem : (ms ns : List ℤ) → T (same_numbers ms ns) → ms ≡ ns
same_numbers_lem [] [] t = refl
same_numbers_lem [] (n ∷ ns) t = absurd t
same_numbers_lem (m ∷ ms) [] t = absurd t
same_numbers_lem (m ∷ ms) (n ∷ ns) t =
    let up = eqb (positive m) (positive n) in
    let down = eqb (negative m) (negative n) in
    let two = and_second up (down && same_numbers ms ns) t in
    ap₂ ◌∷◌
    (same_parts m n (eqb→eq (positive m) (positive n) (and_first up (down && same_numbers ms ns) t))
    (eqb→eq (negative m) (negative n) (and_first down (same_numbers ms ns) two)))
    (same_numbers_lem ms ns (and_second down (same_numbers ms ns) two))

pub numbers_same : (ns : List ℤ) → T (same_numbers ns ns)
numbers_same [] = tt
numbers_same (n ∷ ns) =
    let up = eqb (positive n) (positive n) in
    let down = eqb (negative n) (negative n) in
    and_both up (down && same_numbers ns ns) (eqb_refl (positive n)) (and_both down (same_numbers ns ns) (eqb_refl (negative n)) (numbers_same ns))

-- ---- lines
pub same_line_lem : (x y : Line) → T (same_line x y) → x ≡ y
same_line_lem x y t =
    let words = same_word (word_of x) (word_of y) in
    let numbers = same_numbers (said x).numbers (said y).numbers in
    sym (line_said x)
    ∙ ap₂ line_of (same_word_lem (word_of x) (word_of y) (and_first words numbers t)) (same_numbers_lem (said x).numbers (said y).numbers (and_second words numbers t))
    ∙ line_said y

pub line_same : (x : Line) → T (same_line x x)
line_same x =
    and_both (same_word (word_of x) (word_of x)) (same_numbers (said x).numbers (said x).numbers) (eqb_refl (order (word_of x))) (numbers_same (said x).numbers)

-- ---- headers
header_from : List ℤ → Header
header_from ns = record { factor = nth ns 0; waterline = nth ns 1; top = nth ns 2; headroom = cond (leb (length ns) 3) None (Some (nth ns 3)) }

header_back : (h : Header) → header_from (header_numbers h) ≡ h
unfolding header_from
header_back h = go h.headroom refl
  where
    go : (given : Option ℕ) → h.headroom ≡ given → header_from (header_numbers h) ≡ h
    go None e = rw e
    go (Some bits) e = rw e

pub same_header_lem : (h k : Header) → T (same_header h k) → h ≡ k
same_header_lem h k t = sym (header_back h) ∙ ap header_from (same_numbers_lem (header_numbers h) (header_numbers k) t) ∙ header_back k

pub header_same : (h : Header) → T (same_header h h)
header_same h = numbers_same (header_numbers h)

-- ---- the two files
refused_done : {P : Type 0} (n p : ℕ) → Refused n p ≡ Done → P
refused_done n p e = absurd (let z : ◌≡◌ {A = ℕ} 0 1 = cc in omega arith)

refused_number : {m n p q : ℕ} → Refused m p ≡ Refused n q → n ≡ m
refused_number e = cc

refused_place : {m n p q : ℕ} → Refused m p ≡ Refused n q → p ≡ q
refused_place e = cc

refused_level : (n p l : ℕ) → Refused n p ≡ Level l → ⊥
refused_level n p l e = let z : ◌≡◌ {A = ℕ} 0 1 = cc in omega arith

pub compared_done : (n : ℕ) (xs ys : List Line) (otherwise : Answer) → compared n xs ys otherwise ≡ Done → (xs ≡ ys) × (otherwise ≡ Done)
compared_done n [] [] o e = (refl, e)
compared_done n [] (y ∷ ys) o e = refused_done 12 (place_of n) e
compared_done n (x ∷ xs) [] o e = refused_done 12 (place_of n) e
compared_done n (x ∷ xs) (y ∷ ys) o e =
    cond_cases (λ (a : Answer). a ≡ Done → (x ∷ xs ≡ y ∷ ys) × (o ≡ Done)) (same_line x y) (compared (suc n) xs ys o) (Refused 12 (place_of n))
    (λ t f. let r = compared_done (suc n) xs ys o f in (ap₂ ◌∷◌ (same_line_lem x y t) r.0, r.1)) (λ t f. refused_done 12 (place_of n) f) e

-- no level is given
rules_level : (h : Header) (s : List Line) (l : ℕ) → rules_answer h s ≡ Level l → ⊥
rules_level h s l e = go (run (check_machine h) s) e
  where
    go : (r : Run Found ℕ) → elim r [ finished found ↦ Done | stopped i n ↦ Refused n (place_of i) ] ≡ Level l → ⊥
    go (finished found) q = let z : ◌≡◌ {A = ℕ} 0 1 = cc in omega arith
    go (stopped i n) q = refused_level n (place_of i) l q

compared_level : (n : ℕ) (xs ys : List Line) (o : Answer) (l : ℕ) → (o ≡ Level l → ⊥) → compared n xs ys o ≡ Level l → ⊥
compared_level n [] [] o l f e = f e
compared_level n [] (y ∷ ys) o l f e = refused_level 12 (place_of n) l e
compared_level n (x ∷ xs) [] o l f e = refused_level 12 (place_of n) l e
compared_level n (x ∷ xs) (y ∷ ys) o l f e =
    cond_cases (λ (a : Answer). a ≡ Level l → ⊥) (same_line x y) (compared (suc n) xs ys o) (Refused 12 (place_of n)) (λ t. compared_level (suc n) xs ys o l f)
    (λ t. refused_level 12 (place_of n) l) e

pub compared_same : (n : ℕ) (xs : List Line) (otherwise : Answer) → compared n xs xs otherwise ≡ otherwise
compared_same n [] o = refl
compared_same n (x ∷ xs) o = cond_true (same_line x x) (compared (suc n) xs xs o) (Refused 12 (place_of n)) (line_same x) ∙ compared_same (suc n) xs o

-- the first difference of two lists of lines, whose first lines have value number n
record Differ (n : ℕ) (xs ys : List Line) (p : ℕ) : Type 0 where
  offset : ℕ
  place_is : p ≡ place_of (n + offset)
  before : take offset xs ≡ take offset ys
  with_it : take (suc offset) xs ≡ take (suc offset) ys → ⊥

compared_refused : (n : ℕ) (xs ys : List Line) (o : Answer) (m p : ℕ) → compared n xs ys o ≡ Refused m p → ((m ≡ 12) × Differ n xs ys p) ⊎ ((xs ≡ ys) × (o ≡ Refused m p))
compared_refused n [] [] o m p e = inr (refl, e)
compared_refused n [] (y ∷ ys) o m p e = inl (refused_number e, here (refused_place e) (λ q. absurd (nil≢cons q)))
  where
    here : place_of n ≡ p → (take 1 [] ≡ take 1 (y ∷ ys) → ⊥) → Differ n [] (y ∷ ys) p
    here q f = record { offset = 0; place_is = sym q ∙ ap place_of (omega arith); before = refl; with_it = f }
compared_refused n (x ∷ xs) [] o m p e = inl (refused_number e, here (refused_place e) (λ q. absurd (nil≢cons (sym q))))
  where
    here : place_of n ≡ p → (take 1 (x ∷ xs) ≡ take 1 [] → ⊥) → Differ n (x ∷ xs) [] p
    here q f = record { offset = 0; place_is = sym q ∙ ap place_of (omega arith); before = refl; with_it = f }
compared_refused n (x ∷ xs) (y ∷ ys) o m p e =
    cond_cases (λ (a : Answer). a ≡ Refused m p → ((m ≡ 12) × Differ n (x ∷ xs) (y ∷ ys) p) ⊎ ((x ∷ xs ≡ y ∷ ys) × (o ≡ Refused m p))) (same_line x y) (compared (suc n) xs ys o)
    (Refused 12 (place_of n))
    (λ t f. later (same_line_lem x y t) (compared_refused (suc n) xs ys o m p f)) (λ t f. inl (refused_number f, here (refused_place f) t)) e
  where
    later : x ≡ y → ((m ≡ 12) × Differ (suc n) xs ys p) ⊎ ((xs ≡ ys) × (o ≡ Refused m p)) → ((m ≡ 12) × Differ n (x ∷ xs) (y ∷ ys) p) ⊎ ((x ∷ xs ≡ y ∷ ys) × (o ≡ Refused m p))
    later q (inr (r, f)) = inr (ap₂ ◌∷◌ q r, f)
    later q (inl (r, d)) =
        inl (
          r,
          record {
            offset = suc d.offset;
            place_is = d.place_is ∙ ap place_of (omega arith);
            before = ap₂ ◌∷◌ q d.before;
            with_it =
                λ w. d.with_it (tail-eq_of_cons-eq w);
          },
        )

    here : place_of n ≡ p → T (not (same_line x y)) → Differ n (x ∷ xs) (y ∷ ys) p
    here q t = record {
      offset = 0;
      place_is = sym q ∙ ap place_of (omega arith);
      before = refl;
      with_it =
          λ w. T_not (same_line x y) t (subst (λ (z : Line). T (same_line x z)) (head-eq_of_cons-eq w) (line_same x));
    }

module _ (circuit schedule : File) (t : T (well_formed Circuit circuit.header circuit.lines)) (u : T (well_formed Schedule schedule.header schedule.lines)) where
  abbrev rest : Answer
  rest = rules_answer schedule.header schedule.lines

  done_passed : check circuit schedule ≡ Done → PassedFiles circuit schedule
  done_passed e = cond_cases (λ (a : Answer). a ≡ Done → PassedFiles circuit schedule) (same_header circuit.header schedule.header)
      (compared 0 circuit.lines (erase schedule.lines) rest) (Refused 12 1)
      (λ p f.
      let r = compared_done 0 circuit.lines (erase schedule.lines) rest f in
      let q = same_header_lem circuit.header schedule.header p in
      record {
        circuit_formed = t;
        schedule_formed = u;
        keeps = (verdict schedule.header schedule.lines u).0 r.1;
        erases =
            λ i. record { header = sym q i; lines = sym r.0 i };
      })
      (λ p f. refused_done 12 1 f) e

  passed_done : PassedFiles circuit schedule → check circuit schedule ≡ Done
  passed_done p =
      cond_true (same_header circuit.header schedule.header) (compared 0 circuit.lines (erase schedule.lines) rest) (Refused 12 1)
      (subst (λ (f : File). T (same_header f.header schedule.header)) p.erases (header_same schedule.header))
      ∙ ap (λ (l : List Line). compared 0 circuit.lines l rest) (λ i. (p.erases i).lines) ∙ compared_same 0 circuit.lines rest
      ∙ (verdict schedule.header schedule.lines u).1 p.keeps

  refuses : (n p : ℕ) → check circuit schedule ≡ Refused n p → ((n ≡ 12) × OtherCircuit circuit schedule p) ⊎ ByRules circuit schedule n p
  refuses n p e =
      cond_cases (λ (a : Answer). a ≡ Refused n p → ((n ≡ 12) × OtherCircuit circuit schedule p) ⊎ ByRules circuit schedule n p) (same_header circuit.header schedule.header)
      (compared 0 circuit.lines (erase schedule.lines) rest) (Refused 12 1)
      (λ t f. by_lines (same_header_lem circuit.header schedule.header t) (compared_refused 0 circuit.lines (erase schedule.lines) rest n p f))
      (λ t f. inl (
        refused_number f,
        other_header (λ q. T_not (same_header circuit.header schedule.header) t
            (subst (λ (k : Header). T (same_header circuit.header k)) q (header_same circuit.header))) (sym (refused_place f)),
      )) e
    where
      by_lines : circuit.header ≡ schedule.header
          → ((n ≡ 12) × Differ 0 circuit.lines (erase schedule.lines) p) ⊎ ((circuit.lines ≡ erase schedule.lines) × (rest ≡ Refused n p))
          → ((n ≡ 12) × OtherCircuit circuit schedule p) ⊎ ByRules circuit schedule n p
      by_lines q (inl (r, d)) = inl (r, other_lines q (record { line = d.offset; place_is = d.place_is ∙ ap place_of (omega arith); before = d.before; with_it = d.with_it }))
      by_lines q (inr (r, f)) = inr (record { same_header_lem = q; same_lines = r; by_rules = f })

  no_level_lem : (l : ℕ) → check circuit schedule ≡ Level l → ⊥
  no_level_lem l e =
      cond_cases (λ (a : Answer). a ≡ Level l → ⊥) (same_header circuit.header schedule.header) (compared 0 circuit.lines (erase schedule.lines) rest) (Refused 12 1)
      (λ t f. compared_level 0 circuit.lines (erase schedule.lines) rest l (rules_level schedule.header schedule.lines l) f) (λ t f. refused_level 12 1 l f) e

  pub judges : Judges circuit schedule
  judges = record { passes = (done_passed, passed_done); refuses = refuses; no_level_lem = no_level_lem }
