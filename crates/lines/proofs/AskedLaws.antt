-- What the code asks of a word's fields, in a file that counts levels so: which numbers are in range, and which line they are. Assumes nothing.
use Prim.Native.Nat.{ℕ, zero, suc, ◌-◌, ◌≤◌}
use native.Mathlib.Omega.{arith}
use mathlib.Core.Path.{◌≡◌, refl, sym, ap, ◌∙◌, subst}
use mathlib.Core.Bool.{Bool, true, false, cond, not, ◌&&◌, ◌||◌}
use mathlib.Core.List.{List, [], ◌∷◌, map}
use borrow.Author.Tests.{le-leb, le-ltb}
use lib.Dec.{T, eqb, leb, ltb, leb→le, le→leb, nltb→le}
use lib.IntN.{ℤ, pos}
use lib.Signed.{non_neg}
use lib.ListN.{length, get_or}
use Rattle.ints.proofs.Linear.{sub_is}
use Rattle.rows.specs.Fields.{Holds, operand, ranged, up_to_top, amount, within, all_in_range}
use Rattle.rows.specs.Forms.{Said}
use Rattle.rows.proofs.FieldLaws.{Held, number, Fields, no_field, field}
use Rattle.model.specs.declared.Header.{Header}
use Rattle.model.specs.declared.Line.{Line}
use Rattle.model.specs.declared.Word.{Word}
use Rattle.model.specs.declared.Word.TheVariants.{In, Const, Neg, Rot, Add, Mul, Out, Enc, Rs, Ms, Us, NoWord}
use Rattle.model.specs.Words.{entry, operands_among}
use Rattle.model.specs.Files.{line_of, operands, in_range}
use Rattle.model.proofs.Tests.{and_first, and_second, and_both}
use Rattle.model.proofs.EveryWord.{every_word_lem}
use Rattle.text.proofs.WordLaws.{said_line}
use Rattle.listings.specs.declared.Levels.{Levels}
use Rattle.listings.specs.declared.Levels.TheVariants.{Falling, Rising}
use Rattle.listings.specs.Listings.{ListedWord, word, ds, word_fields, listed_of, turned_numbers, turned}
use Rattle.std.specs.Prelude.{Some, None}
use Rattle.forms.specs.Asked as A
use Rattle.forms.specs.Asked.{asked_at, read_as, any_outside, all_held}
use Rattle.forms.proofs.TextLaws.{alike, Small}
use Rattle.words.specs.Words.{held_word, row_in}
use Rattle.judging.specs.Judging.{NumbersFit}
use Rattle.judging.proofs.JudgeLaws.{line_of_three}
use Rattle.std.specs.Prelude.{Result, Ok, Err}
use Rattle.model.specs.declared.Fault.TheVariants.{NumberOutOfRange}
use Rattle.model.specs.declared.Refusal.{Refusal}
use Rattle.lines.specs.Lines.{held_as, tested_as, turns_level, asked_by, level_held}
use Rattle.lines.proofs.HeldLaws.{asked_of, row_asked, every_listed, all_in_lem, all_held_lem, numbers_fit, held_small}

-- the line of a word and its numbers as it is held, and whether its tests find it in its ranges
abbrev pub held_line_of : Levels → Header → ListedWord → List ℤ → Line
held_line_of levels h v ns = held_as levels h (listed_of v ns)

abbrev pub range_of : Levels → Header → ListedWord → List ℤ → Bool
range_of levels h v ns = in_range h (tested_as levels h (listed_of v ns))

-- number j as it is held
abbrev pub held_at : Header → List Holds → List ℤ → ℕ → ℤ
held_at h fs ns j = get_or (all_held (map (asked_of h.top) fs) ns) j (pos 0)

-- the numbers in their ranges, with the third as it is turned
pub record LevelFits (levels : Levels) (h : Header) (v : ListedWord) (fs : List Holds) (ns : List ℤ) (z : ℤ) : Type 0 where
  pub ranged : range_of levels h v ns ≡ true
  pub line : line_of (held_word v) (held_at h fs ns 0 ∷ held_at h fs ns 1 ∷ z ∷ []) ≡ held_line_of levels h v (all_held (map (asked_of h.top) fs) ns)
  pub fit : NumbersFit (held_word v) (held_at h fs ns 0) (held_at h fs ns 1) z
  pub small : Small z

-- the fields by which a word's numbers are read
pub record Asking (levels : Levels) (h : Header) (v : ListedWord) : Type 0 where
  pub fields : List Holds
  pub asked : asked_by (turns_level levels (row_in v).fields) (row_in v) h.top ≡ map (asked_of h.top) fields
  pub same : T (alike (word_fields v) fields)
  pub read_so : T (alike (word_fields v) (map read_as (map (asked_of h.top) fields)))
  pub names : (ms : List ℤ) → Fields Held fields ms → operands (held_line_of levels h v ms) ≡ operands_among fields ms
  pub outside : (ns : List ℤ) → Fields Held fields ns → any_outside (map (asked_of h.top) fields) ns ≡ true → range_of levels h v ns ≡ false
  pub too_low : (ns : List ℤ) → Fields Held fields ns → any_outside (map (asked_of h.top) fields) ns ≡ false
      → (place : ℕ) (r : Refusal) → level_held place (turns_level levels (row_in v).fields) h.top (held_at h fields ns 1) (held_at h fields ns 2) ≡ Err r
      → range_of levels h v ns ≡ false
  pub level_held_lem : (ns : List ℤ) → Fields Held fields ns → any_outside (map (asked_of h.top) fields) ns ≡ false
      → (place : ℕ) (z : ℤ) → level_held place (turns_level levels (row_in v).fields) h.top (held_at h fields ns 1) (held_at h fields ns 2) ≡ Ok z
      → LevelFits levels h v fields ns z
  pub smalls : (ns : List ℤ) → Fields Held fields ns → any_outside (map (asked_of h.top) fields) ns ≡ false → (j : ℕ) → Small (held_at h fields ns j)
  pub unsigned : turns_level levels (row_in v).fields ≡ true → (ns : List ℤ) → Fields Held fields ns → any_outside (map (asked_of h.top) fields) ns ≡ false
      → T (non_neg (held_at h fields ns 2))

-- ---- a line whose numbers stay as they are
-- no number is a level
abbrev no_level : List Holds → Bool
no_level [] = true
no_level (operand ∷ fs) = no_level fs
no_level (ranged low high ∷ fs) = no_level fs
no_level (up_to_top ∷ fs) = false
no_level (amount most ∷ fs) = no_level fs

not_turned : (top : ℕ) {fs : List Holds} {ns : List ℤ} → T (no_level fs) → Fields Held fs ns → turned_numbers top fs ns ≡ ns
not_turned top t no_field = refl
not_turned top t (field {f = operand} {n = n} h hs) = ap (λ (ms : List ℤ). n ∷ ms) (not_turned top t hs)
not_turned top t (field {f = ranged low high} {n = n} h hs) = ap (λ (ms : List ℤ). n ∷ ms) (not_turned top t hs)
not_turned top t (field {f = up_to_top} h hs) = absurd t
not_turned top t (field {f = amount most} {n = n} h hs) = ap (λ (ms : List ℤ). n ∷ ms) (not_turned top t hs)

line_stays : (h : Header) (w : Word) {ns : List ℤ} → eqb (length (entry w).fields) 3 ≡ false → Fields Held (entry w).fields ns → turned h (line_of w ns) ≡ line_of w ns
line_stays h w {ns} e hs =
    ap (λ (s : Said Word). line_of s.word (turned_numbers h.top (entry s.word).fields s.numbers)) (said_line w hs)
    ∙ ap (line_of w) (not_turned h.top (go (eqb (length (entry w).fields) 3) e (every_word_lem (λ u. eqb (length (entry u).fields) 3 || no_level (entry u).fields) tt w)) hs)
  where
    go : (b : Bool) → b ≡ false → T (b || no_level (entry w).fields) → T (no_level (entry w).fields)
    go true e t = absurd (let z : ◌≡◌ {A = ℕ} 0 1 = cc in omega arith)
    go false e t = t

module _ (h : Header) where
  held_stays : (levels : Levels) (v : ListedWord) (ns : List ℤ) → turns_level levels (row_in v).fields ≡ false → Fields Held (word_fields v) ns
      → held_line_of levels h v ns ≡ line_of (held_word v) ns
  unfolding turns_level
  held_stays Falling (word w) ns e hs = refl
  held_stays Falling ds ns e (field (number a) no_field) = refl
  held_stays Rising (word w) ns e hs = line_stays h w e hs
  held_stays Rising ds ns e (field (number a) no_field) = refl

  range_said : (w : Word) (ns : List ℤ) → Fields Held (entry w).fields ns → in_range h (line_of w ns) ≡ all_in_range h.top (entry w).fields ns
  range_said w ns hs = ap (λ (s : Said Word). all_in_range h.top (entry s.word).fields s.numbers) (said_line w hs)

  range_stays : (levels : Levels) (v : ListedWord) (ns : List ℤ) → turns_level levels (row_in v).fields ≡ false → Fields Held (word_fields v) ns
      → range_of levels h v ns ≡ all_in_range h.top (word_fields v) ns
  unfolding turns_level
  range_stays Falling (word w) ns e hs = range_said w ns hs
  range_stays Falling ds ns e (field (number a) no_field) = refl
  range_stays Rising (word w) ns e hs = ap (in_range h) (line_stays h w e hs) ∙ range_said w ns hs
  range_stays Rising ds ns e (field (number a) no_field) = refl

names_of : (v : ListedWord) (ms : List ℤ) → Fields Held (word_fields v) ms → operands (line_of (held_word v) ms) ≡ operands_among (word_fields v) ms
names_of (word w) ms hs = ap (λ (s : Said Word). operands_among (entry s.word).fields s.numbers) (said_line w hs)
names_of ds ms (field (number a) no_field) = refl

held_is : {y z : ℤ} → ◌≡◌ {A = Result ℤ Refusal} (Ok y) (Ok z) → y ≡ z
held_is e = cc

held_outside : {y : ℤ} {r : Refusal} {P : Type 0} → ◌≡◌ {A = Result ℤ Refusal} (Ok y) (Err r) → P
held_outside e = absurd (let z : ◌≡◌ {A = ℕ} 0 1 = cc in omega arith)

alike_itself : (v : ListedWord) → T (alike (word_fields v) (word_fields v))
unfolding alike
alike_itself v = every_listed (λ u. alike (word_fields u) (word_fields u)) tt v

read_itself : (top : ℕ) (v : ListedWord) → T (alike (word_fields v) (map read_as (map (asked_of top) (word_fields v))))
unfolding alike
read_itself top v = every_listed (λ u. alike (word_fields u) (map read_as (map (asked_of top) (word_fields u)))) tt v

module _ (levels : Levels) (h : Header) (few : h.top ≤ 60) (v : ListedWord) (stays : turns_level levels (row_in v).fields ≡ false) where
  same_level : (place : ℕ) (y z : ℤ) → level_held place (turns_level levels (row_in v).fields) h.top y z ≡ Ok z
  unfolding level_held
  same_level place y z = rw stays

  asking_stays : Asking levels h v
  asking_stays =
      record {
        fields = word_fields v;
        asked = ap (λ (b : Bool). asked_by b (row_in v) h.top) stays ∙ row_asked h.top v;
        same = alike_itself v;
        read_so = read_itself h.top v;
        names = λ ms hs. ap operands (held_stays h levels v ms stays hs) ∙ names_of v ms hs;
        outside = λ ns hs e. range_stays h levels v ns stays hs ∙ all_in_lem h.top hs ∙ ap not e;
        too_low = λ ns hs e place r q. held_outside (sym (same_level place (held_at h (word_fields v) ns 1) (held_at h (word_fields v) ns 2)) ∙ q);
        level_held_lem = λ ns hs e place z q. fits ns hs e z (held_is (sym (same_level place (held_at h (word_fields v) ns 1) (held_at h (word_fields v) ns 2)) ∙ q));
        smalls = λ ns hs e. held_small h.top few v hs e;
        unsigned = λ e ns hs q. absurd (let z : ◌≡◌ {A = Bool} true false = sym e ∙ stays in let y : ◌≡◌ {A = ℕ} 0 1 = cc in omega arith);
      }
    where
      fits : (ns : List ℤ) → Fields Held (word_fields v) ns → any_outside (map (asked_of h.top) (word_fields v)) ns ≡ false
          → (z : ℤ) → held_at h (word_fields v) ns 2 ≡ z → LevelFits levels h v (word_fields v) ns z
      fits ns hs e z q =
          let held = all_held (map (asked_of h.top) (word_fields v)) ns in
          record {
            ranged = range_stays h levels v ns stays hs ∙ all_in_lem h.top hs ∙ ap not e;
            line = line_of_three (held_word v) held refl refl (sym q) ∙ sym (held_stays h levels v held stays (all_held_lem h.top few hs e));
            fit = subst (λ (u : ℤ). NumbersFit (held_word v) (held_at h (word_fields v) ns 0) (held_at h (word_fields v) ns 1) u) q (numbers_fit h.top few v hs e);
            small = subst Small q (held_small h.top few v hs e 2);
          }

-- ---- a listing's `enc`, whose level is read from 0 up and turned
abbrev turned_fields : ℕ → List Holds
turned_fields top = operand ∷ ranged 0 3600 ∷ ranged 0 top ∷ []

false_by : (a b : Bool) → (T a → T b) → b ≡ false → a ≡ false
false_by true b f e = absurd (subst T e (f tt))
false_by false b f e = refl

true_by : (a : Bool) → T a → a ≡ true
true_by true t = refl
true_by false t = absurd t

-- a value number as it is held
record Named (z : ℤ) : Type 0 where
  value : ℕ
  is : z ≡ pos value
  most : value ≤ 1792

module _ (h : Header) (few : h.top ≤ 60) (a s e : ℕ) where
  abbrev ns : List ℤ
  ns = pos a ∷ pos s ∷ pos e ∷ []

  given : Fields Held (turned_fields h.top) ns
  given = field (number a) (field (number s) (field (number e) no_field))

  abbrev ranges : Bool
  ranges = within 1 3600 s && within 1 h.top (h.top - e)

  -- 1 to 3,600 and 0 to L − 1, of 0 to 3,600 and 0 to L
  wider : T ranges → T (within 0 3600 s && within 0 h.top e)
  wider t =
      let high = leb→le s 3600 (and_second (leb 1 s) (leb s 3600) (and_first (within 1 3600 s) (within 1 h.top (h.top - e)) t)) in
      let some_left = leb→le 1 (h.top - e) (and_first (leb 1 (h.top - e)) (leb (h.top - e) h.top) (and_second (within 1 3600 s) (within 1 h.top (h.top - e)) t)) in
      and_both (within 0 3600 s) (within 0 h.top e) (and_both (leb 0 s) (leb s 3600) (le→leb 0 s (omega arith)) (le→leb s 3600 high))
      (and_both (leb 0 e) (leb e h.top) (le→leb 0 e (omega arith)) (le→leb e h.top (omega arith)))

  turned_outside : any_outside (map (asked_of h.top) (turned_fields h.top)) ns ≡ true → ranges ≡ false
  turned_outside q = false_by ranges (within 0 3600 s && within 0 h.top e) wider (all_in_lem h.top given ∙ ap not q)

  module _ (inside : any_outside (map (asked_of h.top) (turned_fields h.top)) ns ≡ false) where
    wide : T (within 0 3600 s && within 0 h.top e)
    wide = subst T (sym (all_in_lem h.top given ∙ ap not inside)) tt

    high_scale : s ≤ 3600
    high_scale = leb→le s 3600 (and_second (leb 0 s) (leb s 3600) (and_first (within 0 3600 s) (within 0 h.top e) wide))

    high_level : e ≤ h.top
    high_level = leb→le e h.top (and_second (leb 0 e) (leb e h.top) (and_second (within 0 3600 s) (within 0 h.top e) wide))

    name_at : Named (held_at h (turned_fields h.top) ns 0)
    name_at = go (leb a 1791) refl
      where
        go : (b : Bool) → leb a 1791 ≡ b → Named (A.held_as (cond b (Some (pos a)) None))
        go true q = record { value = a; is = refl; most = omega (arith, leb→le a 1791 (subst T (sym q) tt)) }
        go false q = record { value = 1792; is = refl; most = omega arith }

    scale_at : held_at h (turned_fields h.top) ns 1 ≡ pos s
    scale_at = rw (le-leb s 3600 high_scale)

    level_at : held_at h (turned_fields h.top) ns 2 ≡ pos e
    level_at = rw (le-leb e h.top high_level)

    small_at : (j : ℕ) → Small (held_at h (turned_fields h.top) ns j)
    small_at zero = subst Small (sym name_at.is) (let most = name_at.most in omega arith)
    small_at (suc zero) = subst Small (sym scale_at) (omega (arith, high_scale))
    small_at (suc (suc zero)) = subst Small (sym level_at) (omega (arith, high_level))
    small_at (suc (suc (suc j))) = omega arith

    abbrev low : Bool
    low = ltb s 1 || ltb (h.top - e) 1

    abbrev level_from : ℕ → Bool → Result ℤ Refusal
    level_from place b = cond b (Err (record { fault = NumberOutOfRange; place = place })) (Ok (pos (h.top - e)))

    turns_so : (place : ℕ) → level_held place (turns_level Rising 3) h.top (held_at h (turned_fields h.top) ns 1) (held_at h (turned_fields h.top) ns 2)
        ≡ level_from place low
    unfolding level_held turns_level
    turns_so place = rw (scale_at, level_at, sub_is h.top e high_level)

    not_low : T ranges → T (not low)
    not_low t =
        let scale = leb→le 1 s (and_first (leb 1 s) (leb s 3600) (and_first (within 1 3600 s) (within 1 h.top (h.top - e)) t)) in
        let some_left = leb→le 1 (h.top - e) (and_first (leb 1 (h.top - e)) (leb (h.top - e) h.top) (and_second (within 1 3600 s) (within 1 h.top (h.top - e)) t)) in
        rw (le-ltb s 1 scale, le-ltb (h.top - e) 1 some_left) tt

    turned_low : (place : ℕ) (r : Refusal) → level_from place low ≡ Err r → ranges ≡ false
    turned_low place r v = go low refl v
      where
        go : (b : Bool) → low ≡ b → level_from place b ≡ Err r → ranges ≡ false
        go true q v = false_by ranges (not low) not_low (ap not q)
        go false q v = held_outside v

    neither : (x y : Bool) → (x || y) ≡ false → T (not x && not y)
    neither true y q = absurd (let z : ◌≡◌ {A = ℕ} 0 1 = cc in omega arith)
    neither false true q = absurd (let z : ◌≡◌ {A = ℕ} 0 1 = cc in omega arith)
    neither false false q = tt

    turned_fits : (place : ℕ) (z : ℤ) → level_from place low ≡ Ok z → LevelFits Rising h (word Enc) (turned_fields h.top) ns z
    turned_fits place z v = go low refl v
      where
        fits : low ≡ false → LevelFits Rising h (word Enc) (turned_fields h.top) ns (pos (h.top - e))
        fits q =
            let both = neither (ltb s 1) (ltb (h.top - e) 1) q in
            let scale = nltb→le s 1 (and_first (not (ltb s 1)) (not (ltb (h.top - e) 1)) both) in
            let some_left = nltb→le (h.top - e) 1 (and_second (not (ltb s 1)) (not (ltb (h.top - e) 1)) both) in
            let most = name_at.most in
            record {
              ranged =
                  true_by ranges (and_both (within 1 3600 s) (within 1 h.top (h.top - e)) (and_both (leb 1 s) (leb s 3600) (le→leb 1 s scale) (le→leb s 3600 high_scale))
                  (and_both (leb 1 (h.top - e)) (leb (h.top - e) h.top) (le→leb 1 (h.top - e) some_left) (le→leb (h.top - e) h.top (omega arith))));
              line = rw level_at;
              fit =
                  subst (λ (x : ℤ). NumbersFit Enc x (held_at h (turned_fields h.top) ns 1) (pos (h.top - e))) (sym name_at.is)
                  (subst (λ (y : ℤ). NumbersFit Enc (pos name_at.value) y (pos (h.top - e))) (sym scale_at)
                  (record {
                    one =
                        record {
                          unsigned = tt;
                          constant = λ q. absurd (let z : ◌≡◌ {A = ℕ} 0 1 = cc in omega arith);
                          number = λ q. record { fits = omega arith };
                        };
                    two =
                        record {
                          amount = λ q. absurd (let z : ◌≡◌ {A = ℕ} 0 1 = cc in omega arith);
                          number = λ q. record { unsigned = tt; fits = record { fits = omega (arith, high_scale) } };
                        };
                    three = record { unsigned = tt; fits = record { fits = omega arith } };
                  }));
              small = omega arith;
            }

        go : (b : Bool) → low ≡ b → level_from place b ≡ Ok z → LevelFits Rising h (word Enc) (turned_fields h.top) ns z
        go true q v = absurd (let z : ◌≡◌ {A = ℕ} 0 1 = cc in omega arith)
        go false q v = subst (LevelFits Rising h (word Enc) (turned_fields h.top) ns) (held_is v) (fits q)

asking_turned : (h : Header) → h.top ≤ 60 → Asking Rising h (word Enc)
unfolding turns_level asked_at alike
asking_turned h few =
    record {
      fields = turned_fields h.top;
      asked = refl;
      same = tt;
      read_so = tt;
      names = names;
      outside = outside;
      too_low = too_low;
      level_held_lem = level_held_lem;
      smalls = smalls;
      unsigned = λ e. unsigned;
    }
  where
    names : (ms : List ℤ) → Fields Held (turned_fields h.top) ms → operands (held_line_of Rising h (word Enc) ms) ≡ operands_among (turned_fields h.top) ms
    names ms (field (number a) (field (number s) (field (number e) no_field))) = refl

    outside : (ns : List ℤ) → Fields Held (turned_fields h.top) ns → any_outside (map (asked_of h.top) (turned_fields h.top)) ns ≡ true
        → range_of Rising h (word Enc) ns ≡ false
    outside ns (field (number a) (field (number s) (field (number e) no_field))) q = turned_outside h few a s e q

    too_low : (ns : List ℤ) → Fields Held (turned_fields h.top) ns → any_outside (map (asked_of h.top) (turned_fields h.top)) ns ≡ false
        → (place : ℕ) (r : Refusal) → level_held place (turns_level Rising 3) h.top (held_at h (turned_fields h.top) ns 1) (held_at h (turned_fields h.top) ns 2) ≡ Err r
        → range_of Rising h (word Enc) ns ≡ false
    too_low ns (field (number a) (field (number s) (field (number e) no_field))) q place r v = turned_low h few a s e q place r (sym (turns_so h few a s e q place) ∙ v)

    level_held_lem : (ns : List ℤ) → Fields Held (turned_fields h.top) ns → any_outside (map (asked_of h.top) (turned_fields h.top)) ns ≡ false
        → (place : ℕ) (z : ℤ) → level_held place (turns_level Rising 3) h.top (held_at h (turned_fields h.top) ns 1) (held_at h (turned_fields h.top) ns 2) ≡ Ok z
        → LevelFits Rising h (word Enc) (turned_fields h.top) ns z
    level_held_lem ns (field (number a) (field (number s) (field (number e) no_field))) q place z v = turned_fits h few a s e q place z (sym (turns_so h few a s e q place) ∙ v)

    smalls : (ns : List ℤ) → Fields Held (turned_fields h.top) ns → any_outside (map (asked_of h.top) (turned_fields h.top)) ns ≡ false
        → (j : ℕ) → Small (held_at h (turned_fields h.top) ns j)
    smalls ns (field (number a) (field (number s) (field (number e) no_field))) q j = small_at h few a s e q j

    unsigned : (ns : List ℤ) → Fields Held (turned_fields h.top) ns → any_outside (map (asked_of h.top) (turned_fields h.top)) ns ≡ false
        → T (non_neg (held_at h (turned_fields h.top) ns 2))
    unsigned ns (field (number a) (field (number s) (field (number e) no_field))) q = subst (λ (z : ℤ). T (non_neg z)) (sym (level_at h few a s e q)) tt

-- ---- each word
pub asking : (levels : Levels) (h : Header) → h.top ≤ 60 → (v : ListedWord) → Asking levels h v
unfolding turns_level
asking Falling h few v = asking_stays Falling h few v refl
asking Rising h few ds = asking_stays Rising h few ds refl
asking Rising h few (word In) = asking_stays Rising h few (word In) refl
asking Rising h few (word Const) = asking_stays Rising h few (word Const) refl
asking Rising h few (word Neg) = asking_stays Rising h few (word Neg) refl
asking Rising h few (word Rot) = asking_stays Rising h few (word Rot) refl
asking Rising h few (word Add) = asking_stays Rising h few (word Add) refl
asking Rising h few (word Mul) = asking_stays Rising h few (word Mul) refl
asking Rising h few (word Out) = asking_stays Rising h few (word Out) refl
asking Rising h few (word Enc) = asking_turned h few
asking Rising h few (word Rs) = asking_stays Rising h few (word Rs) refl
asking Rising h few (word Ms) = asking_stays Rising h few (word Ms) refl
asking Rising h few (word Us) = asking_stays Rising h few (word Us) refl
asking Rising h few (word NoWord) = asking_stays Rising h few (word NoWord) refl
