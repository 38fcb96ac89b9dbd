-- The numbers of fields as they are held: a line whose numbers are held to their ranges is judged as the line that was read. Assumes nothing.
use Prim.Native.Nat.{ℕ, zero, suc, ◌≤◌}
use native.Mathlib.Decide.{dec_le}
use native.Mathlib.Omega.{arith}
use mathlib.Core.Path.{◌≡◌, refl, sym, ap, ap₂, ◌∙◌, subst}
use mathlib.Core.Bool.{Bool, true, false, cond, not, ◌&&◌, ◌||◌}
use mathlib.Core.List.{List, [], ◌∷◌, map}
use borrow.Author.Tests.{le-leb, lt-leb, lt-ltb, le-ltb}
use lib.Dec.{T, leb, ltb, leb→le, nleb→lt}
use lib.IntN.{ℤ, pos, negsuc, neg_ℤ, nat_abs}
use lib.Signed.{le_z, lt_z, non_neg}
use lib.ListN.{length, get_or, get_or-eq_default}
use mir.Syntax.{w16}
use mir.Val.{SFits}
use Rattle.ints.specs.Parts.{positive}
use Rattle.std.specs.Prelude.{Some, None}
use Rattle.rows.specs.Fields.{Holds, operand, ranged, up_to_top, amount, within, in_range, all_in_range}
use Rattle.rows.proofs.FieldLaws.{Natural, number, Held, Fields, no_field, field}
use Rattle.model.specs.declared.Grammar.{Grammar}
use Rattle.model.specs.declared.Line.{Line}
use Rattle.model.specs.declared.Line.TheVariants.{Free}
use Rattle.model.specs.declared.Word.TheVariants.{Const, Rot}
use Rattle.model.specs.Words.{entry, is_operand, operands_among}
use Rattle.model.specs.Numbering.{same_word}
use Rattle.model.specs.Files.{operands, kind_at, is_usable, every_usable}
use Rattle.model.proofs.Tests.{and_first, and_second}
use Rattle.model.proofs.Formed.{usable_below}
use Rattle.model.proofs.EveryWord.{every, every_word_lem, each_word}
use Rattle.listings.specs.Listings.{ListedWord, word, ds, word_fields}
use Rattle.forms.proofs.TextLaws.{is_signed, Small}
use Rattle.words.specs.Words.{row_of, held_word, row_in}
use Rattle.judging.specs.Judging.{NumbersFit, judged_as}
use Rattle.lines.specs.Lines.{asked_by}
use Rattle.forms.specs.Asked as A
use Rattle.forms.specs.Asked.{below_or_above, held_as, Asked, value, asked_at, outside_in, size_in, any_outside, all_held}

-- ---- what is asked of a field that holds this, under a top level
abbrev pub asked_of : ℕ → Holds → Asked
asked_of top operand = value
asked_of top (ranged low high) = A.number (pos low) high
asked_of top up_to_top = A.number (pos 1) top
asked_of top (amount most) = A.number (neg_ℤ (pos most)) most

-- a word's row says so
pub row_asked : (top : ℕ) (v : ListedWord) → asked_by false (row_in v) top ≡ map (asked_of top) (word_fields v)
unfolding asked_at
row_asked top (word w) = each_word (λ u. asked_by false (row_of u) top) (λ u. map (asked_of top) (entry u).fields) refl w
row_asked top ds = refl

-- what is told of every word of a listing
pub every_listed : (p : ListedWord → Bool) → T (every (λ w. p (word w)) && p ds) → (v : ListedWord) → T (p v)
every_listed p t (word w) = every_word_lem (λ u. p (word u)) (and_first (every (λ u. p (word u))) (p ds) t) w
every_listed p t ds = and_second (every (λ u. p (word u))) (p ds) t

-- ---- a number in its range is not outside it
not_less : (l m : ℕ) → leb l m ≡ not (ltb m l)
not_less l m = elim (dec_le l m) [ yes h ↦ le-leb l m h ∙ sym (ap not (le-ltb m l h)) | no h ↦ lt-leb l m (omega arith) ∙ sym (ap not (lt-ltb m l (omega arith))) ]

and_true : (b : Bool) → (b && true) ≡ b
and_true true = refl
and_true false = refl

and_false : (b : Bool) → (b && false) ≡ false
and_false true = refl
and_false false = refl

natural_in : (l h m : ℕ) → within l h m ≡ not (outside_in (A.number (pos l) h) (size_in (A.number (pos l) h) (pos m)))
natural_in l h m = go (leb m h)
  where
    go : (b : Bool) → (leb l m && b) ≡ not (below_or_above (pos l) (cond b (Some (pos m)) None))
    go true = and_true (leb l m) ∙ not_less l m
    go false = and_false (leb l m)

amount_in_lem : (most : ℕ) (n : ℤ) → (le_z (neg_ℤ (pos most)) n && le_z n (pos most)) ≡ not (outside_in (A.number (neg_ℤ (pos most)) most) (size_in (A.number (neg_ℤ (pos most)) most) n))
amount_in_lem most (pos m) = first most ∙ go (leb m most)
  where
    first : (k : ℕ) → (le_z (neg_ℤ (pos k)) (pos m) && leb m k) ≡ leb m k
    first zero = ap (λ (b : Bool). b && leb m 0) (le-leb 0 m (omega arith))
    first (suc k) = refl

    least : (k : ℕ) → lt_z (pos m) (neg_ℤ (pos k)) ≡ false
    least zero = le-ltb m 0 (omega arith)
    least (suc k) = refl

    go : (b : Bool) → b ≡ not (below_or_above (neg_ℤ (pos most)) (cond b (Some (pos m)) None))
    go true = sym (ap not (least most))
    go false = refl
amount_in_lem zero (negsuc m) = rw (lt-leb (suc m) 0 (omega arith))
amount_in_lem (suc k) (negsuc m) =
    elim (dec_le m k) [
      | yes h ↦ rw (le-leb m k h, le-leb (suc m) (suc k) (omega arith), le-ltb k m h)
      | no h ↦ rw (lt-leb m k (omega arith), lt-leb (suc m) (suc k) (omega arith))
    ]

field_in_lem : (top : ℕ) (f : Holds) (n : ℤ) → Held f n → in_range top f n ≡ not (outside_in (asked_of top f) (size_in (asked_of top f) n))
field_in_lem top operand n h = refl
field_in_lem top (ranged low high) n (number m) = natural_in low high m
field_in_lem top up_to_top n (number m) = natural_in 1 top m
field_in_lem top (amount most) n h = amount_in_lem most n

not_or : (a b : Bool) → (not a && not b) ≡ not (a || b)
not_or true b = refl
not_or false b = refl

or_false : (b : Bool) → (b || false) ≡ b
or_false true = refl
or_false false = refl

pub all_in_lem : (top : ℕ) {fs : List Holds} {ns : List ℤ} → Fields Held fs ns → all_in_range top fs ns ≡ not (any_outside (map (asked_of top) fs) ns)
all_in_lem top no_field = refl
all_in_lem top (field {f = f} {n = n} h no_field) = field_in_lem top f n h ∙ ap not (sym (or_false (outside_in (asked_of top f) (size_in (asked_of top f) n))))
all_in_lem top (field {f = f} {n = n} {ns = ns} h (field {f = f'} {n = n'} {fs = fs} {ns = ns'} h' hs)) =
    ap₂ (λ (a b : Bool). a && b) (field_in_lem top f n h) (all_in_lem top (field h' hs))
    ∙ not_or (outside_in (asked_of top f) (size_in (asked_of top f) n)) (any_outside (map (asked_of top) (f' ∷ fs)) (n' ∷ ns'))

-- ---- one number as it is held
-- the largest that a field's number is held as, under a top level of at most 60
abbrev most_of : Holds → ℕ
most_of operand = 1792
most_of (ranged low high) = high
most_of up_to_top = 60
most_of (amount most) = most

abbrev AtMost : Holds → ℤ → Type 0
AtMost f m = nat_abs m ≤ most_of f

record HeldAs (f : Holds) (n m : ℤ) : Type 0 where
  held : Held f m
  most : nat_abs m ≤ most_of f

-- a number that is not outside its range is held as it is
inside : (least : ℤ) (largest : ℕ) (n : ℤ) → below_or_above least (cond (leb (nat_abs n) largest) (Some n) None) ≡ false → leb (nat_abs n) largest ≡ true
inside least largest n e = go (leb (nat_abs n) largest) e
  where
    go : (b : Bool) → below_or_above least (cond b (Some n) None) ≡ false → b ≡ true
    go true e = refl
    go false e = absurd (let z : ◌≡◌ {A = ℕ} 0 1 = cc in omega arith)

kept_as_lem : (largest : ℕ) (n : ℤ) → leb (nat_abs n) largest ≡ true → held_as (cond (leb (nat_abs n) largest) (Some n) None) ≡ n
kept_as_lem largest n e = rw e

least_most : (largest : ℕ) (n : ℤ) → leb (nat_abs n) largest ≡ true → nat_abs n ≤ largest
least_most largest n e = leb→le (nat_abs n) largest (subst T (sym e) tt)

record Parts (a b : Bool) : Type 0 where
  first : a ≡ false
  second : b ≡ false

module _ (top : ℕ) (few : top ≤ 60) where
  same_as : (f : Holds) (n : ℤ) → T (not (is_operand f)) → outside_in (asked_of top f) (size_in (asked_of top f) n) ≡ false → held_as (size_in (asked_of top f) n) ≡ n
  same_as operand n t e = absurd t
  same_as (ranged low high) n t e = kept_as_lem high n (inside (pos low) high n e)
  same_as up_to_top n t e = kept_as_lem top n (inside (pos 1) top n e)
  same_as (amount most) n t e = kept_as_lem most n (inside (neg_ℤ (pos most)) most n e)

  held_as_lem : (f : Holds) (n : ℤ) → Held f n → outside_in (asked_of top f) (size_in (asked_of top f) n) ≡ false → HeldAs f n (held_as (size_in (asked_of top f) n))
  held_as_lem operand n (number a) e = go (leb a 1791) refl
    where
      go : (b : Bool) → leb a 1791 ≡ b → HeldAs operand (pos a) (held_as (cond b (Some (pos a)) None))
      go true q = record { held = number a; most = omega (arith, leb→le a 1791 (subst T (sym q) tt)) }
      go false q = record { held = number 1792; most = omega arith }
  held_as_lem (ranged low high) n h e =
      let is = inside (pos low) high n e in
      subst (HeldAs (ranged low high) n) (sym (kept_as_lem high n is)) (record { held = h; most = least_most high n is })
  held_as_lem up_to_top n h e =
      let is = inside (pos 1) top n e in
      subst (HeldAs up_to_top n) (sym (kept_as_lem top n is)) (record { held = h; most = omega (arith, least_most top n is) })
  held_as_lem (amount most) n h e =
      let is = inside (neg_ℤ (pos most)) most n e in
      subst (HeldAs (amount most) n) (sym (kept_as_lem most n is)) (record { held = h; most = least_most most n is })

  -- ---- all of them
  parts : (a b : Bool) → (a || b) ≡ false → Parts a b
  parts true b e = absurd (let z : ◌≡◌ {A = ℕ} 0 1 = cc in omega arith)
  parts false b e = record { first = refl; second = e }

  pub all_held_lem : {fs : List Holds} {ns : List ℤ} → Fields Held fs ns → any_outside (map (asked_of top) fs) ns ≡ false → Fields Held fs (all_held (map (asked_of top) fs) ns)
  all_held_lem no_field e = no_field
  all_held_lem (field {f = f} {n = n} {fs = fs} {ns = ns} h hs) e =
      let p = parts (outside_in (asked_of top f) (size_in (asked_of top f) n)) (any_outside (map (asked_of top) fs) ns) e in
      field (held_as_lem f n h p.first).held (all_held_lem hs p.second)

  all_most : {fs : List Holds} {ns : List ℤ} → Fields Held fs ns → any_outside (map (asked_of top) fs) ns ≡ false → Fields AtMost fs (all_held (map (asked_of top) fs) ns)
  all_most no_field e = no_field
  all_most (field {f = f} {n = n} {fs = fs} {ns = ns} h hs) e =
      let p = parts (outside_in (asked_of top f) (size_in (asked_of top f) n)) (any_outside (map (asked_of top) fs) ns) e in
      field (held_as_lem f n h p.first).most (all_most hs p.second)

  -- ---- operands: a number above every line's names none, whatever it is held as
  module _ (lines : List Line) (short : length lines ≤ 1792) where
    names_none : (a : ℕ) → length lines ≤ a → is_usable (kind_at lines a) ≡ false
    names_none a h = rw (get_or-eq_default lines Free h)

    operand_as : (a : ℕ) → is_usable (kind_at lines (positive (held_as (cond (leb a 1791) (Some (pos a)) None)))) ≡ is_usable (kind_at lines a)
    operand_as a = go (leb a 1791) refl
      where
        go : (b : Bool) → leb a 1791 ≡ b → is_usable (kind_at lines (positive (held_as (cond b (Some (pos a)) None)))) ≡ is_usable (kind_at lines a)
        go true q = refl
        go false q = names_none 1792 short ∙ sym (names_none a (omega (arith, nleb→lt a 1791 (subst (λ (u : Bool). T (not u)) (sym q) tt))))

    usable_as : {fs : List Holds} {ns : List ℤ} → Fields Held fs ns
        → every_usable lines (operands_among fs (all_held (map (asked_of top) fs) ns)) ≡ every_usable lines (operands_among fs ns)
    usable_as no_field = refl
    usable_as (field {f = operand} (number a) hs) = ap₂ (λ (u v : Bool). u && v) (operand_as a) (usable_as hs)
    usable_as (field {f = ranged low high} h hs) = usable_as hs
    usable_as (field {f = up_to_top} h hs) = usable_as hs
    usable_as (field {f = amount most} h hs) = usable_as hs

    one_same : (f : Holds) (n : ℤ) (fs : List Holds) (ns : List ℤ) → T (not (is_operand f)) → any_outside (map (asked_of top) (f ∷ fs)) (n ∷ ns) ≡ false
        → (any_outside (map (asked_of top) fs) ns ≡ false → all_held (map (asked_of top) fs) ns ≡ ns) → all_held (map (asked_of top) (f ∷ fs)) (n ∷ ns) ≡ n ∷ ns
    one_same f n fs ns t e more =
        let p = parts (outside_in (asked_of top f) (size_in (asked_of top f) n)) (any_outside (map (asked_of top) fs) ns) e in
        ap₂ (λ (m : ℤ) (ms : List ℤ). m ∷ ms) (same_as f n t p.first) (more p.second)

    pub all_same : {fs : List Holds} {ns : List ℤ} → Fields Held fs ns → any_outside (map (asked_of top) fs) ns ≡ false → T (every_usable lines (operands_among fs ns))
        → all_held (map (asked_of top) fs) ns ≡ ns
    all_same no_field e u = refl
    all_same (field {f = operand} {fs = fs} {ns = ns} (number a) hs) e u =
        let low = usable_below lines a (and_first (is_usable (kind_at lines a)) (every_usable lines (operands_among fs ns)) u) in
        ap₂ (λ (m : ℤ) (ms : List ℤ). m ∷ ms) (kept_as_lem 1791 (pos a) (le-leb a 1791 (omega arith)))
        (all_same hs e (and_second (is_usable (kind_at lines a)) (every_usable lines (operands_among fs ns)) u))
    all_same (field {f = ranged low high} {n = n} {fs = fs} {ns = ns} h hs) e u = one_same (ranged low high) n fs ns tt e (λ q. all_same hs q u)
    all_same (field {f = up_to_top} {n = n} {fs = fs} {ns = ns} h hs) e u = one_same up_to_top n fs ns tt e (λ q. all_same hs q u)
    all_same (field {f = amount most} {n = n} {fs = fs} {ns = ns} h hs) e u = one_same (amount most) n fs ns tt e (λ q. all_same hs q u)

    -- ---- the line is judged as the one that was read
    module _ (g : Grammar) (fs : List Holds) (make : List ℤ → Line) (names : (ms : List ℤ) → Fields Held fs ms → operands (make ms) ≡ operands_among fs ms)
        {ns : List ℤ} (held : Fields Held fs ns) (range_held : any_outside (map (asked_of top) fs) ns ≡ false) where
      abbrev hs : List ℤ
      hs = all_held (map (asked_of top) fs) ns

      pub judged_same : judged_as g lines (make hs) ≡ judged_as g lines (make ns)
      unfolding judged_as
      judged_same = go (every_usable lines (operands_among fs ns)) refl
        where
          usable : every_usable lines (operands (make hs)) ≡ every_usable lines (operands_among fs ns)
          usable = ap (every_usable lines) (names hs (all_held_lem held range_held)) ∙ usable_as held

          go : (b : Bool) → every_usable lines (operands_among fs ns) ≡ b → judged_as g lines (make hs) ≡ judged_as g lines (make ns)
          go true e = ap (λ (ms : List ℤ). judged_as g lines (make ms)) (all_same held range_held (subst T (sym e) tt))
          go false e = rw (usable, ap (every_usable lines) (names ns held), e)

-- ---- the numbers fit a record
most_at : {fs : List Holds} {ms : List ℤ} → Fields AtMost fs ms → (j : ℕ) → nat_abs (get_or ms j (pos 0)) ≤ most_of (get_or fs j operand)
most_at no_field j = omega arith
most_at (field b bs) zero = b
most_at (field b bs) (suc j) = most_at bs j

natural_at : {fs : List Holds} {ns : List ℤ} → Fields Held fs ns → (j : ℕ) → T (not (is_signed (get_or fs j operand))) → T (non_neg (get_or ns j (pos 0)))
natural_at no_field j t = tt
natural_at (field {f = f} {n = n} {fs = fs} {ns = ns} h hs) (suc j) t = natural_at hs j t
natural_at (field {f = f} {n = n} h hs) zero t = here f n h t
  where
    unsigned : {n : ℤ} → Natural n → T (non_neg n)
    unsigned (number m) = tt

    here : (f : Holds) (n : ℤ) → Held f n → T (not (is_signed f)) → T (non_neg n)
    here operand n h t = unsigned h
    here (ranged low high) n h t = unsigned h
    here up_to_top n h t = unsigned h
    here (amount most) n h t = absurd t

abbrev all_low : List Holds → Bool
all_low [] = true
all_low (f ∷ fs) = leb (most_of f) 4294967295 && all_low fs

all_low_lem : (fs : List Holds) → T (all_low fs) → (j : ℕ) → most_of (get_or fs j operand) ≤ 4294967295
all_low_lem [] t j = omega arith
all_low_lem (f ∷ fs) t zero = leb→le (most_of f) 4294967295 (and_first (leb (most_of f) 4294967295) (all_low fs) t)
all_low_lem (f ∷ fs) t (suc j) = all_low_lem fs (and_second (leb (most_of f) 4294967295) (all_low fs) t) j

unless : (a b : Bool) → a ≡ false → T (a || b) → T b
unless true b e t = absurd (let z : ◌≡◌ {A = ℕ} 0 1 = cc in omega arith)
unless false b e t = t

amount_fits : (z : ℤ) → nat_abs z ≤ 32767 → SFits w16 z
amount_fits (pos n) h = record { sfits = omega arith }
amount_fits (negsuc n) h = record { sfits = omega arith }

-- a rotation's amount is short: a test over the table
amount_short : (v : ListedWord) → T (same_word (held_word v) Rot) → T (leb (most_of (get_or (word_fields v) 1 operand)) 32767)
amount_short v t = go (same_word (held_word v) Rot) t (every_listed (λ u. not (same_word (held_word u) Rot) || leb (most_of (get_or (word_fields u) 1 operand)) 32767) tt v)
  where
    go : (b : Bool) → T b → T (not b || leb (most_of (get_or (word_fields v) 1 operand)) 32767) → T (leb (most_of (get_or (word_fields v) 1 operand)) 32767)
    go true u t = t
    go false u t = absurd u

module _ (top : ℕ) (few : top ≤ 60) (v : ListedWord) {ns : List ℤ} (held : Fields Held (word_fields v) ns)
    (range_held : any_outside (map (asked_of top) (word_fields v)) ns ≡ false) where
  abbrev held_numbers : List ℤ
  held_numbers = all_held (map (asked_of top) (word_fields v)) ns

  abbrev at : ℕ → ℤ
  at j = get_or held_numbers j (pos 0)

  most : (j : ℕ) → nat_abs (at j) ≤ most_of (get_or (word_fields v) j operand)
  most = most_at (all_most top few held range_held)

  unsigned : (j : ℕ) → T (not (is_signed (get_or (word_fields v) j operand))) → T (non_neg (at j))
  unsigned = natural_at (all_held_lem top few held range_held)

  -- what each word's fields hold at most: a test over the table
  short : (j n : ℕ) → T (leb (most_of (get_or (word_fields v) j operand)) n) → nat_abs (at j) ≤ n
  short j n t = omega (arith, most j, leb→le (most_of (get_or (word_fields v) j operand)) n t)

  pub held_small : (j : ℕ) → Small (at j)
  held_small j = omega (arith, most j, all_low_lem (word_fields v) (every_listed (λ u. all_low (word_fields u)) tt v) j)

  pub numbers_fit : NumbersFit (held_word v) (at 0) (at 1) (at 2)
  numbers_fit =
      record {
        one =
            record {
              unsigned = unsigned 0 (every_listed (λ u. not (is_signed (get_or (word_fields u) 0 operand))) tt v);
              constant = λ e. let m = short 0 4294967295 (every_listed (λ u. leb (most_of (get_or (word_fields u) 0 operand)) 4294967295) tt v) in record { fits = omega arith };
              number = λ e.
                  let m = short 0 65535 (unless (same_word (held_word v) Const) (leb (most_of (get_or (word_fields v) 0 operand)) 65535) e
                  (every_listed (λ u. same_word (held_word u) Const || leb (most_of (get_or (word_fields u) 0 operand)) 65535) tt v)) in
                  record { fits = omega arith };
            };
        two =
            record {
              amount = λ e.
                  amount_fits (at 1)
                  (short 1 32767 (amount_short v (subst T (sym e) tt)));
              number = λ e.
                  let m = short 1 65535 (every_listed (λ u. leb (most_of (get_or (word_fields u) 1 operand)) 65535) tt v) in
                  record {
                    unsigned = unsigned 1 (unless (same_word (held_word v) Rot) (not (is_signed (get_or (word_fields v) 1 operand))) e
                        (every_listed (λ u. same_word (held_word u) Rot || not (is_signed (get_or (word_fields u) 1 operand))) tt v));
                    fits = record { fits = omega arith };
                  };
            };
        three =
            let m = short 2 65535 (every_listed (λ u. leb (most_of (get_or (word_fields u) 2 operand)) 65535) tt v) in
            record {
              unsigned = unsigned 2 (every_listed (λ u. not (is_signed (get_or (word_fields u) 2 operand))) tt v);
              fits = record { fits = omega arith };
            };
      }
