-- The fields of a line: what is written is read back, and what is read is written so. Once for every description. Assumes nothing.
use Prim.{Unit}
use Prim.Native.Nat.{ℕ, zero, suc, ◌<◌, ◌≤◌, ◌^◌}
use native.Mathlib.Omega.{arith}
use mathlib.Core.Path.{◌≡◌, refl, sym, ap, ap₂, ◌∙◌, subst}
use mathlib.Core.Bool.{Bool, true, ◌&&◌}
use mathlib.Core.List.{List, [], ◌∷◌, map}
use mathlib.Core.Option.{Option, none, some}
use lib.Dec.{T, leb, ltb, leb→le, ltb→lt}
use lib.Signed.{le_z}
use lib.IntN.{ℤ, pos, negsuc, neg_ℤ, nat_abs}
use lib.ListN.{length}
use native.Mathlib.Decide.{dec_le}
use Rattle.ints.specs.Parts.{positive}
use Rattle.fields.specs.Pieces.{Bytes}
use Rattle.fields.specs.Numbers.{number_of, without_minus, amount_of, amount_text}
use Rattle.fields.proofs.Each as E
use Rattle.fields.proofs.DigitLaws.{some_is, none_some}
use Rattle.fields.proofs.Each.{Each}
use Rattle.fields.proofs.PieceLaws.{Without}
use Rattle.fields.proofs.NumberLaws.{number_decimal, decimal_number, text_amount, amount_text_plain, amount_text_minus, amount_text_without, number_form, amount_long}
use Rattle.rows.specs.Fields.{Holds, operand, ranged, up_to_top, amount, read_field, both, read_fields, within, in_range, all_in_range}
use Rattle.rows.proofs.Tests.{and_first, and_second}

-- ---- numbers of a description: as many as it has fields, and below zero only amounts
pub data Natural : ℤ → Type 0 where
  number : (n : ℕ) → Natural (pos n)

abbrev pub Held : Holds → ℤ → Type 0
Held operand n = Natural n
Held (ranged low high) n = Natural n
Held up_to_top n = Natural n
Held (amount most) n = Unit {0}

-- what holds of each field and the number in it
pub data Fields (P : Holds → ℤ → Type 0) : List Holds → List ℤ → Type 0 where
  no_field : Fields P [] []
  field : {f : Holds} {n : ℤ} {fs : List Holds} {ns : List ℤ} → P f n → Fields P fs ns → Fields P (f ∷ fs) (n ∷ ns)

-- what 11 bytes hold
abbrev pub Short : ℤ → Type 0
Short (pos n) = n < 10 ^ 11
Short (negsuc n) = suc n < 10 ^ 10

-- ---- one field
natural_forth : {n : ℤ} → Natural n → Short n → without_minus (number_of (amount_text n)) ≡ some n
natural_forth (number n) s = ap without_minus (number_decimal n s)

amount_forth : (n : ℤ) → Short n → amount_of (amount_text n) ≡ some n
amount_forth (pos n) s = amount_text_plain n s
amount_forth (negsuc n) s = amount_text_minus n s

field_forth : (f : Holds) (n : ℤ) → Held f n → Short n → read_field f (amount_text n) ≡ some n
field_forth operand n h s = natural_forth h s
field_forth (ranged low high) n h s = natural_forth h s
field_forth up_to_top n h s = natural_forth h s
field_forth (amount most) n h s = amount_forth n s

pub record FieldBack (f : Holds) (b : Bytes) (n : ℤ) : Type 0 where
  pub held : Held f n
  pub few : length b ≤ 11
  pub written : amount_text n ≡ b

natural_back : (b : Bytes) {n : ℤ} → without_minus (number_of b) ≡ some n → FieldBack operand b n
natural_back b {n} e = go (number_of b) refl e
  where
    go : (x : Option ℕ) → number_of b ≡ x → without_minus x ≡ some n → FieldBack operand b n
    go (some m) q v = subst (FieldBack operand b) (some_is v) (record { held = number m; few = (number_form b q).short; written = decimal_number b q })
    go none q v = none_some v

amount_short : (b : Bytes) {t : ℤ} → amount_of b ≡ some t → length b ≤ 11
amount_short b e = elim (dec_le (length b) 11) [ yes h ↦ h | no h ↦ none_some (sym (amount_long b (omega arith)) ∙ e) ]

field_back : (f : Holds) (b : Bytes) {n : ℤ} → read_field f b ≡ some n → FieldBack f b n
field_back operand b e = natural_back b e
field_back (ranged low high) b e = let r = natural_back b e in record { held = r.held; few = r.few; written = r.written }
field_back up_to_top b e = let r = natural_back b e in record { held = r.held; few = r.few; written = r.written }
field_back (amount most) b e = record { held = tt; few = amount_short b e; written = text_amount b e }

-- ---- all fields
pub fields_written_read : {fs : List Holds} {ns : List ℤ} → Fields Held fs ns → Each Short ns → read_fields fs (map amount_text ns) ≡ some ns
unfolding read_fields
fields_written_read no_field E.none = refl
fields_written_read (field {f = f} {n = n} h hs) (E.one s ss) = ap₂ both (field_forth f n h s) (fields_written_read hs ss)

pub record FieldsBack (fs : List Holds) (bs : List Bytes) (ns : List ℤ) : Type 0 where
  pub held : Fields Held fs ns
  pub few : Each (λ b. length b ≤ 11) bs
  pub written : map amount_text ns ≡ bs

pub fields_read_written : (fs : List Holds) (bs : List Bytes) {ns : List ℤ} → read_fields fs bs ≡ some ns → FieldsBack fs bs ns
unfolding read_fields
fields_read_written [] [] e = subst (FieldsBack [] []) (some_is e) (record { held = no_field; few = E.none; written = refl })
fields_read_written [] (b ∷ bs) e = none_some e
fields_read_written (f ∷ fs) [] e = none_some e
fields_read_written (f ∷ fs) (b ∷ bs) {ns} e = go (read_field f b) (read_fields fs bs) refl refl (λ ms. fields_read_written fs bs {ns = ms}) e
  where
    go : (x : Option ℤ) (y : Option (List ℤ)) → read_field f b ≡ x → read_fields fs bs ≡ y
        → ((ms : List ℤ) → read_fields fs bs ≡ some ms → FieldsBack fs bs ms) → both x y ≡ some ns → FieldsBack (f ∷ fs) (b ∷ bs) ns
    go none y q u ih v = none_some v
    go (some m) none q u ih v = none_some v
    go (some m) (some ms) q u ih v =
        let first = field_back f b q in
        let rest = ih ms u in
        subst (FieldsBack (f ∷ fs) (b ∷ bs)) (some_is v)
        (record { held = field first.held rest.held; few = E.one first.few rest.few; written = λ i. first.written i ∷ rest.written i })

-- more fields than are described
both_none : (o : Option ℤ) → both o none ≡ none
both_none none = refl
both_none (some n) = refl

pub fields_fewer : (fs : List Holds) (bs : List Bytes) → length fs < length bs → read_fields fs bs ≡ none
unfolding read_fields
fields_fewer fs [] fewer = absurd (omega arith)
fields_fewer [] (b ∷ bs) fewer = refl
fields_fewer (f ∷ fs) (b ∷ bs) fewer = ap (both (read_field f b)) (fields_fewer fs bs (omega arith)) ∙ both_none (read_field f b)

pub numbers_without : (x : ℕ) → x < 45 → (ns : List ℤ) → Each (Without x) (map amount_text ns)
numbers_without x low [] = E.none
numbers_without x low (n ∷ ns) = E.one (amount_text_without n x low) (numbers_without x low ns)

pub fields_length : {P : Holds → ℤ → Type 0} {fs : List Holds} {ns : List ℤ} → Fields P fs ns → length ns ≡ length fs
fields_length no_field = refl
fields_length (field p ps) = ap suc (fields_length ps)

-- ---- what is in range is at most so great, where the top level is at most `top` and value numbers are at most `most`
module _ (top most : ℕ) where
  abbrev pub greatest : Holds → ℕ
  greatest operand = most
  greatest (ranged low high) = high
  greatest up_to_top = top
  greatest (amount high) = high

  abbrev pub AtMost : Holds → ℤ → Type 0
  AtMost operand n = positive n ≤ most
  AtMost (ranged low high) n = Unit {0}
  AtMost up_to_top n = Unit {0}
  AtMost (amount high) n = Unit {0}

  natural_most : {n : ℤ} (high : ℕ) → Natural n → positive n ≤ high → nat_abs n ≤ high
  natural_most high (number n) h = h

  within_most : {n : ℤ} (low high : ℕ) → Natural n → T (within low high (positive n)) → nat_abs n ≤ high
  within_most {n} low high h r = natural_most high h (leb→le (positive n) high (and_second (leb low (positive n)) (leb (positive n) high) r))

  amount_most : (high : ℕ) (n : ℤ) → T (le_z (neg_ℤ (pos high)) n && le_z n (pos high)) → nat_abs n ≤ high
  amount_most high (pos n) r = leb→le n high (and_second (le_z (neg_ℤ (pos high)) (pos n)) (leb n high) r)
  amount_most zero (negsuc n) r = absurd r
  amount_most (suc high) (negsuc n) r = let h = leb→le n high (and_first (leb n high) true r) in omega arith

  pub record Bounded (f : Holds) (n : ℤ) : Type 0 where
    pub held : Held f n
    pub bound : nat_abs n ≤ greatest f

  module _ (level : ℕ) (low : level ≤ top) where
    field_most : (f : Holds) (n : ℤ) → Held f n → AtMost f n → T (in_range level f n) → nat_abs n ≤ greatest f
    field_most operand n h m r = natural_most most h m
    field_most (ranged low high) n h m r = within_most low high h r
    field_most up_to_top n h m r = let l = within_most 1 level h r in omega arith
    field_most (amount high) n h m r = amount_most high n r

    first_in_range : (f : Holds) (n : ℤ) (fs : List Holds) (ns : List ℤ) → T (all_in_range level (f ∷ fs) (n ∷ ns)) → T (in_range level f n)
    first_in_range f n [] ns r = r
    first_in_range f n (g ∷ fs) ns r = and_first (in_range level f n) (all_in_range level (g ∷ fs) ns) r

    rest_in_range : (f : Holds) (n : ℤ) (fs : List Holds) (ns : List ℤ) → T (all_in_range level (f ∷ fs) (n ∷ ns)) → T (all_in_range level fs ns)
    rest_in_range f n [] ns r = tt
    rest_in_range f n (g ∷ fs) ns r = and_second (in_range level f n) (all_in_range level (g ∷ fs) ns) r

    pub all_bounded : {fs : List Holds} {ns : List ℤ} → Fields Held fs ns → Fields AtMost fs ns → T (all_in_range level fs ns) → Fields Bounded fs ns
    all_bounded no_field no_field r = no_field
    all_bounded (field {f = f} {n = n} {fs = fs} {ns = ns} h hs) (field m ms) r =
        field (record { held = h; bound = field_most f n h m (first_in_range f n fs ns r) }) (all_bounded hs ms (rest_in_range f n fs ns r))

  -- so it is short, where the greatest numbers are
  abbrev pub all_small : List Holds → Bool
  all_small [] = true
  all_small (f ∷ fs) = ltb (greatest f) (10 ^ 10) && all_small fs

  number_short : (n : ℤ) → nat_abs n < 10 ^ 10 → Short n
  number_short (pos n) h = omega arith
  number_short (negsuc n) h = h

  pub all_short : {fs : List Holds} {ns : List ℤ} → T (all_small fs) → Fields Bounded fs ns → Each Short ns
  all_short s no_field = E.none
  all_short s (field {f = f} {n = n} {fs = fs} b bs) =
      let less = ltb→lt (greatest f) (10 ^ 10) (and_first (ltb (greatest f) (10 ^ 10)) (all_small fs) s) in
      E.one (number_short n (let m = b.bound in omega arith)) (all_short (and_second (ltb (greatest f) (10 ^ 10)) (all_small fs) s) bs)
