-- A line as the code goes along it: its first field, and the numbers of the fields after it. Assumes nothing.
use Prim.Native.Nat.{ℕ, ◌≤◌}
use native.Mathlib.Decide.{ℕ_discrete}
use native.Mathlib.Omega.{arith}
use mathlib.Core.Bool.{Bool, true, false, cond}
use mathlib.Core.Path.{◌≡◌, refl, sym, ap, ◌∙◌}
use mathlib.Core.List.{List, [], ◌∷◌, ◌++◌}
use mathlib.Core.Option.{Option, none, some}
use borrow.Author.Tests.{ne_eqb}
use lib.Dec.{eqb}
use lib.IntN.{ℤ}
use lib.ListN.{length, take, drop}
use Rattle.fields.specs.Pieces.{Bytes, tab, split, in_front}
use Rattle.fields.specs.Numbers.{is_digit, number_of, without_minus, amount_of}
use Rattle.fields.specs.Digits.{digits_in, amount_in}
use Rattle.fields.proofs.Each as E
use Rattle.fields.proofs.Each.{Each}
use Rattle.fields.proofs.PieceLaws.{split_some}
use Rattle.fields.proofs.DigitLaws.{Digit}
use Rattle.fields.proofs.SpanLaws.{DigitOr, digit, other, digit_or, is_digit_lem, digits_in_more, digits_in_other, digit_by_digit, amount_in_plain}
use Rattle.fields.proofs.NumberLaws.{decimal_number, decimal_digits, amount_read, AmountRead, as_number, after_minus_lem}
use Rattle.rows.specs.Fields.{Holds, operand, amount, read_field, both, read_fields}
use Rattle.forms.specs.Along.{line_in, is_closed, numbers_in}

-- ---- a byte is a line feed, a tab or another
pub data ByteIs (b : ℕ) : Type 0 where
  a_line_feed : b ≡ 10 → ByteIs b
  a_tab : b ≡ 9 → ByteIs b
  another : eqb b 9 ≡ false → eqb b 10 ≡ false → ByteIs b

pub byte_is : (b : ℕ) → ByteIs b
byte_is b =
    elim (ℕ_discrete b 10) [
      | yes e ↦ a_line_feed e
      | no n ↦ elim (ℕ_discrete b 9) [ yes e ↦ a_tab e | no m ↦ another (ne_eqb b 9 m) (ne_eqb b 10 n) ]
    ]

-- ---- a field that begins with b, then the others
module _ (g : Bytes → Option ℤ) (fs : List Holds) where
  -- the first field by g, the others by their description
  abbrev first_then : List Bytes → Option (List ℤ)
  first_then [] = none
  first_then (p ∷ ps) = both (g p) (read_fields fs ps)

  unfoldable reading : Bytes → Option (List ℤ)
  reading u = cond (is_closed u) (first_then (split tab (line_in u))) none

both_none : (o : Option ℤ) → both o none ≡ none
both_none none = refl
both_none (some z) = refl

reads_nothing : (g : Bytes → Option ℤ) (fs : List Holds) → reading g fs [] ≡ both (g []) (numbers_in fs [])
unfolding reading is_closed numbers_in
reads_nothing g fs = sym (both_none (g []))

reads_first : (f : Holds) (fs : List Holds) (u : Bytes) → numbers_in (f ∷ fs) (9 ∷ u) ≡ reading (read_field f) fs u
unfolding numbers_in reading read_fields
reads_first f fs u = ap (λ (o : Option (List ℤ)). cond (is_closed u) o none) (go (split tab (line_in u)))
  where
    go : (ps : List Bytes) → read_fields (f ∷ fs) ps ≡ first_then (read_field f) fs ps
    go [] = refl
    go (p ∷ ps) = refl

-- a byte that ends no field stands in front of the first
module _ (g : Bytes → Option ℤ) (fs : List Holds) (b : ℕ) (bs : Bytes) where
  reads_on : eqb b 9 ≡ false → eqb b 10 ≡ false → reading g fs (b ∷ bs) ≡ reading (λ f. g (b ∷ f)) fs bs
  unfolding reading is_closed line_in split
  reads_on n m = rw (m, n) (go (is_closed bs) (split tab (line_in bs)) (split_some tab (line_in bs)))
    where
      go : (t : Bool) (ps : List Bytes) → 1 ≤ length ps → cond t (first_then g fs (in_front b ps)) none ≡ cond t (first_then (λ f. g (b ∷ f)) fs ps) none
      go t [] h = absurd (omega arith)
      go t (p ∷ ps) h = refl

  -- the digits end here: at a tab or a line feed they are the whole field
  stops_line_feed : b ≡ 10 → reading g fs (b ∷ bs) ≡ both (g []) (numbers_in fs (b ∷ bs))
  unfolding reading is_closed line_in split numbers_in
  stops_line_feed e = rw e

  stops_tab : b ≡ 9 → reading g fs (b ∷ bs) ≡ both (g []) (numbers_in fs (b ∷ bs))
  unfolding reading is_closed line_in split numbers_in
  stops_tab e = rw e (go (is_closed bs))
    where
      go : (t : Bool) → cond t (both (g []) (read_fields fs (split tab (line_in bs)))) none ≡ both (g []) (cond t (read_fields fs (split tab (line_in bs))) none)
      go true = refl
      go false = sym (both_none (g []))

  -- before any other byte they are no number
  stops_other : eqb b 9 ≡ false → eqb b 10 ≡ false → ((w : Bytes) → g (b ∷ w) ≡ none) → reading g fs (b ∷ bs) ≡ both (g []) (numbers_in fs (b ∷ bs))
  unfolding reading is_closed line_in split numbers_in
  stops_other n m no_number = rw (m, n) (go (is_closed bs) (split tab (line_in bs)) ∙ sym (both_none (g [])))
    where
      none_then : (p : Bytes) (ps : List Bytes) → both (g (b ∷ p)) (read_fields fs ps) ≡ none
      none_then p ps = rw (no_number p)

      go : (t : Bool) (ps : List Bytes) → cond t (first_then g fs (in_front b ps)) none ≡ none
      go true [] = none_then [] []
      go true (p ∷ ps) = none_then p ps
      go false ps = refl

  stops : ((w : Bytes) → eqb b 9 ≡ false → eqb b 10 ≡ false → g (b ∷ w) ≡ none) → reading g fs (b ∷ bs) ≡ both (g []) (numbers_in fs (b ∷ bs))
  stops no_number = go (byte_is b)
    where
      go : ByteIs b → reading g fs (b ∷ bs) ≡ both (g []) (numbers_in fs (b ∷ bs))
      go (a_line_feed e) = stops_line_feed e
      go (a_tab e) = stops_tab e
      go (another n m) = stops_other n m (λ w. no_number w n m)

-- ---- digits, then the byte after them
-- no number has a byte that is no digit
abbrev Digits : (Bytes → Option ℤ) → Type 0
Digits g = (p : Bytes) (b : ℕ) (w : Bytes) → is_digit b ≡ false → g (p ++ (b ∷ w)) ≡ none

digits_along : (fs : List Holds) (u : Bytes) (g : Bytes → Option ℤ) → Digits g → reading g fs u ≡ both (g (take (digits_in u) u)) (numbers_in fs (drop (digits_in u) u))
unfolding digits_in
digits_along fs =
    digit_by_digit (λ u. (g : Bytes → Option ℤ) → Digits g → reading g fs u ≡ both (g (take (digits_in u) u)) (numbers_in fs (drop (digits_in u) u))) empty more stop
  where
    empty : (g : Bytes → Option ℤ) → Digits g → reading g fs [] ≡ both (g []) (numbers_in fs [])
    empty g d = reads_nothing g fs

    more : (b : ℕ) (bs : Bytes) → Digit b → ((g : Bytes → Option ℤ) → Digits g → reading g fs bs ≡ both (g (take (digits_in bs) bs)) (numbers_in fs (drop (digits_in bs) bs)))
        → (g : Bytes → Option ℤ) → Digits g → reading g fs (b ∷ bs) ≡ both (g (take (digits_in (b ∷ bs)) (b ∷ bs))) (numbers_in fs (drop (digits_in (b ∷ bs)) (b ∷ bs)))
    more b bs d ih g all =
        rw (digits_in_more b bs d)
        (reads_on g fs b bs (ne_eqb b 9 (λ e. omega arith)) (ne_eqb b 10 (λ e. omega arith)) ∙ ih (λ f. g (b ∷ f)) (λ p c w n. all (b ∷ p) c w n))

    stop : (b : ℕ) (bs : Bytes) → is_digit b ≡ false → (g : Bytes → Option ℤ) → Digits g
        → reading g fs (b ∷ bs) ≡ both (g (take (digits_in (b ∷ bs)) (b ∷ bs))) (numbers_in fs (drop (digits_in (b ∷ bs)) (b ∷ bs)))
    stop b bs n g all = rw (digits_in_other b bs n) (stops g fs b bs (λ w x y. all [] b w n))

-- ---- which bytes a number has
each_at : {P : ℕ → Type 0} (p : Bytes) (b : ℕ) (w : Bytes) → Each P (p ++ (b ∷ w)) → P b
each_at [] b w (E.one h hs) = h
each_at (c ∷ p) b w (E.one h hs) = each_at p b w hs

no_digit : {X : Type 0} {b : ℕ} → Digit b → is_digit b ≡ false → X
no_digit {b = b} d n = let t = is_digit_lem b d in absurd (let z : ◌≡◌ {A = ℕ} 0 1 = cc in omega arith)

number_bytes : (f : Bytes) {n : ℕ} → number_of f ≡ some n → Each Digit f
number_bytes f {n} e = rw (← decimal_number f e) (decimal_digits n)

number_reads : Digits (λ f. without_minus (number_of f))
number_reads p b w n = go (number_of (p ++ (b ∷ w))) refl
  where
    go : (r : Option ℕ) → number_of (p ++ (b ∷ w)) ≡ r → without_minus r ≡ none
    go none e = refl
    go (some m) e = no_digit (each_at p b w (number_bytes (p ++ (b ∷ w)) e)) n

tail_bytes : {f : Bytes} {t : ℤ} → AmountRead f t → Each Digit (drop 1 f)
tail_bytes (as_number {f = f} e) = go f (number_bytes f e)
  where
    go : (f : Bytes) → Each Digit f → Each Digit (drop 1 f)
    go [] ds = E.none
    go (b ∷ bs) (E.one d ds) = ds
tail_bytes (after_minus_lem {bs = bs} e) = number_bytes bs e

head_byte : (b : ℕ) (w : Bytes) {t : ℤ} → (b ≡ 45 → ⊥) → AmountRead (b ∷ w) t → Digit b
head_byte b w n read = go read refl n
  where
    go : {f : Bytes} {t : ℤ} → AmountRead f t → f ≡ b ∷ w → (b ≡ 45 → ⊥) → Digit b
    go (as_number {f = f} e) same n = E.each_first (rw same at (number_bytes f e))
    go (after_minus_lem {bs = bs} e) same n = absurd (n (let s : b ≡ 45 = cc in s))

amount_tail_reads : (c : ℕ) → Digits (λ f. amount_of (c ∷ f))
amount_tail_reads c p b w n = go (amount_of (c ∷ (p ++ (b ∷ w)))) refl
  where
    go : (r : Option ℤ) → amount_of (c ∷ (p ++ (b ∷ w))) ≡ r → r ≡ none
    go none e = refl
    go (some t) e = no_digit (each_at p b w (tail_bytes (amount_read (c ∷ (p ++ (b ∷ w))) e))) n

amount_head_reads : (b : ℕ) (w : Bytes) → (b ≡ 45 → ⊥) → is_digit b ≡ false → amount_of (b ∷ w) ≡ none
amount_head_reads b w m n = go (amount_of (b ∷ w)) refl
  where
    go : (r : Option ℤ) → amount_of (b ∷ w) ≡ r → r ≡ none
    go none e = refl
    go (some t) e = no_digit (head_byte b w m (amount_read (b ∷ w) e)) n

-- ---- a number with a sign, or without, then the byte after it
amount_along :
    (fs : List Holds) (u : Bytes) →
    reading amount_of fs u ≡ both (amount_of (take (amount_in u) u)) (numbers_in fs (drop (amount_in u) u))
unfolding amount_in
amount_along fs [] = reads_nothing amount_of fs
amount_along fs (b ∷ bs) =
    elim (ℕ_discrete b 45) [
      | yes e ↦ rw e (reads_on amount_of fs 45 bs refl refl ∙ digits_along fs bs (λ f. amount_of (45 ∷ f)) (amount_tail_reads 45))
      | no m ↦ rw (amount_in_plain b bs m) (go m (digit_or b))
    ]
  where
    go : (b ≡ 45 → ⊥) → DigitOr b →
        reading amount_of fs (b ∷ bs)
        ≡ both (amount_of (take (digits_in (b ∷ bs)) (b ∷ bs))) (numbers_in fs (drop (digits_in (b ∷ bs)) (b ∷ bs)))
    go m (digit d) =
        rw (digits_in_more b bs d)
        (reads_on amount_of fs b bs (ne_eqb b 9 (λ e. omega arith)) (ne_eqb b 10 (λ e. omega arith))
        ∙ digits_along fs bs (λ f. amount_of (b ∷ f)) (amount_tail_reads b))
    go m (other n) = rw (digits_in_other b bs n) (stops amount_of fs b bs (λ w x y. amount_head_reads b w m n))

pub number_field :
    (fs : List Holds) (u : Bytes) →
    numbers_in (operand ∷ fs) (9 ∷ u) ≡ both (without_minus (number_of (take (digits_in u) u))) (numbers_in fs (drop (digits_in u) u))
number_field fs u = reads_first operand fs u ∙ digits_along fs u (λ f. without_minus (number_of f)) number_reads

pub amount_field :
    (most : ℕ) (fs : List Holds) (u : Bytes) →
    numbers_in (amount most ∷ fs) (9 ∷ u) ≡ both (amount_of (take (amount_in u) u)) (numbers_in fs (drop (amount_in u) u))
amount_field most fs u = reads_first (amount most) fs u ∙ amount_along fs u
