-- Number fields: what is written is read back as the same number, and what is read is written as the same bytes. Assumes nothing.
use Prim.Native.Nat.{ℕ, zero, suc, ◌+◌, ◌*◌, ◌-◌, ◌^◌, ◌≤◌, ◌<◌}
use native.Mathlib.Decide.{dec_le, ℕ_discrete}
use native.Mathlib.Nat.{pow-le-pow_right}
use native.Mathlib.Omega.{arith}
use mathlib.Core.Bool.{cond}
use mathlib.Core.Option as O
use mathlib.Core.Path.{◌≡◌, refl, sym, ap, ◌∙◌}
use mathlib.Core.List.{[], ◌∷◌, append-nil}
use borrow.Author.Tests.{le-leb, lt-leb, eq-eqb, ne_eqb}
use lib.Dec.{leb, lit<}
use lib.IntN.{ℤ, pos, negsuc, nat_abs}
use lib.ListN.{length, get_or}
use Rattle.fields.specs.Pieces.{Bytes}
use Rattle.fields.specs.Numbers.{longest_field, digits_of, number_of, after_minus, without_minus, amount_of, decimal_in, decimal, amount_text}
use Rattle.fields.proofs.Each.{Each, one, each_map}
use Rattle.fields.proofs.PieceLaws.{Without}
use Rattle.fields.proofs.DigitLaws.{Digit, some_is, none_some, first_digit, rest_digits, digits_below, decimal_one, written_digits, written_some, written_most, written_short, leading_zero, read_written, write_read}

-- ---- which fields are read as numbers
pub number_none : number_of [] ≡ O.none
unfolding number_of
number_none = refl

pub number_zero : (f : Bytes) → 1 < length f → get_or f 0 0 ≡ 48 → number_of f ≡ O.none
unfolding number_of
number_zero [] h e = refl
number_zero (b ∷ []) h e = absurd (omega arith)
number_zero (b ∷ c ∷ bs) h e = simp (eq-eqb b 48 e)

pub number_long : (f : Bytes) → 11 < length f → number_of f ≡ O.none
unfolding number_of
number_long [] h = absurd (omega arith)
number_long (b ∷ []) h = absurd (omega arith)
number_long (b ∷ c ∷ bs) h =
    let long = lt-leb (length (b ∷ c ∷ bs)) longest_field (omega arith) in
    elim (ℕ_discrete b 48) [ yes e ↦ simp (eq-eqb b 48 e) | no n ↦ simp (ne_eqb b 48 n, long) ]

-- 1 to 11 bytes, and no zero in front of another byte
pub record NumberForm (f : Bytes) : Type 0 where
  pub some : 1 ≤ length f
  pub short : length f ≤ 11
  pub leading : get_or f 0 0 ≡ 48 → length f ≡ 1

pub number_form : (f : Bytes) {n : ℕ} → number_of f ≡ O.some n → NumberForm f
unfolding number_of
number_form [] e = none_some e
number_form (b ∷ bs) e =
    elim (dec_le (length (b ∷ bs)) 11) [
      | yes short ↦ record { some = omega arith; short = short; leading = alone }
      | no long ↦ none_some (sym (number_long (b ∷ bs) (omega arith)) ∙ e)
    ]
  where
    alone : b ≡ 48 → length (b ∷ bs) ≡ 1
    alone z = elim (dec_le (length (b ∷ bs)) 1) [ yes h ↦ omega arith | no h ↦ none_some (sym (number_zero (b ∷ bs) (omega arith) z) ∙ e) ]

pub number_digits : (f : Bytes) → NumberForm f → number_of f ≡ digits_of f 0
unfolding number_of
number_digits [] h = absurd (omega arith)
number_digits (b ∷ []) h = refl
number_digits (b ∷ c ∷ bs) h =
    let more : b ≡ 48 → ⊥ = λ z. omega (arith, h.leading z) in
    simp (ne_eqb b 48 more, le-leb (length (b ∷ c ∷ bs)) longest_field (omega arith))

-- ---- what a number that is read says
module _ (f : Bytes) {n : ℕ} (e : number_of f ≡ O.some n) where
  pub number_read : digits_of f 0 ≡ O.some n
  number_read = sym (number_digits f (number_form f e)) ∙ e

  pub number_below : n < 10 ^ 11
  number_below =
      let most = pow-le-pow_right {n = 10} (lit< tt) (number_form f e).short in
      omega (arith, digits_below f 0 number_read)

pub decimal_number : (f : Bytes) {n : ℕ} → number_of f ≡ O.some n → decimal n ≡ f
unfolding digits_of
decimal_number [] e = absurd (omega (arith, (number_form [] e).some))
decimal_number (b ∷ []) {n} e =
    let d = first_digit b [] 0 (number_read (b ∷ []) e) in
    let same = some_is (rest_digits b [] 0 (number_read (b ∷ []) e)) in
    decimal_one 19 n (omega arith) ∙ ap (λ (c : ℕ). c ∷ []) (omega arith)
decimal_number (b ∷ c ∷ bs) {n} e =
    let form = number_form (b ∷ c ∷ bs) e in
    let d = first_digit b (c ∷ bs) 0 (number_read (b ∷ c ∷ bs) e) in
    let some : b ≡ 48 → ⊥ = λ z. omega (arith, form.leading z) in
    let k : ℕ = 19 - length (c ∷ bs) in
    let rest = rest_digits b (c ∷ bs) 0 (number_read (b ∷ c ∷ bs) e) in
    ap (λ (j : ℕ). decimal_in j n) (omega arith) ∙ write_read (c ∷ bs) (0 * 10 + (b - 48)) (suc k) (omega arith) rest ∙
    rw (decimal_one k (0 * 10 + (b - 48)) (omega arith)) (ap (λ (d : ℕ). d ∷ c ∷ bs) (omega arith))

-- ---- a number as a field
module _ (n : ℕ) where
  pub decimal_most : length (decimal n) ≤ 20
  decimal_most = written_most 20 n

  pub decimal_digits : Each Digit (decimal n)
  decimal_digits = written_digits 20 n

  pub decimal_some : 1 ≤ length (decimal n)
  decimal_some = written_some 19 n

  pub decimal_length : (k : ℕ) → n < 10 ^ suc k → length (decimal n) ≤ suc k
  decimal_length k h = written_short 20 n k h

  pub number_decimal : n < 10 ^ 11 → number_of (decimal n) ≡ O.some n
  unfolding digits_of
  number_decimal h =
      let wide : n < 10 ^ 20 = omega arith in
      let alone : get_or (decimal n) 0 0 ≡ 48 → length (decimal n) ≡ 1 = λ z. let is_zero = leading_zero 20 n wide z in ap length (decimal_one 19 n (omega arith)) in
      let form : NumberForm (decimal n) = record { some = decimal_some; short = decimal_length 10 h; leading = alone } in
      number_digits (decimal n) form ∙ rw append-nil at (read_written 20 n wide [])

  -- none of its bytes is below `0`, as the tab and the line feed are
  pub decimal_without : (x : ℕ) → x < 48 → Without x (decimal n)
  decimal_without x h = each_map (λ b d e. omega arith) decimal_digits

-- ---- which fields are read as amounts
pub amount_long : (f : Bytes) → 11 < length f → amount_of f ≡ O.none
unfolding amount_of
amount_long [] h = refl
amount_long (b ∷ bs) h = search too_long
  where
    too_long : (n : ℕ) (a : O.Option ℤ) → longest_field < n → cond (leb n longest_field) a O.none ≡ O.none
    too_long n a l = rw (lt-leb n longest_field l)

pub amount_minus : (bs : Bytes) → length bs ≤ 10 → amount_of (45 ∷ bs) ≡ after_minus (number_of bs)
unfolding amount_of
amount_minus bs h = simp (le-leb (length (45 ∷ bs)) longest_field (omega arith))

pub amount_plain : (b : ℕ) (bs : Bytes) → (b ≡ 45 → ⊥) → length bs ≤ 10 → amount_of (b ∷ bs) ≡ without_minus (number_of (b ∷ bs))
unfolding amount_of
amount_plain b bs n h = simp (le-leb (length (b ∷ bs)) longest_field (omega arith), ne_eqb b 45 n)

pub minus_zero : after_minus (O.some 0) ≡ O.none
minus_zero = refl

pub minus_more : (n : ℕ) → after_minus (O.some (suc n)) ≡ O.some (negsuc n)
minus_more n = simp (ne_eqb (suc n) 0 (λ e. omega arith))

-- what an amount that is read says: a number, or a minus and a number that is not zero
pub data AmountRead : Bytes → ℤ → Type 0 where
  as_number : {f : Bytes} {n : ℕ} → number_of f ≡ O.some n → AmountRead f (pos n)
  after_minus_lem : {bs : Bytes} {n : ℕ} → number_of bs ≡ O.some (suc n) → AmountRead (45 ∷ bs) (negsuc n)

pub amount_read : (f : Bytes) {t : ℤ} → amount_of f ≡ O.some t → AmountRead f t
unfolding amount_of
amount_read [] e = none_some e
amount_read (b ∷ bs) {t} e =
    elim (dec_le (length bs) 10) [
      | yes h ↦ elim (ℕ_discrete b 45) [
        | yes m ↦ rw m (negative (number_of bs) refl (sym (amount_minus bs h) ∙ rw m at e))
        | no n ↦ positive (number_of (b ∷ bs)) refl (sym (amount_plain b bs n h) ∙ e)
      ]
      | no h ↦ none_some (sym (amount_long (b ∷ bs) (omega arith)) ∙ e)
    ]
  where
    negative : (r : O.Option ℕ) → number_of bs ≡ r → after_minus r ≡ O.some t → AmountRead (45 ∷ bs) t
    negative O.none q e = none_some e
    negative (O.some zero) q e = none_some (sym minus_zero ∙ e)
    negative (O.some (suc n)) q e = rw (← some_is (sym (minus_more n) ∙ e)) (after_minus_lem q)

    positive : (r : O.Option ℕ) → number_of (b ∷ bs) ≡ r → without_minus r ≡ O.some t → AmountRead (b ∷ bs) t
    positive O.none q e = none_some e
    positive (O.some n) q e = rw (← some_is e) (as_number q)

pub text_amount : (f : Bytes) {t : ℤ} → amount_of f ≡ O.some t → amount_text t ≡ f
text_amount f e = go (amount_read f e)
  where
    go : {f : Bytes} {t : ℤ} → AmountRead f t → amount_text t ≡ f
    go (as_number {f = f} q) = decimal_number f q
    go (after_minus_lem {bs = bs} q) = ap (λ (s : Bytes). 45 ∷ s) (decimal_number bs q)

pub amount_below : (f : Bytes) {t : ℤ} → amount_of f ≡ O.some t → nat_abs t < 10 ^ 11
amount_below f e = go (amount_read f e)
  where
    go : {f : Bytes} {t : ℤ} → AmountRead f t → nat_abs t < 10 ^ 11
    go (as_number {f = f} q) = number_below f q
    go (after_minus_lem {bs = bs} q) = number_below bs q

-- ---- an amount as a field
pub amount_text_plain : (n : ℕ) → n < 10 ^ 11 → amount_of (amount_text (pos n)) ≡ O.some (pos n)
amount_text_plain n h = go (decimal n) (number_decimal n h) (decimal_digits n) (decimal_length n 10 h)
  where
    go : (f : Bytes) → number_of f ≡ O.some n → Each Digit f → length f ≤ 11 → amount_of f ≡ O.some (pos n)
    go [] e ds l = absurd (omega (arith, (number_form [] e).some))
    go (b ∷ bs) e (one d ds) l = amount_plain b bs (λ m. omega arith) (omega arith) ∙ ap without_minus e

pub amount_text_minus : (n : ℕ) → suc n < 10 ^ 10 → amount_of (amount_text (negsuc n)) ≡ O.some (negsuc n)
amount_text_minus n h = amount_minus (decimal (suc n)) (decimal_length (suc n) 9 h) ∙ ap after_minus (number_decimal (suc n) (omega arith)) ∙ minus_more n

pub amount_text_some : (t : ℤ) → 1 ≤ length (amount_text t)
amount_text_some (pos n) = decimal_some n
amount_text_some (negsuc n) = omega arith

-- none of its bytes is below `-`, as the tab and the line feed are
pub amount_text_without : (t : ℤ) (x : ℕ) → x < 45 → Without x (amount_text t)
amount_text_without (pos n) x h = decimal_without n x (omega arith)
amount_text_without (negsuc n) x h = let other : 45 ≡ x → ⊥ = λ e. omega arith in one other (decimal_without (suc n) x (omega arith))
