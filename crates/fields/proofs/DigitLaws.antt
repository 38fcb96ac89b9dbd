-- Digit by digit: what is read of a row of digits, what is written of a number, and that the two are inverse. Assumes nothing.
use Prim.Native.Nat.{ℕ, zero, suc, ◌+◌, ◌*◌, ◌-◌, ◌/◌, ◌%◌, ◌^◌, ◌≤◌, ◌<◌}
use native.Mathlib.Decide.{dec_lt}
use native.Mathlib.Nat.{zero-add, mul_assoc, mul-le-mul_right, pow-suc, pow-succ', le_trans}
use native.Mathlib.Omega.{arith}
use mathlib.Core.Option as O
use mathlib.Core.Path.{◌≡◌, sym, ap, ◌∙◌}
use mathlib.Core.List.{[], ◌∷◌, ◌++◌, append_assoc, append-nil}
use borrow.Author.Tests.{lt-ltb, le-ltb, le-leb, lt-leb}
use lib.ListN.{length, get_or, length-append, get_or-append}
use Rattle.fields.specs.Pieces.{Bytes}
use Rattle.fields.specs.Numbers.{digits_of, decimal_in}
use Rattle.fields.proofs.Each.{Each, none, one, each_append}

pub record Digit (b : ℕ) : Type 0 where
  pub low : 48 ≤ b
  pub high : b ≤ 57

-- what is there is one thing, and nothing is not something
pub some_is : {A : Type 0} {x y : A} → O.some x ≡ O.some y → x ≡ y
some_is e = cc

pub none_some : {A P : Type 0} {x : A} → O.none ≡ O.some x → P
none_some e = absurd (let z : ◌≡◌ {A = ℕ} 0 1 = cc in omega arith)

-- ---- reading
module _ (b : ℕ) (bs : Bytes) (v : ℕ) where
  pub digits_low : b < 48 → digits_of (b ∷ bs) v ≡ O.none
  unfolding digits_of
  digits_low h = simp (lt-leb 48 b h)

  pub digits_high : 57 < b → digits_of (b ∷ bs) v ≡ O.none
  unfolding digits_of
  digits_high h = simp (le-leb 48 b (omega arith), lt-leb b 57 h)

  pub digits_next : Digit b → digits_of (b ∷ bs) v ≡ digits_of bs (v * 10 + (b - 48))
  unfolding digits_of
  digits_next d = simp (le-leb 48 b d.low, le-leb b 57 d.high)

  -- where a number is read, the first byte is a digit, and the number is read of the rest
  pub first_digit : {n : ℕ} → digits_of (b ∷ bs) v ≡ O.some n → Digit b
  first_digit e =
      elim (dec_lt b 48) [
        | yes l ↦ none_some (sym (digits_low l) ∙ e)
        | no l ↦ elim (dec_lt 57 b) [ yes h ↦ none_some (sym (digits_high h) ∙ e) | no h ↦ record { low = omega arith; high = omega arith } ]
      ]

  pub rest_digits : {n : ℕ} → digits_of (b ∷ bs) v ≡ O.some n → digits_of bs (v * 10 + (b - 48)) ≡ O.some n
  rest_digits e = sym (digits_next (first_digit e)) ∙ e

-- a number with one digit more, below (v + 1) * 10, leaves room for k digits where v leaves room for k + 1
pub room : (v d k : ℕ) → d ≤ 9 → (v * 10 + d + 1) * 10 ^ k ≤ (v + 1) * 10 ^ suc k
room v d k h =
    let more : v * 10 + d + 1 ≤ (v + 1) * 10 = omega arith in
    rw (pow-succ' 10 k, ← mul_assoc (v + 1) 10 (10 ^ k)) (mul-le-mul_right (10 ^ k) more)

pub digits_below : (bs : Bytes) (v : ℕ) {n : ℕ} → digits_of bs v ≡ O.some n → n < (v + 1) * 10 ^ length bs
unfolding digits_of
digits_below [] v e = let same = some_is e in omega arith
digits_below (b ∷ bs) v e =
    let d = first_digit b bs v e in
    let below = digits_below bs (v * 10 + (b - 48)) (rest_digits b bs v e) in
    le_trans below (room v (b - 48) (length bs) (omega arith))

-- ---- writing
module _ (k n : ℕ) where
  pub decimal_one : n < 10 → decimal_in (suc k) n ≡ (48 + n) ∷ []
  unfolding decimal_in
  decimal_one h = simp (lt-ltb n 10 h)

  pub decimal_more : 10 ≤ n → decimal_in (suc k) n ≡ decimal_in k (n / 10) ++ ((48 + n % 10) ∷ [])
  unfolding decimal_in
  decimal_more h = simp (le-ltb n 10 h)

  pub tenth : n < 10 ^ suc k → n / 10 < 10 ^ k
  tenth h = let g : n < 10 ^ k * 10 = rw (← pow-suc 10 k) h in omega arith

-- shown of no digits, of one and of one more than those of a tenth, it holds of the digits of every number
pub by_tenths : (P : ℕ → ℕ → Bytes → Type 0) → ((n : ℕ) → P 0 n []) → ((k n : ℕ) → n < 10 → P (suc k) n ((48 + n) ∷ []))
    → ((k n : ℕ) → 10 ≤ n → P k (n / 10) (decimal_in k (n / 10)) → P (suc k) n (decimal_in k (n / 10) ++ ((48 + n % 10) ∷ []))) → (k n : ℕ) → P k n (decimal_in k n)
unfolding decimal_in
by_tenths P empty last more zero n = empty n
by_tenths P empty last more (suc k) n =
    elim (dec_lt n 10) [
      | yes h ↦ rw (decimal_one k n h) (last k n h)
      | no h ↦ rw (decimal_more k n (omega arith)) (more k n (omega arith) (by_tenths P empty last more k (n / 10)))
    ]

digit : (d : ℕ) → d < 10 → Digit (48 + d)
digit d h = record { low = omega arith; high = omega arith }

pub written_digits : (k n : ℕ) → Each Digit (decimal_in k n)
written_digits =
    by_tenths (λ k n p. Each Digit p) (λ n. none) (λ k n h. one (digit n h) none)
    (λ k n h p. each_append p (one (digit (n % 10) (omega arith)) none))

pub written_some : (k n : ℕ) → 1 ≤ length (decimal_in (suc k) n)
written_some k n =
    by_tenths (λ k n p. 1 ≤ k → 1 ≤ length p) (λ n h. h) (λ k n h g. omega arith)
    (λ k n h p g. simp length-append (omega arith)) (suc k) n (omega arith)

pub written_most : (k n : ℕ) → length (decimal_in k n) ≤ k
written_most = by_tenths (λ k n p. length p ≤ k) (λ n. omega arith) (λ k n h. omega arith) (λ k n h p. simp length-append (omega arith))

pub written_short : (k n j : ℕ) → n < 10 ^ suc j → length (decimal_in k n) ≤ suc j
written_short =
    by_tenths (λ k n p. (j : ℕ) → n < 10 ^ suc j → length p ≤ suc j) (λ n j h. omega arith) (λ k n h j g. omega arith) more
  where
    more : (k n : ℕ) → 10 ≤ n → ((j : ℕ) → n / 10 < 10 ^ suc j → length (decimal_in k (n / 10)) ≤ suc j) → (j : ℕ) → n < 10 ^ suc j
        → length (decimal_in k (n / 10) ++ ((48 + n % 10) ∷ [])) ≤ suc j
    more k n h p zero g = absurd (omega arith)
    more k n h p (suc j) g = let shorter = p j (tenth (suc j) n g) in simp length-append (omega arith)

-- a zero in front is written of zero alone
pub leading_zero : (k n : ℕ) → n < 10 ^ k → get_or (decimal_in k n) 0 0 ≡ 48 → n ≡ 0
leading_zero =
    by_tenths (λ k n p. n < 10 ^ k → get_or p 0 0 ≡ 48 → n ≡ 0) (λ n h e. omega arith) (λ k n h g e. omega arith) more
  where
    more : (k n : ℕ) → 10 ≤ n → (n / 10 < 10 ^ k → get_or (decimal_in k (n / 10)) 0 0 ≡ 48 → n / 10 ≡ 0) → n < 10 ^ suc k
        → get_or (decimal_in k (n / 10) ++ ((48 + n % 10) ∷ [])) 0 0 ≡ 48 → n ≡ 0
    more zero n h p g e = absurd (omega (arith, tenth 0 n g))
    more (suc k) n h p g e =
        let first = get_or-append (decimal_in (suc k) (n / 10)) ((48 + n % 10) ∷ []) 0 0 (written_some k (n / 10)) in
        omega (arith, p (tenth (suc k) n g) (sym first ∙ e))

-- ---- what is written is read
pub read_written : (k n : ℕ) → n < 10 ^ k → (t : Bytes) → digits_of (decimal_in k n ++ t) 0 ≡ digits_of t n
read_written =
    by_tenths (λ k n p. n < 10 ^ k → (t : Bytes) → digits_of (p ++ t) 0 ≡ digits_of t n) (λ n h t. ap (digits_of t) (omega arith))
    (λ k n h g t. digits_next (48 + n) t 0 (digit n h) ∙ ap (digits_of t) (omega arith))
    (λ k n h p g t. rw append_assoc
    (p (tenth k n g) ((48 + n % 10) ∷ t) ∙ digits_next (48 + n % 10) t (n / 10) (digit (n % 10) (omega arith)) ∙ ap (digits_of t) (omega arith)))

-- ---- what is read is written, after digits of the number v
pub write_read : (bs : Bytes) (v k : ℕ) {n : ℕ} → 0 < v → digits_of bs v ≡ O.some n → decimal_in (length bs + k) n ≡ decimal_in k v ++ bs
unfolding digits_of
write_read [] v k {n} h e = rw (zero-add, append-nil) (ap (decimal_in k) (sym (some_is e)))
write_read (b ∷ bs) v k {n} h e =
    let d = first_digit b bs v e in
    let w : ℕ = v * 10 + (b - 48) in
    let last : decimal_in (suc k) w ≡ decimal_in k v ++ (b ∷ []) = decimal_more k w (omega arith) ∙ last_digit_lem (omega arith) (omega arith) in
    ap (λ (j : ℕ). decimal_in j n) (omega arith) ∙ write_read bs w (suc k) (omega arith) (rest_digits b bs v e) ∙ rw (last, append_assoc)
  where
    last_digit_lem : (v * 10 + (b - 48)) / 10 ≡ v → 48 + (v * 10 + (b - 48)) % 10 ≡ b
        → decimal_in k ((v * 10 + (b - 48)) / 10) ++ ((48 + (v * 10 + (b - 48)) % 10) ∷ []) ≡ decimal_in k v ++ (b ∷ [])
    last_digit_lem p q = rw (p, q)
