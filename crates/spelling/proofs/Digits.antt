-- The digits of a number as a program makes them: one to three digits, or the digits of a hundredth of it and two more; and how many there are.
-- Assumes nothing.
use Prim.Native.Nat.{ℕ, zero, suc, ◌+◌, ◌/◌, ◌%◌, ◌^◌, ◌≤◌, ◌<◌}
use mathlib.Core.Bool.{Bool, true, false}
use mathlib.Core.List.{List, [], ◌∷◌, ◌++◌}
use mathlib.Core.Path.{◌≡◌, refl, sym, ap, ◌∙◌}
use native.Mathlib.Nat.{pow-suc}
use native.Mathlib.Omega.{arith}
use borrow.Author.Tests.{lt-ltb, le-ltb, ltb-true, ltb-false}
use lib.Dec.{ltb}
use lib.ListN.{length, length-append}
use mir.Syntax.{w32}
use mir.Val.{Fits}
use Rattle.fields.specs.Pieces.{Bytes}
use Rattle.fields.specs.Numbers.{decimal_in, decimal}
use Rattle.fields.proofs.NumberLaws.{decimal_some}
use Rattle.spelling.specs.Put.{Put, Counted, last_digit}
use Rattle.spelling.proofs.Puts.{put_both}

-- ---- n in k places
one_digit : (k n : ℕ) → n < 10 → decimal_in (suc k) n ≡ (48 + n) ∷ []
unfolding decimal_in
one_digit k n h = simp (lt-ltb n 10 h)

more_digits : (k n : ℕ) → 10 ≤ n → decimal_in (suc k) n ≡ decimal_in k (n / 10) ++ ((48 + n % 10) ∷ [])
unfolding decimal_in
more_digits k n h = simp (le-ltb n 10 h)

by_digits : {P : Type 0} (n : ℕ) → (n < 10 → P) → (10 ≤ n → P) → P
by_digits {P} n low high = go (ltb n 10) refl
  where
    go : (b : Bool) → ltb n 10 ≡ b → P
    go true e = low (ltb-true n 10 e)
    go false e = high (ltb-false n 10 e)

-- one place more than n needs changes nothing
one_place_more : (k n : ℕ) → n < 10 ^ suc k → decimal_in (suc k) n ≡ decimal_in (suc (suc k)) n
one_place_more zero n h =
    let l : n < 10 = omega (arith, pow-suc 10 0) in
    one_digit 0 n l ∙ sym (one_digit 1 n l)
one_place_more (suc k) n h =
    let tenth : n / 10 < 10 ^ suc k = omega (arith, pow-suc 10 (suc k)) in
    let rest = one_place_more k (n / 10) tenth in
    by_digits n (λ l. one_digit (suc k) n l ∙ sym (one_digit (suc (suc k)) n l))
    (λ l. rw (more_digits (suc k) n l, more_digits (suc (suc k)) n l, rest))

pub at_most : (k n : ℕ) → length (decimal_in k n) ≤ k
unfolding decimal_in
at_most zero n = omega arith
at_most (suc k) n =
    let rest = at_most k (n / 10) in
    by_digits n (λ l. rw (one_digit k n l) (omega arith)) (λ l. rw (more_digits k n l, length-append) (omega arith))

-- ---- a number of the machine
decimal_low : (n : ℕ) → n < 10 → decimal n ≡ (48 + n) ∷ []
decimal_low n h = one_digit 19 n h

decimal_high : (n : ℕ) → 10 ≤ n → Fits w32 n → decimal n ≡ decimal (n / 10) ++ ((48 + n % 10) ∷ [])
decimal_high n h f =
    let small = f.fits in
    more_digits 19 n h ∙ ap (λ (digits : List ℕ). digits ++ ((48 + n % 10) ∷ [])) (one_place_more 18 (n / 10) (omega arith))

-- ---- put digit by digit: numbers of one, two and three digits, and any other after its hundredth
in_one : (n : ℕ) → n < 10 → decimal n ≡ last_digit n ∷ []
in_one n h = decimal_low n h ∙ ap (λ (d : ℕ). (48 + d) ∷ []) (omega arith)

in_two : (n : ℕ) → 10 ≤ n → n < 100 → decimal n ≡ (last_digit (n / 10) ∷ []) ++ (last_digit n ∷ [])
in_two n h g =
    decimal_high n h (record { fits = omega arith }) ∙
    ap (λ (digits : List ℕ). digits ++ (last_digit n ∷ [])) (in_one (n / 10) (omega arith))

in_three : (n : ℕ) → 100 ≤ n → n < 1000 → decimal n ≡ ((last_digit (n / 100) ∷ []) ++ (last_digit (n / 10) ∷ [])) ++ (last_digit n ∷ [])
in_three n h g =
    let tenths : n / 10 / 10 ≡ n / 100 = omega arith in
    decimal_high n (omega arith) (record { fits = omega arith }) ∙
    ap (λ (digits : List ℕ). digits ++ (last_digit n ∷ [])) (rw tenths at (in_two (n / 10) (omega arith) (omega arith)))

module _ (s : Bytes) (at n : ℕ) (l : at + length (decimal n) ≤ length s) where
  pub digit_room : at < length s
  digit_room = omega (arith, decimal_some n)

  pub put_one_digit : n < 10 → (r : ℕ) (t : Bytes) → Put s at (last_digit n ∷ []) r t → Put s at (decimal n) r t
  put_one_digit h r t p = rw (in_one n h) p

  module _ (h : 10 ≤ n) (g : n < 100) (p : ℕ) (s1 : Bytes) (first : Put s at (last_digit (n / 10) ∷ []) p s1) where
    pub second_room : length s1 ≡ length s → p < length s1
    second_room k = omega (arith, ap length (in_two n h g), first.place)

    pub put_two_digits : (r : ℕ) (t : Bytes) → Put s1 p (last_digit n ∷ []) r t → Put s at (decimal n) r t
    put_two_digits r t next =
        put_both s at (last_digit (n / 10) ∷ []) (last_digit n ∷ []) (decimal n) l (in_two n h g) p s1 first r t next

  module _ (h : 100 ≤ n) (g : n < 1000) (p : ℕ) (s1 : Bytes) (first : Put s at (last_digit (n / 100) ∷ []) p s1) where
    pub second_of_three_room : length s1 ≡ length s → p < length s1
    second_of_three_room k = omega (arith, ap length (in_three n h g), first.place)

    module _ (q : ℕ) (s2 : Bytes) (second : Put s1 p (last_digit (n / 10) ∷ []) q s2) where
      pub third_room : length s1 ≡ length s → length s2 ≡ length s1 → q < length s2
      third_room k j = omega (arith, ap length (in_three n h g), first.place, second.place)

      pub put_three_digits : (r : ℕ) (t : Bytes) → Put s2 q (last_digit n ∷ []) r t → Put s at (decimal n) r t
      put_three_digits r t next =
          let front : List ℕ = (last_digit (n / 100) ∷ []) ++ (last_digit (n / 10) ∷ []) in
          let short : at + length front ≤ length s = omega (arith, ap length (in_three n h g)) in
          put_both s at front (last_digit n ∷ []) (decimal n) l (in_three n h g) q s2
          (put_both s at (last_digit (n / 100) ∷ []) (last_digit (n / 10) ∷ []) front short refl p s1 first q s2 second)
          r t next

  module _ (h : 1000 ≤ n) (f : Fits w32 n) where
    tenths : n / 10 / 10 ≡ n / 100
    tenths = omega arith

    front : decimal (n / 10) ≡ decimal (n / 100) ++ (last_digit (n / 10) ∷ [])
    front = rw tenths at (decimal_high (n / 10) (omega arith) (record { fits = omega (arith, f.fits) }))

    more : decimal n ≡ decimal (n / 10) ++ (last_digit n ∷ [])
    more = decimal_high n (omega arith) f

    front_room : at + length (decimal (n / 10)) ≤ length s
    front_room = omega (arith, ap length more, length-append (decimal (n / 10)) (last_digit n ∷ []))

    pub hundredth_room : at + length (decimal (n / 100)) ≤ length s
    hundredth_room = omega (arith, front_room, ap length front, length-append (decimal (n / 100)) (last_digit (n / 10) ∷ []))

    module _ (p : ℕ) (s1 : Bytes) (hundredth : Put s at (decimal (n / 100)) p s1) where
      pub next_room : length s1 ≡ length s → p < length s1
      next_room k = omega (arith, front_room, ap length front, length-append (decimal (n / 100)) (last_digit (n / 10) ∷ []), hundredth.place)

      module _ (q : ℕ) (s2 : Bytes) (next : Put s1 p (last_digit (n / 10) ∷ []) q s2) where
        tenth : Put s at (decimal (n / 10)) q s2
        tenth = put_both s at (decimal (n / 100)) (last_digit (n / 10) ∷ []) (decimal (n / 10)) front_room front p s1 hundredth q s2 next

        pub last_room : length s1 ≡ length s → length s2 ≡ length s1 → q < length s2
        last_room k j = omega (arith, ap length more, length-append (decimal (n / 10)) (last_digit n ∷ []), tenth.place)

        pub put_last_digits : (r : ℕ) (t : Bytes) → Put s2 q (last_digit n ∷ []) r t → Put s at (decimal n) r t
        put_last_digits r t last = put_both s at (decimal (n / 10)) (last_digit n ∷ []) (decimal n) l more q s2 tenth r t last

pub ruleset digit_puts = (
  digit_room,
  put_one_digit,
  second_room,
  put_two_digits,
  second_of_three_room,
  third_room,
  put_three_digits,
  hundredth_room,
  next_room,
  last_room,
  put_last_digits,
)

-- ---- how many there are
one_more_lem : (n : ℕ) → 10 ≤ n → Fits w32 n → length (decimal n) ≡ length (decimal (n / 10)) + 1
one_more_lem n h f = ap length (decimal_high n h f) ∙ length-append (decimal (n / 10)) ((48 + n % 10) ∷ [])

pub one_counted : (n : ℕ) → n < 10 → Counted (decimal n) 20 1
one_counted n h = record { counted = sym (ap length (decimal_low n h)); bounded = omega arith }

-- so many digits, and one more
counted_next : (n k : ℕ) → 10 ≤ n → n < 100000 → k < 5 → Counted (decimal (n / 10)) 20 k → Counted (decimal n) 20 (suc k)
counted_next n k h g few c = record { counted = omega (arith, c.counted, one_more_lem n h (record { fits = omega arith })); bounded = omega arith }

pub two_counted : (n : ℕ) → 10 ≤ n → n < 100 → Counted (decimal n) 20 2
two_counted n h g = counted_next n 1 h (omega arith) (omega arith) (one_counted (n / 10) (omega arith))

pub three_counted : (n : ℕ) → 100 ≤ n → n < 1000 → Counted (decimal n) 20 3
three_counted n h g = counted_next n 2 (omega arith) (omega arith) (omega arith) (two_counted (n / 10) (omega arith) (omega arith))

pub four_counted : (n : ℕ) → 1000 ≤ n → n < 10000 → Counted (decimal n) 20 4
four_counted n h g = counted_next n 3 (omega arith) (omega arith) (omega arith) (three_counted (n / 10) (omega arith) (omega arith))

pub five_counted : (n : ℕ) → 10000 ≤ n → n < 100000 → Counted (decimal n) 20 5
five_counted n h g = counted_next n 4 (omega arith) g (omega arith) (four_counted (n / 10) (omega arith) (omega arith))

pub more_counted : (n r : ℕ) → 100000 ≤ n → Fits w32 n → Counted (decimal (n / 100000)) 20 r → Counted (decimal n) 20 (r + 5)
more_counted n r h f c =
    let within : (m : ℕ) → m ≤ n → Fits w32 m = (λ m l. record { fits = omega (arith, f.fits) }) in
    let first = one_more_lem n (omega arith) f in
    let second = one_more_lem (n / 10) (omega arith) (within (n / 10) (omega arith)) in
    let third = one_more_lem (n / 10 / 10) (omega arith) (within (n / 10 / 10) (omega arith)) in
    let fourth = one_more_lem (n / 10 / 10 / 10) (omega arith) (within (n / 10 / 10 / 10) (omega arith)) in
    let fifth = one_more_lem (n / 10 / 10 / 10 / 10) (omega arith) (within (n / 10 / 10 / 10 / 10) (omega arith)) in
    let tenths : n / 10 / 10 / 10 / 10 / 10 ≡ n / 100000 = omega arith in
    let same = ap (λ (m : ℕ). length (decimal m)) tenths in
    let all : r + 5 ≡ length (decimal n) = omega (arith, c.counted, first, second, third, fourth, fifth, same) in
    record { counted = all; bounded = omega (arith, all, at_most 20 n) }

pub ruleset number_lengths = (one_counted, two_counted, three_counted, four_counted, five_counted, more_counted)
