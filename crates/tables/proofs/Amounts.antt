-- A rotation's amount and the number that it is held as are 32,768 apart, in the machine too. Assumes nothing.
use Prim.Native.Nat.{ℕ, ◌+◌, ◌≤◌}
use native.Mathlib.Omega.{arith}
use mathlib.Core.Path.{◌≡◌, ap₂, ◌∙◌}
use lib.Dec.{T}
use lib.IntN.{ℤ, pos, negsuc, ◌+ℤ◌, ◌-ℤ◌, nat_abs}
use lib.Signed.{non_neg}
use mir.Syntax.{w16, w32}
use mir.Val.{Fits, SFits, to_z, of_z}
use mir.ValLaws.{to_z-of_z, to_z_pos}
use Rattle.ints.specs.Parts.{positive, negative}
use Rattle.ints.proofs.Linear.{parts+, parts-, one_part, whole_part, ≡-goal}
use Rattle.tables.specs.Records.{amount_from, amount_to}

-- z as an `i16` and as an `i32` hold it
abbrev short : ℤ → ℤ
short z = to_z w16 (of_z w16 z)

abbrev wide : ℤ → ℤ
wide z = to_z w32 (of_z w32 z)

small_fits : (z : ℤ) → positive z + negative z ≤ 100000 → SFits w32 z
small_fits (pos n) h = record { sfits = omega arith }
small_fits (negsuc n) h = record { sfits = omega arith }

short_fits : (z : ℤ) → positive z ≤ 32767 → negative z ≤ 32768 → SFits w16 z
short_fits (pos n) p q = record { sfits = omega arith }
short_fits (negsuc n) p q = record { sfits = omega arith }

above : (z : ℤ) → SFits w16 z → positive z ≤ 32767
above (pos n) h = let g = h.sfits in omega arith
above (negsuc n) h = omega arith

below : (z : ℤ) → SFits w16 z → negative z ≤ 32768
below (pos n) h = omega arith
below (negsuc n) h = let g = h.sfits in omega arith

shift_is : to_z w32 32768 ≡ pos 32768
shift_is = to_z_pos w32 32768 (omega arith)

-- ---- from an amount to its number
-- y is a number that fits a `u16` and holds the amount z
pub record Holds (z y : ℤ) : Type 0 where
  pub not_below : T (non_neg y)
  pub fits : Fits w16 (nat_abs y)
  pub amount : amount_from (nat_abs y) ≡ z

held_sum : (z : ℤ) → SFits w16 z → Holds z (z +ℤ pos 32768)
unfolding amount_from
held_sum z h =
    let none : negative (z +ℤ pos 32768) ≡ 0 = one_part (z +ℤ pos 32768) _ (λ e. e) (λ e. omega (arith, parts+ z (pos 32768), below z h)) in
    rw (whole_part (z +ℤ pos 32768) none)
    (record {
      not_below = tt;
      fits = record { fits = omega (arith, parts+ z (pos 32768), above z h, none) };
      amount = ≡-goal _ _ (omega (arith, parts- (pos (positive (z +ℤ pos 32768))) (pos 32768), parts+ z (pos 32768), none));
    })

module _ (z : ℤ) (h : SFits w16 z) where
  pub amount_fits : SFits w32 (short z)
  amount_fits = rw (to_z-of_z w16 z h) (small_fits z (omega (arith, above z h, below z h)))

  sum_is : wide (short z) +ℤ to_z w32 32768 ≡ z +ℤ pos 32768
  sum_is = ap₂ ◌+ℤ◌ (to_z-of_z w32 (short z) amount_fits ∙ to_z-of_z w16 z h) shift_is

  pub sum_fits : SFits w32 (wide (short z) +ℤ to_z w32 32768)
  sum_fits =
      rw sum_is
      (small_fits (z +ℤ pos 32768)
      (one_part (z +ℤ pos 32768) _ (λ e. omega (arith, parts+ z (pos 32768), above z h)) (λ e. omega (arith, parts+ z (pos 32768), below z h))))

  pub number_held : Holds z (wide (wide (short z) +ℤ to_z w32 32768))
  number_held = rw (to_z-of_z w32 (wide (short z) +ℤ to_z w32 32768) sum_fits, sum_is) (held_sum z h)

-- ---- from a number to its amount
pub amount_back : (n : ℕ) → amount_to (amount_from n) ≡ n
unfolding amount_to amount_from
amount_back n =
    let sum = pos n -ℤ pos 32768 +ℤ pos 32768 in
    one_part sum (positive sum ≡ n)
    (λ none. omega (arith, parts+ (pos n -ℤ pos 32768) (pos 32768), parts- (pos n) (pos 32768)))
    (λ none. omega (arith, parts+ (pos n -ℤ pos 32768) (pos 32768), parts- (pos n) (pos 32768)))

module _ (n : ℕ) (h : Fits w16 n) where
  difference_is : to_z w32 n -ℤ to_z w32 32768 ≡ amount_from n
  unfolding amount_from
  difference_is = let g = h.fits in ap₂ ◌-ℤ◌ (to_z_pos w32 n (omega arith)) shift_is

  amount_small : SFits w16 (amount_from n)
  unfolding amount_from
  amount_small =
      let g = h.fits in
      short_fits (amount_from n)
      (one_part (amount_from n) _ (λ e. omega (arith, parts- (pos n) (pos 32768))) (λ e. omega arith))
      (one_part (amount_from n) _ (λ e. omega arith) (λ e. omega (arith, parts- (pos n) (pos 32768))))

  pub difference_fits : SFits w32 (to_z w32 n -ℤ to_z w32 32768)
  difference_fits = rw difference_is (small_fits (amount_from n) (omega (arith, above (amount_from n) amount_small, below (amount_from n) amount_small)))

  pub difference_short : SFits w16 (wide (to_z w32 n -ℤ to_z w32 32768))
  difference_short = rw (to_z-of_z w32 (to_z w32 n -ℤ to_z w32 32768) difference_fits, difference_is) amount_small

  pub amount_is : short (wide (to_z w32 n -ℤ to_z w32 32768)) ≡ amount_from n
  amount_is =
      to_z-of_z w16 (wide (to_z w32 n -ℤ to_z w32 32768)) difference_short
      ∙ to_z-of_z w32 (to_z w32 n -ℤ to_z w32 32768) difference_fits
      ∙ difference_is
