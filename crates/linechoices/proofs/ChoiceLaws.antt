-- How a line is done by its operands' reserves: a law for each return and each need of the functions for one operand and for two. Assumes
-- nothing.
use Prim.Native.Nat.{◌<◌}
use native.Mathlib.Omega.{arith}
use mathlib.Core.Path.{◌≡◌, sym, ap₂, ◌∙◌, subst}
use mathlib.Core.Bool.{true, false, not, ◌||◌}
use borrow.Author.Rules.{rules}
use borrow.Author.Tests.{not-true, not-false}
use lib.IntN.{ℤ, pos}
use lib.Signed.{mag, le_z, lt_z}
use mir.Syntax.{w32}
use mir.Val.{SFits}
use Rattle.model.specs.declared.Header.{Header}
use Rattle.model.specs.declared.Choice.{Choice}
use Rattle.model.specs.Plan.{smaller, unchanged_choice, times_constant_choice, constant_times_choice, product_choice, unless_too_few, choice_of, best_machine}
use Rattle.model.specs.Scales.{headroom}
use Rattle.model.proofs.Tests.{by_test}
use Rattle.scales.specs.Headroom.{SmallHeadroom}
use Rattle.choices.specs.Ranges.{Small}
use Rattle.choices.proofs.Readings.{small_fits}
use Rattle.conversions.specs.declared.Operand.{Operand}
use Rattle.conversions.specs.Operands.{best_of}
use Rattle.conversions.proofs.PutLaws.{reading, read_same}
use Rattle.std.specs.Prelude.{Ok, Err}
use Rattle.model.specs.declared.Fault.TheVariants.{TooFewLevels}
use Rattle.linechoices.specs.Steps.{line_choice}

-- ---- a reserve below the headroom
module _ (h : Header) (p : Choice) (f : SFits w32 p.reserve) (z : ℤ) (least : SmallHeadroom h z) where
  least_fits : SFits w32 z
  least_fits = record { sfits = subst (λ (x : ℤ). mag x < 2147483648) (sym least.is) (omega (arith, least.small)) }

  below : lt_z (reading p.reserve) (reading z) ≡ lt_z p.reserve (pos (headroom h))
  below = ap₂ lt_z (read_same p.reserve f) (read_same z least_fits ∙ least.is)

  pub too_few : lt_z (reading p.reserve) (reading z) ≡ true → Err TooFewLevels ≡ line_choice (unless_too_few h p)
  too_few t = rw (sym below ∙ t)

  pub enough : lt_z (reading p.reserve) (reading z) ≡ false → Ok p ≡ line_choice (unless_too_few h p)
  enough t = rw (sym below ∙ t)

pub ruleset headroom_laws = (rules, too_few, enough)

-- ---- by the operands
small_same : (z : ℤ) → Small z → reading z ≡ z
small_same z s = read_same z (small_fits z s)

pub small_read : (z : ℤ) → Small z → Small (reading z)
small_read z s = rw (small_same z s) s

module _ (h : Header) (a : Operand) (s : Small a.reserve) (p : Choice) where
  pub unary_chosen : a.ciphertext ≡ true → p ≡ unchanged_choice h (reading a.reserve) → unless_too_few h p ≡ (best_machine h).neg (best_of a)
  unary_chosen c e = rw (c, e, small_same a.reserve s)

  module _ (b : Operand) (t : Small b.reserve) where
    second_some : (a.ciphertext || b.ciphertext) ≡ true → not a.ciphertext ≡ true → b.ciphertext ≡ true
    second_some o n = rw (not-true a.ciphertext n) at o

    module _ (n : not a.ciphertext ≡ true) (o : (a.ciphertext || b.ciphertext) ≡ true) where
      pub sum_second : p ≡ unchanged_choice h (reading b.reserve) → unless_too_few h p ≡ (best_machine h).add (best_of a) (best_of b)
      sum_second e = rw (not-true a.ciphertext n, second_some o n, e, small_same b.reserve t)

      pub product_second : p ≡ constant_times_choice h (reading b.reserve) → unless_too_few h p ≡ (best_machine h).mul (best_of a) (best_of b)
      product_second e = rw (not-true a.ciphertext n, second_some o n, e, small_same b.reserve t)

    module _ (n : not a.ciphertext ≡ false) where
      module _ (m : not b.ciphertext ≡ true) where
        pub sum_first : p ≡ unchanged_choice h (reading a.reserve) → unless_too_few h p ≡ (best_machine h).add (best_of a) (best_of b)
        sum_first e = rw (not-false a.ciphertext n, not-true b.ciphertext m, e, small_same a.reserve s)

        pub product_first : p ≡ times_constant_choice h (reading a.reserve) → unless_too_few h p ≡ (best_machine h).mul (best_of a) (best_of b)
        product_first e = rw (not-false a.ciphertext n, not-true b.ciphertext m, e, small_same a.reserve s)

      module _ (m : not b.ciphertext ≡ false) where
        pub product_both : p ≡ product_choice h (reading a.reserve) (reading b.reserve) → unless_too_few h p ≡ (best_machine h).mul (best_of a) (best_of b)
        product_both e = rw (not-false a.ciphertext n, not-false b.ciphertext m, e, small_same a.reserve s, small_same b.reserve t)

        module _ (z : ℤ) (k : mag z < 2147483648) (is : z ≡ smaller (reading a.reserve) (reading b.reserve)) where
          z_is : reading z ≡ smaller a.reserve b.reserve
          z_is = read_same z (record { sfits = k }) ∙ is ∙ (λ i. smaller (small_same a.reserve s i) (small_same b.reserve t i))

          pub smaller_small : Small (reading z)
          smaller_small = rw z_is (by_test Small (le_z a.reserve b.reserve) a.reserve b.reserve (λ e. s) (λ e. t))

          pub sum_both : p ≡ unchanged_choice h (reading z) → unless_too_few h p ≡ (best_machine h).add (best_of a) (best_of b)
          sum_both e = rw (not-false a.ciphertext n, not-false b.ciphertext m, e, z_is)

-- named as it is
pub own_chosen : (a : Operand) → a.ciphertext ≡ true → SFits w32 a.reserve
    → record { level = a.level; reserve = reading a.reserve; first = reading a.reserve; second = reading a.reserve } ≡ choice_of (best_of a)
own_chosen a c s = rw (c, read_same a.reserve s)

pub ruleset choice_laws = (rules, own_chosen, small_read, unary_chosen, sum_second, sum_first, smaller_small, sum_both, product_second, product_first, product_both)
