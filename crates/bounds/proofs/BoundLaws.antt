-- The bounds of a scale and a level: the machine's test of the modulus is the definition's, and what passes both tests is not below zero. Assumes
-- nothing.
use Prim.Native.Nat.{ℕ, ◌+◌, ◌≤◌}
use native.Mathlib.Omega.{arith}
use mathlib.Core.Path.{◌≡◌, ap, ap₂, ◌∙◌}
use mathlib.Core.Bool.{Bool, false, not}
use borrow.Author.Tests.{not-false}
use lib.Dec.{T}
use lib.IntN.{ℤ, pos, ◌+ℤ◌, ◌*ℤ◌, nat_abs}
use lib.Signed.{le_z}
use Rattle.ints.specs.Parts.{positive, negative}
use Rattle.model.specs.declared.Header.{Header}
use Rattle.model.specs.Scales.{header_in_range, headroom}
use Rattle.model.proofs.Tests.{header_facts}
use Rattle.model.proofs.Bounded.{Tested, tested}
use Rattle.scales.specs.Headroom.{SmallHeadroom}
use Rattle.model.specs.Machine.{goes}
use Rattle.bounds.specs.Bounded.{bounded_numbers, InReach}
use Rattle.bounds.proofs.SignedNumbers.{held, held_small, held_natural, natural_size, sum_small, product_small}

-- ---- the modulus
module _ (h : Header) (ranged : T (header_in_range h)) (s l : ℤ) (reach : InReach s l) where
  module _ (z : ℤ) (least : SmallHeadroom h z) where
    asked_held : held s +ℤ held z ≡ s +ℤ pos (headroom h)
    asked_held = ap₂ ◌+ℤ◌ (held_small s (omega (arith, reach.scale))) (held_natural z (headroom h) least.is (omega (arith, least.small)))

    asked_small : positive (s +ℤ pos (headroom h)) + negative (s +ℤ pos (headroom h)) ≤ 1000000
    asked_small = omega (arith, sum_small s (pos (headroom h)) 7200 60 reach.scale (omega (arith, least.small)))

  module _ (f : ℤ) (is : f ≡ pos h.factor) where
    modulus_held : held f *ℤ held l ≡ pos h.factor *ℤ l
    modulus_held = ap₂ ◌*ℤ◌ (held_natural f h.factor is (omega (arith, (header_facts h ranged).factor.most))) (held_small l (omega (arith, reach.level)))

    modulus_small : positive (pos h.factor *ℤ l) + negative (pos h.factor *ℤ l) ≤ 1000000
    modulus_small = omega (arith, product_small h.factor l 60 60 (header_facts h ranged).factor.most reach.level)

    pub modulus_test :
        (z : ℤ) → SmallHeadroom h z → le_z (held (held s +ℤ held z)) (held (held f *ℤ held l)) ≡ le_z (s +ℤ pos (headroom h)) (pos h.factor *ℤ l)
    modulus_test z least =
        ap₂ le_z (ap held (asked_held z least) ∙ held_small (s +ℤ pos (headroom h)) (asked_small z least))
        (ap held modulus_held ∙ held_small (pos h.factor *ℤ l) modulus_small)

-- ---- both bounds
passed : {b c : Bool} → b ≡ c → not b ≡ false → T c
passed {b} e t = rw (← e, not-false b t) tt

module _
    (h : Header) (s l : ℤ) (reach : InReach s l) (low high : Bool) (is-low : low ≡ le_z (pos h.waterline) (held s))
    (is-high : high ≡ le_z (held s +ℤ pos (headroom h)) (pos h.factor *ℤ held l)) (reached : not low ≡ false) (fits : not high ≡ false) where
  scale_held : held s ≡ s
  scale_held = held_small s (omega (arith, reach.scale))

  level_held : held l ≡ l
  level_held = held_small l (omega (arith, reach.level))

  low_is : low ≡ le_z (pos h.waterline) s
  low_is = is-low ∙ ap (le_z (pos h.waterline)) scale_held

  high_is : high ≡ le_z (s +ℤ pos (headroom h)) (pos h.factor *ℤ l)
  high_is = is-high ∙ rw (scale_held, level_held)

  -- what passes both tests is not below zero
  pub within_bounds : T (header_in_range h) → goes (record { scale = nat_abs (held s); level = nat_abs (held l) }) ≡ bounded_numbers h s l
  within_bounds ranged =
      let both : Tested h s l = tested h (header_facts h ranged).waterline.least s l (passed low_is reached) (passed high_is fits) in
      rw (← low_is, not-false low reached, ← high_is, not-false high fits)
      (ap₂ (λ (m n : ℕ). goes (record { scale = m; level = n })) (natural_size s reach.scale both.whole_scale)
      (natural_size l (omega (arith, reach.level)) both.whole_level))
