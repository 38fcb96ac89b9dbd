-- A law for each way out of the functions that give the reserve of a sum and of a product. Assumes nothing.
use Prim.Native.Nat.{ℕ, ◌<◌}
use mathlib.Core.Bool.{Bool, true, false}
use mathlib.Core.List.{List}
use mathlib.Core.Path.{◌≡◌, sym, ap, ap₂, ◌∙◌, subst}
use native.Mathlib.Omega.{arith}
use borrow.Author.Rules.{rules}
use lib.IntN.{ℤ, pos, ◌-ℤ◌}
use lib.ListN.{length, get_or}
use lib.Signed.{mag, lt_z}
use Rattle.model.specs.declared.Choice.{Choice}
use Rattle.model.specs.declared.Header.{Header}
use Rattle.model.specs.Machine.{goes, stops}
use Rattle.model.specs.Plan.{smaller, product_choice}
use Rattle.model.specs.Scales.{headroom}
use Rattle.scales.specs.Headroom.{SmallHeadroom}
use Rattle.reserves.specs.Pairs.{KnownOperand, is_bare, sum_reserve, product_reserve}
use Rattle.choices.specs.Ranges.{Small}
use Rattle.reserves.specs.Walks.{unless_too_low}
use Rattle.choices.proofs.Readings.{held, result_held, small_held, held_small}
use Rattle.tables.specs.declared.Record.{Record}

-- ---- a reserve below the headroom
module _ (h : Header) (r : ℤ) (f : mag r < 2147483648) (z : ℤ) (least : SmallHeadroom h z) where
  least_fits : mag z < 2147483648
  least_fits = subst (λ (x : ℤ). mag x < 2147483648) (sym least.is) (omega (arith, least.small))

  below : lt_z (held r) (held z) ≡ lt_z r (pos (headroom h))
  below = ap₂ lt_z (result_held r f) (result_held z least_fits ∙ least.is)

  pub too_low : lt_z (held r) (held z) ≡ true → stops 6 ≡ unless_too_low h r
  too_low t = rw (sym below ∙ t)

  pub not_too_low : lt_z (held r) (held z) ≡ false → goes (held r) ≡ unless_too_low h r
  not_too_low t = rw (sym below ∙ t, result_held r f)

-- ---- values a and b
module _ (records : List Record) (reserves : List ℤ) (a : ℕ) (o : KnownOperand records reserves a) where
  pub operand_recorded : a < length records
  operand_recorded = o.recorded

  pub operand_known : a < length reserves
  operand_known = o.known

  pub operand_small : Small (held (get_or reserves a (pos 0)))
  operand_small = held_small (get_or reserves a (pos 0)) o.small

module _ (records : List Record) (reserves : List ℤ) (a b : ℕ)
    (o : KnownOperand records reserves a) (p : KnownOperand records reserves b) (t : Bool) (e : t ≡ is_bare records a) where
  -- the first is a constant
  module _ (yes : t ≡ true) where
    pub sum_first : held (get_or reserves b (pos 0)) ≡ sum_reserve records reserves a b
    unfolding sum_reserve
    sum_first = rw (sym e ∙ yes, small_held (get_or reserves b (pos 0)) p.small)

    pub product_first : (h : Header) (z : ℤ) → mag z < 2147483648 → z ≡ held (get_or reserves b (pos 0)) -ℤ pos h.waterline → held z ≡ product_reserve h records reserves a b
    unfolding product_reserve
    product_first h z f q = rw (sym e ∙ yes, result_held z f, q, small_held (get_or reserves b (pos 0)) p.small)

  module _ (not_first : t ≡ false) (u : Bool) (e' : u ≡ is_bare records b) where
    -- the second is
    module _ (yes : u ≡ true) where
      pub sum_second : held (get_or reserves a (pos 0)) ≡ sum_reserve records reserves a b
      unfolding sum_reserve
      sum_second = rw (sym e ∙ not_first, sym e' ∙ yes, small_held (get_or reserves a (pos 0)) o.small)

      pub product_second : (h : Header) (z : ℤ) → mag z < 2147483648 → z ≡ held (get_or reserves a (pos 0)) -ℤ pos h.waterline → held z ≡ product_reserve h records reserves a b
      unfolding product_reserve
      product_second h z f q = rw (sym e ∙ not_first, sym e' ∙ yes, result_held z f, q, small_held (get_or reserves a (pos 0)) o.small)

    -- neither is
    module _ (neither : u ≡ false) where
      pub sum_both : (z : ℤ) → mag z < 2147483648 → z ≡ smaller (held (get_or reserves a (pos 0))) (held (get_or reserves b (pos 0))) → held z ≡ sum_reserve records reserves a b
      unfolding sum_reserve
      sum_both z f q =
          rw (sym e ∙ not_first, sym e' ∙ neither, result_held z f)
          (q ∙ ap₂ smaller (small_held (get_or reserves a (pos 0)) o.small) (small_held (get_or reserves b (pos 0)) p.small))

      pub product_both : (h : Header) (c : Choice) → mag c.reserve < 2147483648 → c ≡ product_choice h (held (get_or reserves a (pos 0))) (held (get_or reserves b (pos 0)))
          → held c.reserve ≡ product_reserve h records reserves a b
      unfolding product_reserve
      product_both h c f q =
          rw (sym e ∙ not_first, sym e' ∙ neither, result_held c.reserve f)
          (ap (λ (d : Choice). d.reserve)
          (q ∙ ap₂ (product_choice h) (small_held (get_or reserves a (pos 0)) o.small) (small_held (get_or reserves b (pos 0)) p.small)))

pub ruleset pairs = (
  rules,
  too_low,
  not_too_low,
  operand_recorded,
  operand_known,
  operand_small,
  sum_first,
  sum_second,
  sum_both,
  product_first,
  product_second,
  product_both,
)
