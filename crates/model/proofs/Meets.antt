-- Where the plan's choice for a line has at least the least reserve, its operands can be brought to the level and the reserves chosen, and the
-- line then has just the reserve chosen. Assumes nothing.
use Prim.Native.Nat.{ℕ, zero, ◌+◌, ◌*◌, ◌<◌, ◌≤◌}
use native.Mathlib.Omega.{arith}
use mathlib.Core.Path.{◌≡◌, sym, ap, ◌∙◌, subst, subst₂}
use lib.IntN.{ℤ, pos, ◌+ℤ◌, ◌-ℤ◌}
use lib.Signed.{◌≤ℤ◌, le_z}
use Rattle.ints.specs.Parts.{positive, negative}
use Rattle.ints.proofs.Linear.{signed, parts+, parts-, is_positive, positive_sub, ≤-read, ≡-read}
use Rattle.model.specs.declared.Header.{Header}
use Rattle.model.specs.Scales.{headroom}
use Rattle.model.specs.declared.Choice.{Choice}
use Rattle.model.specs.declared.Best.{Best}
use Rattle.model.specs.declared.Best.TheVariants as Bests
use Rattle.model.specs.Plan.{lowest_level, smaller, at_waterline, unchanged_choice, times_constant_choice, constant_times_choice, product_choice}
use Rattle.model.proofs.Tests.{HeaderFacts}
use Rattle.model.proofs.Levels.{fits, least}
use Rattle.model.proofs.Tests.{by_test}
use Rattle.model.proofs.Products.{smaller_below_left, smaller_below_right, product_level, Optimal, optimal}
use Rattle.model.proofs.Supplies.{Valid, scale_at, Reaches}

module _ (h : Header) (H : HeaderFacts h) where
  F⁺ : zero < h.factor
  F⁺ = H.factor.least

  W⁺ : zero < h.waterline
  W⁺ = H.waterline.least

  -- the choice p for a line on operands b and b'
  pub record Meets (p : Choice) (b b' : Best) : Type 0 where
    pub first : Valid h H p.first p.level
    pub second : Valid h H p.second p.level
    pub own : Valid h H p.reserve p.level
    pub first_reached : Reaches h H b p.first p.level
    pub second_reached : Reaches h H b' p.second p.level

  -- ---- at its own m
  own_level : (r : ℤ) (l : ℕ) → Valid h H r l → lowest_level h r ≤ l
  own_level r l v = subst (λ (z : ℤ). lowest_level h z ≤ l) (sym v.whole) (least h F⁺ (positive r) l v.fits)

  own_fits : (r : ℤ) (l : ℕ) → Valid h H r l → Valid h H r (lowest_level h r)
  own_fits r l v =
      record {
        whole = v.whole;
        fits = subst (λ (z : ℤ). positive r + h.waterline ≤ h.factor * lowest_level h z) (sym v.whole) (fits h F⁺ (positive r));
        least = v.least;
        top = omega (arith, own_level r l v, v.top);
      }

  pub meets_one : (q : Choice) → Valid h H q.reserve q.level → Meets (unchanged_choice h q.reserve) (Bests.Ciphertext q) (Bests.Ciphertext q)
  meets_one q v =
      let w = own_fits q.reserve q.level v in
      let reached : Reaches h H (Bests.Ciphertext q) q.reserve (lowest_level h q.reserve) = (omega arith, own_level q.reserve q.level v) in
      record { first = w; second = w; own = w; first_reached = reached; second_reached = reached }

  -- the parts of numbers that are not below zero keep their order
  whole_le : {r r' : ℤ} → r ≡ pos (positive r) → r' ≡ pos (positive r') → r ≤ℤ r' → positive r ≤ positive r'
  whole_le {r} {r'} e e' o = omega (arith, ≤-read r r' o, ap negative e, ap negative e')

  -- ---- `add` of two ciphertexts: the smaller of two reserves is one of them
  pub meets_sum : (q q' : Choice) → Valid h H q.reserve q.level → Valid h H q'.reserve q'.level
      → Meets (unchanged_choice h (smaller q.reserve q'.reserve)) (Bests.Ciphertext q) (Bests.Ciphertext q')
  meets_sum q q' v v' = by_test P (le_z q.reserve q'.reserve) q.reserve q'.reserve
      (λ e. at q.reserve q.level v (omega signed) (record { le = subst (λ b. lib.Dec.T b) (sym e) tt }))
      (λ e. at q'.reserve q'.level v' (omega (signed, e)) (omega signed))
    where
      P : ℤ → Type 0
      P r = Meets (unchanged_choice h r) (Bests.Ciphertext q) (Bests.Ciphertext q')

      at : (r : ℤ) (l : ℕ) → Valid h H r l → r ≤ℤ q.reserve → r ≤ℤ q'.reserve → P r
      at r l u o o' =
          let w = own_fits r l u in
          record {
            first = w;
            second = w;
            own = w;
            first_reached = reached q v o;
            second_reached = reached q' v' o';
          }
        where
          reached : (t : Choice) → Valid h H t.reserve t.level → r ≤ℤ t.reserve → Reaches h H (Bests.Ciphertext t) r (lowest_level h r)
          reached t x y = (
            whole_le u.whole x.whole y,
            subst (λ (z : ℤ). lowest_level h z ≤ t.level) (sym u.whole) (least h F⁺ (positive r) t.level (omega (arith, whole_le u.whole x.whole y, x.fits))),
          )

  -- ---- `mul` with a constant
  pub waterline_valid : (l n : ℕ) → n + h.waterline ≤ h.factor * l → headroom h ≤ n → l ≤ h.top → Valid h H (at_waterline h l) l
  waterline_valid l n e f t =
      record {
        whole = is_positive (at_waterline h l) (omega (signed, parts- (pos (h.factor * l)) (pos h.waterline)));
        fits = omega (arith, positive_sub (h.factor * l) h.waterline);
        least = omega (arith, positive_sub (h.factor * l) h.waterline);
        top = t;
      }

  less_valid : (r : ℤ) (l : ℕ) → Valid h H r l → pos (headroom h) ≤ℤ (r -ℤ pos h.waterline) → Valid h H (r -ℤ pos h.waterline) l
  less_valid r l v o =
      let z : ℤ = r -ℤ pos h.waterline in
      let w : z ≡ pos (positive z) = is_positive z (omega (signed, o)) in
      record {
        whole = w;
        fits = omega (arith, parts- r (pos h.waterline), ap negative w, ap negative v.whole, v.fits);
        least = omega (arith, ≤-read (pos (headroom h)) z o, ap negative w);
        top = v.top;
      }

  module _ (q : Choice) (v : Valid h H q.reserve q.level) (o : pos (headroom h) ≤ℤ (q.reserve -ℤ pos h.waterline)) where
    at_own : Valid h H q.reserve (lowest_level h q.reserve)
    at_own = own_fits q.reserve q.level v

    constant_valid : Valid h H (at_waterline h (lowest_level h q.reserve)) (lowest_level h q.reserve)
    constant_valid = waterline_valid (lowest_level h q.reserve) (positive q.reserve) at_own.fits v.least at_own.top

    reached : Reaches h H (Bests.Ciphertext q) q.reserve (lowest_level h q.reserve)
    reached = (omega arith, own_level q.reserve q.level v)

    pub meets_times_constant : Meets (times_constant_choice h q.reserve) (Bests.Ciphertext q) Bests.Constant
    meets_times_constant =
        record { first = at_own; second = constant_valid; own = less_valid q.reserve (lowest_level h q.reserve) at_own o; first_reached = reached; second_reached = tt }

    pub meets_constant_times : Meets (constant_times_choice h q.reserve) Bests.Constant (Bests.Ciphertext q)
    meets_constant_times =
        record { first = constant_valid; second = at_own; own = less_valid q.reserve (lowest_level h q.reserve) at_own o; first_reached = tt; second_reached = reached }

    -- the constant's W is taken from the reserve
    pub constant_scale : scale_at h H q.reserve (lowest_level h q.reserve) + scale_at h H (at_waterline h (lowest_level h q.reserve)) (lowest_level h q.reserve)
        ≡ scale_at h H (q.reserve -ℤ pos h.waterline) (lowest_level h q.reserve)
    constant_scale = omega (
      arith,
      positive_sub (h.factor * lowest_level h q.reserve) h.waterline,
      at_own.fits,
      parts- q.reserve (pos h.waterline),
      ap negative v.whole,
      ap negative (less_valid q.reserve (lowest_level h q.reserve) at_own o).whole,
    )

  -- ---- `mul` of two ciphertexts
  module _ (q q' : Choice) (v : Valid h H q.reserve q.level) (v' : Valid h H q'.reserve q'.level)
      (o : pos (headroom h) ≤ℤ (product_choice h q.reserve q'.reserve).reserve) where
    abbrev p : Choice
    p = product_choice h q.reserve q'.reserve

    best : Optimal h F⁺ q.reserve q'.reserve p
    best = subst₂ (λ (x y : ℤ). Optimal h F⁺ x y (product_choice h x y)) (sym v.whole) (sym v'.whole) (optimal h F⁺ W⁺ (positive q.reserve) (positive q'.reserve))

    -- the reserve in its parts: what the operands come to, less F·l
    sum_parts : positive p.reserve + (negative p.first + negative p.second + h.factor * p.level) ≡ negative p.reserve + (positive p.first + positive p.second)
    sum_parts = omega (
      arith,
      ≡-read p.reserve (p.first +ℤ p.second -ℤ pos (h.factor * p.level))
          (best.attained ∙ (λ i. sym best.first_is i +ℤ sym best.second_is i -ℤ pos (h.factor * p.level))),
      parts+ p.first p.second,
      parts- (p.first +ℤ p.second) (pos (h.factor * p.level)),
    )

    first_below : p.first ≤ℤ q.reserve
    first_below = subst (λ (z : ℤ). z ≤ℤ q.reserve) (sym best.first_is) (smaller_below_left q.reserve (at_waterline h p.level))

    second_below : p.second ≤ℤ q'.reserve
    second_below = subst (λ (z : ℤ). z ≤ℤ q'.reserve) (sym best.second_is) (smaller_below_left q'.reserve (at_waterline h p.level))

    -- neither operand has more reserve than scale W leaves
    first_cut : positive p.first + h.waterline ≤ negative p.first + h.factor * p.level
    first_cut = omega (
      arith,
      ≤-read p.first (at_waterline h p.level)
          (subst (λ (z : ℤ). z ≤ℤ at_waterline h p.level) (sym best.first_is) (smaller_below_right q.reserve (at_waterline h p.level))),
      parts- (pos (h.factor * p.level)) (pos h.waterline),
    )

    second_cut : positive p.second + h.waterline ≤ negative p.second + h.factor * p.level
    second_cut = omega (
      arith,
      ≤-read p.second (at_waterline h p.level)
          (subst (λ (z : ℤ). z ≤ℤ at_waterline h p.level) (sym best.second_is) (smaller_below_right q'.reserve (at_waterline h p.level))),
      parts- (pos (h.factor * p.level)) (pos h.waterline),
    )

    enough : headroom h + negative p.reserve ≤ positive p.reserve + 0
    enough = ≤-read (pos (headroom h)) p.reserve o

    own_whole : p.reserve ≡ pos (positive p.reserve)
    own_whole = is_positive p.reserve (omega (signed, enough))

    first_whole : p.first ≡ pos (positive p.first)
    first_whole = is_positive p.first (omega (signed, enough, sum_parts, second_cut))

    second_whole : p.second ≡ pos (positive p.second)
    second_whole = is_positive p.second (omega (signed, enough, sum_parts, first_cut))

    -- the same in natural numbers
    sum_is : positive p.reserve + h.factor * p.level ≡ positive p.first + positive p.second
    sum_is = omega (arith, sum_parts, ap negative own_whole, ap negative first_whole, ap negative second_whole)

    first_fits : positive p.first + h.waterline ≤ h.factor * p.level
    first_fits = omega (arith, first_cut, ap negative first_whole)

    second_fits : positive p.second + h.waterline ≤ h.factor * p.level
    second_fits = omega (arith, second_cut, ap negative second_whole)

    least_left : headroom h ≤ positive p.reserve
    least_left = omega (arith, enough, ap negative own_whole)

    low : p.level ≤ q.level
    low = omega (arith, (product_level h F⁺ q.reserve q'.reserve).0, own_level q.reserve q.level v)

    low' : p.level ≤ q'.level
    low' = omega (arith, (product_level h F⁺ q.reserve q'.reserve).1, own_level q'.reserve q'.level v')

    pub meets_product : Meets p (Bests.Ciphertext q) (Bests.Ciphertext q')
    meets_product =
        record {
          first = record { whole = first_whole; fits = first_fits; least = omega (arith, sum_is, second_fits, least_left); top = omega (arith, low, v.top) };
          second = record { whole = second_whole; fits = second_fits; least = omega (arith, sum_is, first_fits, least_left); top = omega (arith, low, v.top) };
          own = record { whole = own_whole; fits = omega (arith, sum_is, first_fits, second_fits); least = least_left; top = omega (arith, low, v.top) };
          first_reached = (whole_le first_whole v.whole first_below, low);
          second_reached = (whole_le second_whole v'.whole second_below, low');
        }

    pub product_scale : scale_at h H p.first p.level + scale_at h H p.second p.level ≡ scale_at h H p.reserve p.level
    product_scale = omega (arith, sum_is, first_fits, second_fits)
