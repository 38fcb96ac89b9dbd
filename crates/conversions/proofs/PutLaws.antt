-- Lines written into a schedule: a law for each return and each need of the functions that write one line, the conversion lines of a
-- ciphertext, and an operand. Assumes nothing.
use Prim.Native.Nat.{ℕ, zero, suc, ◌+◌, ◌-◌, ◌*◌, ◌/◌, ◌≤◌, ◌<◌, min}
use native.Mathlib.Nat.{min-le_left, min-le_right, mul-le-mul_right, div-add-mod'}
use native.Mathlib.Omega.{arith}
use mathlib.Core.Path.{◌≡◌, refl, sym, ap, ◌∙◌}
use mathlib.Core.Bool.{true, false, not}
use mathlib.Core.List.{List}
use borrow.Author.Rules.{rules}
use borrow.Author.Tests.{not-true, not-false}
use lib.Dec.{T}
use lib.IntN.{ℤ, pos, negsuc, nat_abs, ◌-ℤ◌}
use lib.ListN.{length, set, length-map, length-set}
use lib.Seq.{length-take-le}
use lib.Signed.{◌≤ℤ◌, non_neg}
use mir.Syntax.{w16, w32}
use mir.Val.{Fits, SFits, to_z, of_z}
use mir.ValLaws.{to_z-of_z}
use Rattle.ints.specs.Parts.{positive}
use Rattle.ints.proofs.Linear.{is_positive, positive_sub}
use Rattle.model.specs.declared.Header.{Header}
use Rattle.model.specs.declared.Line.{Line}
use Rattle.model.specs.declared.Line.TheVariants.{Enc, Rs, Ms, Us}
use Rattle.model.specs.Plan.{Draft, emit, unless_zero, switches, convert, scale_for}
use Rattle.tables.specs.declared.Record.{Record}
use Rattle.tables.specs.Records.{line_of, lines_of, lines_held}
use Rattle.tables.proofs.HeldLines.{stored_lines}
use Rattle.conversions.specs.declared.Drafted.{Drafted}
use Rattle.conversions.specs.declared.Operand.{Operand}
use Rattle.conversions.specs.Drafts.{draft_of, line_unless_zero, Room, Wrote}
use Rattle.conversions.specs.Operands.{supplied, Falls, Reaches}

-- ---- one line
module _ (records : List Record) (count : ℕ) (room : Room records count 1) where
  counted : length (lines_held records count) ≡ count
  counted = length-take-le count (lines_of records) (omega (arith, length-map records line_of))

  pub line_put : (r : Record) (x : Line) → line_of r ≡ x → Wrote (emit (lines_held records count) x) (count + 1) (record { count = count + 1; number = count }) (set records count r)
  line_put r x e =
      record {
        same = λ i. record { lines = stored_lines records count r x (omega arith) e i; number = sym counted i };
        few = omega arith;
        long = length-set records count r ∙ room.long;
      }

-- ---- one conversion line, or none
module _ (x : Line) (records : List Record) (d : Drafted) (n : ℕ) where
  pub none_put : n ≡ 0 → Room records d.count 1 → Wrote (line_unless_zero n x (draft_of records d)) (d.count + 1) d records
  unfolding line_unless_zero
  none_put e room = rw e (record { same = refl; few = omega arith; long = room.long })

  pub some_put : (n ≡ 0 → ⊥) → (r : Drafted) (after : List Record) → Wrote (emit (lines_held records d.count) x) (d.count + 1) r after
      → Wrote (line_unless_zero n x (draft_of records d)) (d.count + 1) r after
  unfolding line_unless_zero
  some_put f r after w = rw some w
    where
      some : n ≡ suc (n - 1)
      some = omega arith

-- of the draft that it is for
unless_zero_is : (word : ℕ → ℕ → Line) (n : ℕ) (d : Draft) → line_unless_zero n (word d.number n) d ≡ unless_zero word n d
unfolding line_unless_zero
unless_zero_is word zero d = refl
unless_zero_is word (suc n) d = refl

-- ---- what takes d bits of reserve and so many levels
module _ (h : Header) (d levels q : ℕ) (e : q ≡ min (d / h.factor) levels) where
  pub switches_below : q * h.factor ≤ d
  switches_below = omega (arith, mul-le-mul_right h.factor (min-le_left (d / h.factor) levels), div-add-mod' d h.factor, ap (λ (n : ℕ). n * h.factor) e)

  pub switches_fit : Fits w32 d → Fits w32 (q * h.factor)
  switches_fit f = record { fits = omega (arith, switches_below) }

  pub switches_few : q ≤ levels
  switches_few = omega (arith, min-le_right (d / h.factor) levels)

  pub switches_small : levels ≤ 60 → Fits w16 q
  switches_small f = record { fits = omega (arith, switches_few) }

  pub conversion_put :
      (records one two three : List Record) (draft a b r : Drafted) → Wrote (line_unless_zero q (Ms draft.number q) (draft_of records draft)) (draft.count + 1) a one →
      Wrote (line_unless_zero (d - q * h.factor) (Us a.number (d - q * h.factor)) (draft_of one a)) (a.count + 1) b two →
      Wrote (line_unless_zero (levels - q) (Rs b.number (levels - q)) (draft_of two b)) (b.count + 1) r three →
      Wrote (convert h d levels (switches h d levels) (draft_of records draft)) (draft.count + 3) r three
  conversion_put records one two three draft a b r u v w =
      rw (← e)
      (record {
        same = w.same ∙ unless_zero_is Rs (levels - q) (draft_of two b)
            ∙ ap (unless_zero Rs (levels - q)) (v.same ∙ unless_zero_is Us (d - q * h.factor) (draft_of one a)
            ∙ ap (unless_zero Us (d - q * h.factor)) (u.same ∙ unless_zero_is Ms q (draft_of records draft)));
        few = omega (arith, u.few, v.few, w.few);
        long = w.long;
      })

-- what is left over
pub bits_small : (d n : ℕ) → d ≤ 3600 → Fits w16 (d - n)
bits_small d n f = record { fits = omega arith }

pub levels_small : (l n : ℕ) → l ≤ 60 → Fits w16 (l - n)
levels_small l n f = record { fits = omega arith }

-- ---- a reserve that is not below zero
whole_read : (z : ℤ) → pos 0 ≤ℤ z → T (non_neg z)
whole_read (pos n) h = tt
whole_read (negsuc n) h = absurd h.le

magnitude : (z : ℤ) → pos 0 ≤ℤ z → nat_abs z ≡ positive z
magnitude (pos n) h = refl
magnitude (negsuc n) h = absurd h.le

-- as the machine reads it
abbrev pub reading : ℤ → ℤ
reading z = to_z w32 (of_z w32 z)

module _ (z : ℤ) (s : SFits w32 z) where
  pub read_same : reading z ≡ z
  read_same = to_z-of_z w32 z s

  pub cast_whole : pos 0 ≤ℤ z → T (non_neg (reading z))
  cast_whole h = rw read_same (whole_read z h)

  pub cast_is : pos 0 ≤ℤ z → nat_abs (reading z) ≡ positive z
  cast_is h = rw read_same (magnitude z h)

  pub cast_fits : pos 0 ≤ℤ z → Fits w32 (nat_abs (reading z))
  cast_fits h = rw read_same (small z s.sfits)
    where
      small : (z : ℤ) → lib.Signed.mag z < 2147483648 → Fits w32 (nat_abs z)
      small (pos n) f = record { fits = omega arith }
      small (negsuc n) f = record { fits = omega arith }

-- ---- an operand, brought to reserve r at level l
module _ (h : Header) (o : Operand) (r : ℤ) (l : ℕ) (R : Reaches h o r l) (s : SFits w32 r) (k : ℕ) (e : k ≡ positive (reading r)) where
  kept : k ≡ positive r
  kept = e ∙ ap positive (read_same r s)

  whole : r ≡ pos (positive r)
  whole = is_positive r R.whole

  pub scale_left : k ≤ h.factor * l
  scale_left = omega (arith, kept, R.below)

  pub encoded_put :
      not o.ciphertext ≡ true → (records after : List Record) (count : ℕ) (d : Drafted) → Room records count 3 →
      Wrote (emit (lines_held records count) (Enc o.number (h.factor * l - k) l)) (count + 1) d after →
      Wrote (supplied h o r l (lines_held records count)) (count + 3) d after
  encoded_put c records after count d room w =
      let scale : scale_for h r l ≡ h.factor * l - k =
      ap (λ (z : ℤ). positive (pos (h.factor * l) -ℤ z)) whole ∙ positive_sub (h.factor * l) (positive r) ∙ ap (λ (n : ℕ). h.factor * l - n) (sym kept) in
      rw (not-true o.ciphertext c, scale) (record { same = w.same; few = omega (arith, w.few); long = w.long })

  module _ (c : not o.ciphertext ≡ false) where
    falls : Falls o r l
    falls = R.falls (not-false o.ciphertext c)

    pub level_below : l ≤ o.level
    level_below = falls.level

    pub levels_few : o.level - l ≤ 60
    levels_few = omega (arith, falls.top)

    module _ (t : SFits w32 o.reserve) where
      pub reserve_whole : pos 0 ≤ℤ reading o.reserve
      reserve_whole = rw (read_same o.reserve t) falls.whole

      module _ (m : ℕ) (f : m ≡ positive (reading o.reserve)) where
        more : m ≡ positive o.reserve
        more = f ∙ ap positive (read_same o.reserve t)

        pub reserve_below : k ≤ m
        reserve_below = omega (arith, kept, more, falls.reserve)

        pub distance_few : m - k ≤ 3600
        distance_few = omega (arith, more, falls.most)

        pub converted_put :
            (records after : List Record) (count : ℕ) (d : Drafted) →
            Wrote (convert h (m - k) (o.level - l) (switches h (m - k) (o.level - l)) (draft_of records (record { count = count; number = o.number }))) (count + 3) d after →
            Wrote (supplied h o r l (lines_held records count)) (count + 3) d after
        converted_put records after count d w =
            let distance : positive (o.reserve -ℤ r) ≡ m - k =
            ap positive (λ i. is_positive o.reserve falls.whole i -ℤ whole i) ∙ positive_sub (positive o.reserve) (positive r)
            ∙ (λ i. sym more i - sym kept i) in
            rw (not-false o.ciphertext c, distance) w

pub ruleset put_laws = (
  rules,
  line_put,
  none_put,
  some_put,
  switches_below,
  switches_fit,
  switches_few,
  switches_small,
  bits_small,
  levels_small,
  conversion_put,
  cast_whole,
  cast_is,
  cast_fits,
  scale_left,
  encoded_put,
  level_below,
  levels_few,
  reserve_whole,
  reserve_below,
  distance_few,
  converted_put,
)
