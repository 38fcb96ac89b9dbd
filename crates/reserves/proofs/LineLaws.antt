-- A law for each need of the function that takes a line as a whole: its operands are there, and each word comes to what the machine makes of them.
-- Assumes nothing.
use Prim.Native.Nat.{ℕ, zero, suc, ◌+◌, ◌<◌}
use native.Mathlib.Omega.{arith}
use mathlib.Core.Bool.{false}
use mathlib.Core.List.{List, [], ◌∷◌}
use mathlib.Core.Option.{some, some-injective, none-ne-some}
use native.Mathlib.Nat.{mul-le-mul}
use mathlib.Core.Path.{◌≡◌, refl, sym, ap, ◌∙◌, subst, subst₂}
use borrow.Author.Rules.{rules}
use lib.Dec.{T}
use lib.IntN.{ℤ, pos, ◌-ℤ◌}
use lib.ListN.{length, get_or, get_elem?, take}
use lib.Signed.{mag, lt_z}
use Rattle.ints.proofs.Linear.{signed}
use Rattle.model.specs.declared.Best.{Best}
use Rattle.model.specs.declared.Best.TheVariants as Bests
use Rattle.model.specs.declared.Choice.{Choice}
use Rattle.model.specs.declared.Grammar.TheVariants.{Circuit}
use Rattle.model.specs.declared.Header.{Header}
use Rattle.model.specs.declared.Kind.{Kind}
use Rattle.model.specs.declared.Kind.TheVariants.{Ciphertext}
use Rattle.model.specs.declared.Line.{Line}
use Rattle.model.specs.declared.Line.TheVariants.{In, Const, Neg, Rot, Add, Mul, Out, Free}
use Rattle.model.specs.Files.{is_word, operands, kind_at, is_usable, every_usable, is_ciphertext, is_pair}
use Rattle.model.specs.Machine.{Step, goes, stops}
use Rattle.model.specs.Plan.{smaller, at_waterline, input_choice, unchanged_choice, times_constant_choice, constant_times_choice, product_choice, unless_too_few, on_best, on_reserves, choice_of}
use Rattle.model.specs.Scales.{headroom}
use Rattle.model.proofs.Formed.{usable_below, Named, OnOperand, OnOperands}
use Rattle.model.proofs.Outcomes.{Outcome}
use Rattle.model.proofs.Supplies.{ValidBest}
use Rattle.model.proofs.Tests.{and_first, and_second, by_test}
use Rattle.tables.specs.Bests.{reserves_run}
use Rattle.tables.specs.declared.Record.{Record}
use Rattle.tables.specs.Records.{lines_of, lines_held}
use Rattle.std.specs.Prelude.{Result}
use Rattle.model.specs.declared.Fault.{Fault}
use Rattle.reserves.specs.Pairs.{KnownOperand, pair_reserve, sum_reserve, product_reserve}
use Rattle.choices.specs.Ranges.{HeaderRanges, Small}
use Rattle.reserves.specs.Walks.{step_of, unless_too_low, one_more, KnownTo}
use Rattle.choices.proofs.ChoiceLaws.{ranges, top_modulus}
use Rattle.reserves.proofs.Known.{before, before_long, bests, header_in_range_lem, header_ranged, line_facts, Holds, matched, StopsAs, GoesAs, line_comes}
use Rattle.choices.proofs.Readings.{held, result_held, small_held}

-- ---- one line, the i-th
module _ {h : Header} {records : List Record} {reserves : List ℤ} {i : ℕ} (k : KnownTo h records reserves i) where
  pub header_fits : HeaderRanges h
  header_fits = ranges h (header_ranged k)

  valid_small : (b : Best) → ValidBest h (header_ranged k) b → Small (choice_of b).reserve
  valid_small Bests.Constant v = record { low = omega signed; high = omega signed }
  valid_small (Bests.Ciphertext p) v =
      record {
        low = omega (signed, v.whole);
        high = omega (signed, v.whole, v.fits, mul-le-mul header_fits.factor_most v.top, header_fits.top_most);
      }

  -- the n-th value that the line names is known
  module _ {x : Line} (e : x ≡ get_or (lines_of records) i Free) (y : Line) (which : x ≡ y) where
    is_line : get_or (lines_of records) i Free ≡ y
    is_line = sym e ∙ which

    named : (n a : ℕ) → get_elem? (operands y) n ≡ some a → KnownOperand records reserves a
    named n a at = found ((matched k).named a usable)
      where
        every : T (every_usable (before k) (operands y))
        every = subst (λ (z : Line). T (every_usable (before k) (operands z))) is_line (line_facts k).usable

        usable : T (is_usable (kind_at (before k) a))
        usable = among (operands y) n every at
          where
            among : (ns : List ℕ) (n : ℕ) → T (every_usable (before k) ns) → get_elem? ns n ≡ some a → T (is_usable (kind_at (before k) a))
            among [] n t at = absurd (none-ne-some _ at)
            among (b ∷ ns) zero t at =
                subst (λ (c : ℕ). T (is_usable (kind_at (before k) c))) (some-injective b a at)
                (and_first (is_usable (kind_at (before k) b)) (every_usable (before k) ns) t)
            among (b ∷ ns) (suc n) t at = among ns n (and_second (is_usable (kind_at (before k) b)) (every_usable (before k) ns) t) at

        found : Named (Holds k) (kind_at (before k) a) (bests k) a → KnownOperand records reserves a
        found o =
            record {
              recorded = omega (arith, usable_below (before k) a usable, before_long k, k.some);
              known = omega (arith, usable_below (before k) a usable, before_long k, k.room);
              small = subst Small o.fits.reserve_is (valid_small o.value o.fits.valid);
            }

    pub first_named : (a : ℕ) → get_elem? (operands y) 0 ≡ some a → KnownOperand records reserves a
    first_named a at = named 0 a at

    pub second_named : (a : ℕ) → get_elem? (operands y) 1 ≡ some a → KnownOperand records reserves a
    second_named a at = named 1 a at

    pub first_read : (a : ℕ) → get_elem? (operands y) 0 ≡ some a → a < length reserves
    first_read a at = (named 0 a at).known

  -- ---- words
  -- what is tested is the reserve
  chosen : (s : Step ℤ ℕ) (p : Choice) → s ≡ unless_too_low h p.reserve → Outcome (StopsAs k s) (GoesAs k s) (unless_too_few h p)
  chosen s p e =
      by_test (Outcome (StopsAs k s) (GoesAs k s)) (lt_z p.reserve (pos (headroom h))) (stops 6) (goes (Bests.Ciphertext p)) (λ t. sym (e ∙ rw t)) (λ t. sym (e ∙ rw t))

  -- a ciphertext
  on_ciphertext_lem : (s : Step ℤ ℕ) (a : ℕ) (f : Choice → Step Best ℕ)
      → ((p : Choice) → p.reserve ≡ get_or reserves a (pos 0) → Outcome (StopsAs k s) (GoesAs k s) (f p))
      → OnOperand (StopsAs k s) (Holds k) (GoesAs k s) a Ciphertext (on_best f)
  on_ciphertext_lem s a f n Bests.Constant o = absurd (subst (λ (j : Kind). T (is_ciphertext j)) o.kind_is tt)
  on_ciphertext_lem s a f n (Bests.Ciphertext p) o = n p o.reserve_is

  -- a ciphertext and a constant, or two ciphertexts
  module _ (s : Step ℤ ℕ) (a b : ℕ) (both : ℤ → ℤ → Choice) (left right : ℤ → Choice) (one : ℤ → ℤ) (l : (r : ℤ) → one r ≡ (left r).reserve) (r : (r : ℤ) → one r ≡ (right r).reserve)
      (e : s ≡ unless_too_low h (pair_reserve (λ r r'. (both r r').reserve) one records reserves a b)) where
    reserve_is : (p : Choice) → pair_reserve (λ r r'. (both r r').reserve) one records reserves a b ≡ p.reserve → Outcome (StopsAs k s) (GoesAs k s) (unless_too_few h p)
    reserve_is p q = chosen s p (e ∙ ap (unless_too_low h) q)

    on_pair_lem : OnOperands (StopsAs k s) (Holds k) (GoesAs k s) Circuit a b (on_reserves h both left right)
    on_pair_lem j j' Bests.Constant Bests.Constant t o p = absurd (subst₂ (λ (m n : Kind). T (is_pair Circuit m n)) o.kind_is p.kind_is t)
    on_pair_lem j j' Bests.Constant (Bests.Ciphertext q) t o p = reserve_is (right q.reserve) (rw (o.bare_is, ← p.reserve_is) (r q.reserve))
    on_pair_lem j j' (Bests.Ciphertext q) Bests.Constant t o p = reserve_is (left q.reserve) (rw (o.bare_is, p.bare_is, ← o.reserve_is) (l q.reserve))
    on_pair_lem j j' (Bests.Ciphertext q) (Bests.Ciphertext q') t o p =
        reserve_is (both q.reserve q'.reserve) (rw (o.bare_is, p.bare_is, ← o.reserve_is, ← p.reserve_is))

  module _ {x : Line} (e : x ≡ get_or (lines_of records) i Free) where
    abbrev Comes : Step ℤ ℕ → Type 0
    Comes s = reserves_run h (lines_held records (i + 1)) ≡ one_more i (take i reserves) s

    -- a line that leaves as much as its operand
    one_comes : (s : Step ℤ ℕ) (a : ℕ) → s ≡ unless_too_low h (held (get_or reserves a (pos 0))) → KnownOperand records reserves a
        → OnOperand (StopsAs k s) (Holds k) (GoesAs k s) a Ciphertext (on_best (λ p. unless_too_few h (unchanged_choice h p.reserve)))
    one_comes s a q o = on_ciphertext_lem s a (λ p. unless_too_few h (unchanged_choice h p.reserve))
        (λ p w. chosen s (unchanged_choice h p.reserve) (q ∙ ap (unless_too_low h) (small_held (get_or reserves a (pos 0)) o.small ∙ sym w)))

    -- the reserve that was computed and then tested
    tested : (s : Step ℤ ℕ) (z r : ℤ) → mag z < 2147483648 → z ≡ r → s ≡ unless_too_low h (held z) → s ≡ unless_too_low h r
    tested s z r f q w = w ∙ ap (unless_too_low h) (result_held z f ∙ q)

    module _ (r : Result ℤ Fault) where
      pub in_comes : (z : ℤ) → x ≡ In → mag z < 2147483648 → z ≡ at_waterline h h.top → step_of r ≡ unless_too_low h (held z) → Comes (step_of r)
      in_comes z is f q w =
          line_comes k (step_of r) In (sym e ∙ is) (λ n. chosen (step_of r) (input_choice h) (tested (step_of r) z (at_waterline h h.top) f q w))

      module _ (a : ℕ) (w : step_of r ≡ unless_too_low h (held (get_or reserves a (pos 0)))) where
        pub neg_comes : x ≡ Neg a → Comes (step_of r)
        neg_comes is = line_comes k (step_of r) (Neg a) (sym e ∙ is) (one_comes (step_of r) a w (first_named e (Neg a) is a refl))

        pub rot_comes : (t : ℤ) → x ≡ Rot a t → Comes (step_of r)
        rot_comes t is = line_comes k (step_of r) (Rot a t) (sym e ∙ is) (one_comes (step_of r) a w (first_named e (Rot a t) is a refl))

      module _ (a b : ℕ) (z : ℤ) (f : mag z < 2147483648) (w : step_of r ≡ unless_too_low h (held z)) where
        pub add_comes : x ≡ Add a b → z ≡ sum_reserve records reserves a b → Comes (step_of r)
        unfolding sum_reserve
        add_comes is q = line_comes k (step_of r) (Add a b) (sym e ∙ is)
            (on_pair_lem (step_of r) a b (λ r r'. unchanged_choice h (smaller r r')) (unchanged_choice h) (unchanged_choice h) (λ r. r) (λ r. refl) (λ r. refl)
            (tested (step_of r) z (sum_reserve records reserves a b) f q w))

        pub mul_comes : x ≡ Mul a b → z ≡ product_reserve h records reserves a b → Comes (step_of r)
        unfolding product_reserve
        mul_comes is q = line_comes k (step_of r) (Mul a b) (sym e ∙ is)
            (on_pair_lem (step_of r) a b (product_choice h) (times_constant_choice h) (constant_times_choice h) (λ r. r -ℤ pos h.waterline) (λ r. refl) (λ r. refl)
            (tested (step_of r) z (product_reserve h records reserves a b) f q w))

    pub constant_comes : (n : ℕ) → x ≡ Const n → Comes (goes (pos 0))
    constant_comes n is = line_comes k (goes (pos 0)) (Const n) (sym e ∙ is) refl

    pub out_comes : (a : ℕ) → x ≡ Out a → Comes (goes (held (get_or reserves a (pos 0))))
    out_comes a is = line_comes k (goes (held (get_or reserves a (pos 0)))) (Out a) (sym e ∙ is)
        (on_ciphertext_lem (goes (held (get_or reserves a (pos 0)))) a (λ p. goes (Bests.Ciphertext p))
        (λ p w. ap goes (w ∙ sym (small_held (get_or reserves a (pos 0)) (first_named e (Out a) is a refl).small))))

    -- a word that no circuit has
    pub no_word : (y : Line) → x ≡ y → is_word Circuit y ≡ false → (s : Step ℤ ℕ) → Comes s
    no_word y is f s = absurd (subst T (ap (is_word Circuit) (sym e ∙ is) ∙ f) (line_facts k).word)

pub ruleset lines = (
  rules,
  header_in_range_lem,
  header_fits,
  top_modulus,
  first_named,
  second_named,
  first_read,
  in_comes,
  constant_comes,
  neg_comes,
  rot_comes,
  add_comes,
  mul_comes,
  out_comes,
  no_word,
)
