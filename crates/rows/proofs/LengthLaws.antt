-- How long lines and texts are. Assumes nothing.
use Prim.Native.Nat.{ℕ, zero, suc, ◌+◌, ◌*◌, ◌<◌, ◌≤◌, ◌^◌}
use native.Mathlib.Omega.{arith}
use native.Mathlib.Nat.{mul-suc}
use mathlib.Core.Path.{◌≡◌, ◌∙◌}
use mathlib.Core.List.{List, [], ◌∷◌, map, append-nil}
use lib.Dec.{T, ltb, ltb→lt}
use lib.IntN.{ℤ, pos, negsuc, nat_abs}
use lib.ListN.{length, length-append, length-map}
use Rattle.fields.specs.Pieces.{Bytes, tab, line_feed, join}
use Rattle.fields.specs.Numbers.{digits_of, decimal, amount_text}
use Rattle.fields.proofs.Each as E
use Rattle.fields.proofs.Each.{Each}
use Rattle.fields.proofs.DigitLaws.{digits_below, read_written}
use Rattle.fields.proofs.NumberLaws.{decimal_most, decimal_some, decimal_length}
use Rattle.rows.specs.Fields.{Holds, operand, ranged, up_to_top, amount}
use Rattle.rows.specs.Forms.{said_text}
use Rattle.rows.specs.Lines.{text_of}
use Rattle.rows.proofs.Tests.{and_first, and_second}
use Rattle.rows.proofs.FieldLaws.{Natural, number, Fields, no_field, field, greatest, Bounded, all_small}

-- ---- fields joined by tabs
abbrev total : List Bytes → ℕ
total [] = 0
total (p ∷ ps) = suc (length p) + total ps

joined : (w : Bytes) (ps : List Bytes) → length (join tab (w ∷ ps)) ≡ length w + total ps
unfolding join
joined w [] = omega arith
joined w (p ∷ ps) = length-append w (tab ∷ join tab (p ∷ ps)) ∙ (let rest = joined p ps in omega arith)

total_most : (k : ℕ) {ps : List Bytes} → Each (λ p. length p ≤ k) ps → total ps ≤ suc k * length ps
total_most k E.none = omega arith
total_most k (E.one {xs = ps} h hs) =
    let more = total_most k hs in
    let step : suc k * suc (length ps) ≡ suc k * length ps + suc k = mul-suc (suc k) (length ps) in
    omega arith

pub fields_most : (k : ℕ) (w : Bytes) {ps : List Bytes} → Each (λ p. length p ≤ k) ps → length (join tab (w ∷ ps)) ≤ length w + suc k * length ps
fields_most k w {ps} h = let whole = joined w ps in let most = total_most k h in omega arith

-- ---- a word and its numbers, whatever these are
number_most : (n : ℤ) → length (amount_text n) ≤ 21
number_most (pos n) = omega (arith, decimal_most n)
number_most (negsuc n) = omega (arith, decimal_most (suc n))

numbers_most : (ns : List ℤ) → Each (λ p. length p ≤ 21) (map amount_text ns)
numbers_most [] = E.none
numbers_most (n ∷ ns) = E.one (number_most n) (numbers_most ns)

pub said_most : (word : Bytes) (ns : List ℤ) → length (said_text word ns) ≤ length word + 22 * length ns
said_most word ns = let most = fields_most 21 word (numbers_most ns) in let count = length-map ns amount_text in omega arith

-- ---- a word and its numbers, where each is at most the greatest that its field holds
decimal_below : (n : ℕ) → n < 10 ^ 20 → n < 10 ^ length (decimal n)
unfolding digits_of
decimal_below n h = let below = digits_below (decimal n) 0 (rw append-nil at (read_written 20 n h [])) in omega arith

decimal_mono : (n high : ℕ) → high < 10 ^ 20 → n ≤ high → length (decimal n) ≤ length (decimal high)
decimal_mono n high h m = go (length (decimal high)) (decimal_some high) (decimal_below high h)
  where
    go : (k : ℕ) → 1 ≤ k → high < 10 ^ k → length (decimal n) ≤ k
    go zero least b = absurd (omega arith)
    go (suc k) least b = decimal_length n k (omega arith)

module _ (top most : ℕ) where
  -- the length of the longest number of a field, with its sign
  abbrev width : Holds → ℕ
  width operand = length (decimal most)
  width (ranged low high) = length (decimal high)
  width up_to_top = length (decimal top)
  width (amount high) = suc (length (decimal high))

  -- a tab and a number for each
  abbrev pub widths : List Holds → ℕ
  widths [] = 0
  widths (f ∷ fs) = suc (width f) + widths fs

  natural_width : {n : ℤ} (high : ℕ) → high < 10 ^ 10 → Natural n → nat_abs n ≤ high → length (amount_text n) ≤ length (decimal high)
  natural_width high few (number n) m = decimal_mono n high (omega arith) m

  amount_width : (n : ℤ) (high : ℕ) → high < 10 ^ 10 → nat_abs n ≤ high → length (amount_text n) ≤ suc (length (decimal high))
  amount_width (pos n) high few m = let l = decimal_mono n high (omega arith) m in omega arith
  amount_width (negsuc n) high few m = let l = decimal_mono (suc n) high (omega arith) m in omega arith

  field_width : (f : Holds) (n : ℤ) → greatest top most f < 10 ^ 10 → Bounded top most f n → length (amount_text n) ≤ width f
  field_width operand n few b = natural_width most few b.held b.bound
  field_width (ranged low high) n few b = natural_width high few b.held b.bound
  field_width up_to_top n few b = natural_width top few b.held b.bound
  field_width (amount high) n few b = amount_width n high few b.bound

  total_width : {fs : List Holds} {ns : List ℤ} → T (all_small top most fs) → Fields (Bounded top most) fs ns → total (map amount_text ns) ≤ widths fs
  total_width s no_field = omega arith
  total_width s (field {f = f} {n = n} {fs = fs} b bs) =
      let few = ltb→lt (greatest top most f) (10 ^ 10) (and_first (ltb (greatest top most f) (10 ^ 10)) (all_small top most fs) s) in
      let first = field_width f n few b in
      let more = total_width (and_second (ltb (greatest top most f) (10 ^ 10)) (all_small top most fs) s) bs in
      omega arith

  pub said_width : (word : Bytes) {fs : List Holds} {ns : List ℤ} → T (all_small top most fs) → Fields (Bounded top most) fs ns
      → length (said_text word ns) ≤ length word + widths fs
  said_width word {ns = ns} s b = let whole = joined word (map amount_text ns) in let most = total_width s b in omega arith

-- ---- closed lines, each with its line feed
pub text_length : (p : Bytes) (ps : List Bytes) → length (text_of (p ∷ ps)) ≡ suc (length p) + length (text_of ps)
unfolding text_of
text_length p ps = length-append p (line_feed ∷ text_of ps) ∙ omega arith

pub text_most : (k : ℕ) {ps : List Bytes} → Each (λ p. length p ≤ k) ps → length (text_of ps) ≤ suc k * length ps
unfolding text_of
text_most k E.none = omega arith
text_most k (E.one {x = p} {xs = ps} h hs) =
    let more = text_most k hs in
    let step : suc k * suc (length ps) ≡ suc k * length ps + suc k = mul-suc (suc k) (length ps) in
    omega (arith, text_length p ps)
