-- A record by its word: its price per level, the levels at which its line's operations start, and the level that its line has. Assumes nothing.
use Prim.Native.Nat.{ℕ, zero, suc, ◌+◌, ◌-◌, ◌*◌, ◌≤◌, ◌<◌}
use native.Mathlib.Omega.{arith}
use mathlib.Core.Path.{◌≡◌, refl, sym, ap, ◌∙◌, subst}
use mathlib.Core.Bool.{Bool, true, false, cond, ◌&&◌}
use mathlib.Core.List.{List, [], ◌∷◌}
use borrow.Author.Rules.{rules}
use lib.Dec.{T, leb, leb→le}
use lib.ListN.{get_or}
use Rattle.model.specs.declared.Header.{Header}
use Rattle.model.specs.declared.Kind.{Kind}
use Rattle.model.specs.declared.Line.{Line}
use Rattle.model.specs.declared.Line.TheVariants as Lines
use Rattle.model.specs.declared.Word.{Word}
use Rattle.model.specs.declared.Word.TheVariants.{Mul, Enc, Rs, Ms}
use Rattle.model.specs.Numbering.{same_word}
use Rattle.rows.specs.Fields.{within}
use Rattle.model.specs.Files.{kind_at, is_ciphertext, in_range}
use Rattle.model.proofs.EveryWord.{each_word, every_word_lem, same_word_lem}
use Rattle.model.proofs.Tests.{and_first, and_second, within_facts, header_facts}
use Rattle.tables.specs.declared.Record.{Record}
use Rattle.tables.specs.Records.{word_number, line_with, line_of}
use Rattle.prices.specs.Prices.{summed, per_level, down_from}
use Rattle.prices.specs.Levels.{OnLevel, product_of, prices}

-- ---- the price per level by the word, where b tells whether both operands are ciphertexts
abbrev per_by : Bool → Word → ℕ
per_by b w = cond (same_word w Mul) (cond b 40 4) (get_or prices (word_number w) 0)

no_product : (w : Word) → (w ≡ Mul → ⊥) → same_word w Mul ≡ false
no_product w other = go (same_word w Mul) (same_word_lem w Mul)
  where
    go : (b : Bool) → (T b → w ≡ Mul) → b ≡ false
    go true same = absurd (other (same tt))
    go false same = refl

product_told : (b : Bool) → get_or prices (cond b 6 12) 0 ≡ cond b 40 4
product_told true = refl
product_told false = refl

module _ (lines : List Line) (r : Record) where
  abbrev both : Bool
  both = is_ciphertext (kind_at lines r.first) && is_ciphertext (kind_at lines r.second)

  told : per_level lines (line_of r) ≡ per_by both r.word
  unfolding line_of
  told = each_word (λ w. per_level lines (line_with w r.first r.second r.third)) (per_by both) refl r.word

  -- any word but `mul`
  pub other_priced : (n : ℕ) → (r.word ≡ Mul → ⊥) → n ≡ word_number r.word → get_or prices n 0 ≡ per_level lines (line_of r)
  other_priced n other is = ap (λ (m : ℕ). get_or prices m 0) is ∙ sym (told ∙ rw (no_product r.word other))

  pub product_priced : (j k : Kind) (n : ℕ) → r.word ≡ Mul → j ≡ kind_at lines r.first → k ≡ kind_at lines r.second → n ≡ product_of j k
      → get_or prices n 0 ≡ per_level lines (line_of r)
  product_priced j k n e first second is =
      ap (λ (m : ℕ). get_or prices m 0) is ∙ product_told (is_ciphertext j && is_ciphertext k) ∙ rw (first, second) (sym (told ∙ ap (per_by both) e))

pub word_among : (w : Word) (n : ℕ) → n ≡ word_number w → n < 13
word_among w n is = let below = leb→le (word_number w) 12 (every_word_lem (λ v. leb (word_number v) 12) tt w) in omega arith

among : (b : Bool) → cond b 6 12 < 13
among true = omega arith
among false = omega arith

pub product_among : (j k : Kind) (n : ℕ) → n ≡ product_of j k → n < 13
product_among j k n is = subst (λ (m : ℕ). m < 13) (sym is) (among (is_ciphertext j && is_ciphertext k))

pub ruleset operation_laws = (rules, word_among, other_priced, product_priced, product_among)

-- no price per level is above 40
all_low_lem : List ℕ → Bool
all_low_lem [] = true
all_low_lem (n ∷ ns) = leb n 40 && all_low_lem ns

entry_low : (ns : List ℕ) → T (all_low_lem ns) → (k : ℕ) → get_or ns k 0 ≤ 40
unfolding all_low_lem
entry_low [] t k = omega arith
entry_low (n ∷ ns) t zero = leb→le n 40 (and_first (leb n 40) (all_low_lem ns) t)
entry_low (n ∷ ns) t (suc k) = entry_low ns (and_second (leb n 40) (all_low_lem ns) t) k

pub price_low : (k : ℕ) → get_or prices k 0 ≤ 40
unfolding all_low_lem
price_low k = entry_low prices tt k

pub ruleset price_table = (rules, price_low)

-- ---- levels summed
-- `done` of the levels are summed
pub record Summing (level count total done : ℕ) : Type 0 where
  pub low : count ≤ level
  pub high : level ≤ 60
  pub within : done ≤ count
  pub few : total ≤ done * 60
  pub left : total + summed (down_from (level - done) (count - done)) ≡ summed (down_from level count)

pub sum_start : (level count : ℕ) → count ≤ level → level ≤ 60 → Summing level count 0 0
sum_start level count low high = record { low = low; high = high; within = omega arith; few = omega arith; left = all_left }
  where
    same : (n : ℕ) → n - 0 ≡ n
    same n = omega arith

    all_left : 0 + summed (down_from (level - 0) (count - 0)) ≡ summed (down_from level count)
    all_left =
        omega (arith, ap (λ (n : ℕ). summed (down_from n (count - 0))) (same level), ap (λ (n : ℕ). summed (down_from level n)) (same count))

module _ (level count total done : ℕ) (s : Summing level count total done) where
  pub level_left : done < count → done ≤ level
  level_left more = omega (arith, s.low)

  pub sum_more : done < count → Summing level count (total + (level - done)) (done + 1)
  sum_more more =
      record {
        low = s.low;
        high = s.high;
        within = omega arith;
        few = omega (arith, s.few, s.high);
        left = omega (arith, s.left, one_more_lem);
      }
    where
      one_less : count - done ≡ suc (count - (done + 1))
      one_less = omega arith

      lower : level - done - 1 ≡ level - (done + 1)
      lower = omega arith

      one_more_lem : summed (down_from (level - done) (count - done)) ≡ level - done + summed (down_from (level - (done + 1)) (count - (done + 1)))
      one_more_lem =
          ap (λ (n : ℕ). summed (down_from (level - done) n)) one_less
          ∙ ap (λ (l : ℕ). level - done + summed (down_from l (count - (done + 1)))) lower

  pub sum_done : count ≤ done → total ≡ summed (down_from level count)
  sum_done end =
      let none : count - done ≡ 0 = omega arith in
      omega (arith, s.left, ap (λ (n : ℕ). summed (down_from (level - done) n)) none)

  pub sum_few : total ≤ 3600
  sum_few = omega (arith, s.few, s.within, s.low, s.high)

pub ruleset sum_laws = (rules, sum_start, level_left, sum_more, sum_done, sum_few)

-- ---- a line, where its operand has level l
module _ (h : Header) (r : Record) (l : ℕ) (on : OnLevel h (line_of r) l) where
  -- the level of an `enc`, and the count of an `rs` or an `ms`
  pub encoded_small : r.word ≡ Enc → r.third ≤ 60
  unfolding line_of
  encoded_small e =
      let f : T (in_range h (Lines.Enc r.first r.second r.third)) = rw e at on.range in
      let level = within_facts 1 h.top r.third (and_second (within 1 3600 r.second) (within 1 h.top r.third) f) in
      omega (arith, level.most, (header_facts h on.header_range).top.most)

  pub encoded_few : r.word ≡ Enc → r.third ≤ 3600
  encoded_few e = omega (arith, encoded_small e)

  pub rescaled_left : r.word ≡ Rs → r.second ≤ l
  unfolding line_of
  rescaled_left e = rw e at on.low

  pub switched_left : r.word ≡ Ms → r.second ≤ l
  unfolding line_of
  switched_left e = rw e at on.low

  pub top_small : h.top ≤ 60
  top_small = (header_facts h on.header_range).top.most

  pub level_high : l ≤ 60
  level_high = on.high

  pub level_few : l ≤ 3600
  level_few = omega (arith, on.high)

  pub less_small : (n : ℕ) → l - n ≤ 60
  less_small n = omega (arith, on.high)

pub ruleset start_laws = (rules, encoded_few, rescaled_left, switched_left, level_high, level_few)

pub ruleset after_laws = (rules, encoded_small, rescaled_left, switched_left, top_small, level_high, less_small)
