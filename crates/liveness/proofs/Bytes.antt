-- The entries and counts as bytes: two bytes of a number, and four for each value so far. Assumes nothing.
use Prim.Native.Nat.{ℕ, zero, suc, ◌+◌, ◌-◌, ◌*◌, ◌/◌, ◌%◌, ◌≤◌, ◌<◌}
use native.Mathlib.Nat.{add-zero, add-suc}
use native.Mathlib.Numerals.{add-one}
use native.Mathlib.Omega.{arith}
use mathlib.Core.Path.{◌≡◌, refl, sym, ap, ◌∙◌}
use mathlib.Core.List.{List, [], ◌++◌, append_assoc}
use mathlib.Core.Logic.{⊎_elim}
use lib.ListN.{length, get_or, length-append, get_or-append}
use lib.Seq.{get_or-append-add}
use Rattle.std.proofs.lemmas.List.{append-nil}
use Rattle.fields.specs.Pieces.{Bytes}
use Rattle.model.specs.declared.Line.{Line}
use Rattle.model.proofs.Tests.{below_or_not}
use Rattle.liveness.specs.Live.{entry_of, live_after, two_bytes, four_bytes, bytes_to, live_bytes}
use Rattle.liveness.specs.Kept.{HasEntries, HasCounts, pairs_to}

-- ---- four bytes for each value
pub pairs_length : (entries counts : List ℕ) (n : ℕ) → length (pairs_to entries counts n) ≡ 4 * n
pairs_length entries counts zero = refl
pairs_length entries counts (suc n) =
    let before = pairs_length entries counts n in
    omega (arith, before, length-append (pairs_to entries counts n) (two_bytes (get_or entries n 0) ++ two_bytes (get_or counts n 0)))

-- the two of an entry and the two of a count
abbrev pub pair_at : List ℕ → List ℕ → ℕ → Bytes
pair_at entries counts i = two_bytes (get_or entries i 0) ++ two_bytes (get_or counts i 0)

pub pairs_more : (entries counts : List ℕ) (i : ℕ) → pairs_to entries counts (i + 1) ≡ pairs_to entries counts i ++ pair_at entries counts i
pairs_more entries counts i = ap (pairs_to entries counts) (add-one i)

-- those of d values from value i on
pairs_from : List ℕ → List ℕ → ℕ → ℕ → Bytes
pairs_from entries counts i zero = []
pairs_from entries counts i (suc d) = pairs_from entries counts i d ++ pair_at entries counts (i + d)

pairs_split : (entries counts : List ℕ) (i d : ℕ) → pairs_to entries counts (i + d) ≡ pairs_to entries counts i ++ pairs_from entries counts i d
unfolding pairs_from
pairs_split entries counts i zero = rw (add-zero i) (sym (append-nil (pairs_to entries counts i)))
pairs_split entries counts i (suc d) =
    rw (add-suc i d, pairs_split entries counts i d) (append_assoc (pairs_to entries counts i) (pairs_from entries counts i d) (pair_at entries counts (i + d)))

-- those after value i
pub pairs_after : List ℕ → List ℕ → ℕ → ℕ → Bytes
pairs_after entries counts i count = pairs_from entries counts (i + 1) (count - (i + 1))

pub pairs_next :
    (entries counts : List ℕ) (i count : ℕ) → i < count →
    pairs_to entries counts count ≡ pairs_to entries counts i ++ (pair_at entries counts i ++ pairs_after entries counts i count)
unfolding pairs_after
pairs_next entries counts i count l =
    let whole : count ≡ i + 1 + (count - (i + 1)) = omega arith in
    ap (pairs_to entries counts) whole ∙ pairs_split entries counts (i + 1) (count - (i + 1))
    ∙ rw (pairs_more entries counts i) (append_assoc (pairs_to entries counts i) (pair_at entries counts i) (pairs_from entries counts (i + 1) (count - (i + 1))))

-- ---- the bytes of entries and counts that are those of the lines
module _ (lines : List Line) where
  pub pairs_live : (entries counts : List ℕ) → HasEntries lines entries → HasCounts lines counts → pairs_to entries counts (length lines) ≡ live_bytes lines
  unfolding live_bytes
  pairs_live entries counts e c = go (length lines) (omega arith)
    where
      go : (n : ℕ) → n ≤ length lines → pairs_to entries counts n ≡ bytes_to lines n
      go zero l = refl
      go (suc n) l =
          ap (λ (b : Bytes). b ++ (two_bytes (get_or entries n 0) ++ two_bytes (get_or counts n 0))) (go n (omega arith))
          ∙ ap (λ (m : ℕ). bytes_to lines n ++ (two_bytes m ++ two_bytes (get_or counts n 0))) (e.entry_is n (omega arith))
          ∙ ap (λ (m : ℕ). bytes_to lines n ++ (two_bytes (entry_of lines n) ++ two_bytes m)) (c.count_is n (omega arith))

  to_length : (n : ℕ) → length (bytes_to lines n) ≡ 4 * n
  to_length zero = refl
  to_length (suc n) = let before = to_length n in omega (arith, before, length-append (bytes_to lines n) (four_bytes lines n))

  pub live_length : length (live_bytes lines) ≡ 4 * length lines
  unfolding live_bytes
  live_length = to_length (length lines)

  -- byte k of the four of value v
  byte_at : (n v k : ℕ) → v < n → k < 4 → get_or (bytes_to lines n) (4 * v + k) 0 ≡ get_or (four_bytes lines v) k 0
  byte_at zero v k l f = absurd (omega arith)
  byte_at (suc n) v k l f = ⊎_elim (earlier (λ less. byte_at n v k less f)) here (below_or_not v n)
    where
      earlier : (v < n → get_or (bytes_to lines n) (4 * v + k) 0 ≡ get_or (four_bytes lines v) k 0) → v < n → get_or (bytes_to lines n ++ four_bytes lines n) (4 * v + k) 0 ≡ get_or (four_bytes lines v) k 0
      earlier before less = get_or-append (bytes_to lines n) (four_bytes lines n) 0 (4 * v + k) (omega (arith, to_length n)) ∙ before less

      here : n ≤ v → get_or (bytes_to lines n ++ four_bytes lines n) (4 * v + k) 0 ≡ get_or (four_bytes lines v) k 0
      here most =
          let same : v ≡ n = omega arith in
          ap (λ (m : ℕ). get_or (bytes_to lines n ++ four_bytes lines n) m 0) (let at : 4 * v + k ≡ length (bytes_to lines n) + k = omega (arith, to_length n) in at)
          ∙ get_or-append-add (bytes_to lines n) (four_bytes lines n) k 0 ∙ ap (λ (m : ℕ). get_or (four_bytes lines m) k 0) (sym same)

  module _ (v : ℕ) (inside : v < length lines) where
    at : (k : ℕ) → k < 4 → get_or (live_bytes lines) (4 * v + k) 0 ≡ get_or (four_bytes lines v) k 0
    unfolding live_bytes
    at k f = byte_at (length lines) v k inside f

    parts : (n : ℕ) → n % 256 + 256 * (n / 256) ≡ n
    parts n = omega arith

    pub entry_back : get_or (live_bytes lines) (4 * v) 0 + 256 * get_or (live_bytes lines) (4 * v + 1) 0 ≡ entry_of lines v
    entry_back =
        let low : get_or (live_bytes lines) (4 * v) 0 ≡ entry_of lines v % 256 = ap (λ (n : ℕ). get_or (live_bytes lines) n 0) (sym (add-zero (4 * v))) ∙ at 0 (omega arith) in
        let high : get_or (live_bytes lines) (4 * v + 1) 0 ≡ entry_of lines v / 256 = at 1 (omega arith) in
        omega (arith, low, high, parts (entry_of lines v))

    pub count_back : get_or (live_bytes lines) (4 * v + 2) 0 + 256 * get_or (live_bytes lines) (4 * v + 3) 0 ≡ live_after lines v
    count_back =
        let low : get_or (live_bytes lines) (4 * v + 2) 0 ≡ live_after lines v % 256 = at 2 (omega arith) in
        let high : get_or (live_bytes lines) (4 * v + 3) 0 ≡ live_after lines v / 256 = at 3 (omega arith) in
        omega (arith, low, high, parts (live_after lines v))
