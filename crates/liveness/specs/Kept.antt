-- What the code keeps beside a table of a schedule's lines. No promise of a service rests on this.
use Rattle.std.specs.Prelude.{ℕ, zero, suc, ◌≤◌, ◌<◌, Bool, cond, ◌&&◌, List, [], ◌∷◌, ◌++◌, ◌≡◌, ltb, length, get_or, set}
use Rattle.model.specs.declared.Line.{Line}
use Rattle.model.specs.Files.{kind_at, is_ciphertext}
use Rattle.fields.specs.Pieces.{Bytes}
use Rattle.liveness.specs.declared.Liveness.{Liveness}
use Rattle.liveness.specs.Live.{entry_of, live_after, two_bytes}

-- the array with this number at each of these places
abbrev pub set_all : List ℕ → List ℕ → ℕ → List ℕ
set_all numbers [] n = numbers
set_all numbers (a ∷ places) n = set_all (set numbers a n) places n

-- none of these places is past the array
abbrev pub AllBelow : ℕ → List ℕ → Type 0
AllBelow size [] = Unit {0}
AllBelow size (a ∷ places) = (a < size) × AllBelow size places

-- an array that has the entry of each value
pub record HasEntries (lines : List Line) (entries : List ℕ) : Type 0 where
  pub wide : length entries ≡ 1792
  pub entry_is : (v : ℕ) → v < length lines → get_or entries v 0 ≡ entry_of lines v

-- an array that has the count after each line
pub record HasCounts (lines : List Line) (counts : List ℕ) : Type 0 where
  pub wide : length counts ≡ 1792
  pub count_is : (l : ℕ) → l < length lines → get_or counts l 0 ≡ live_after lines l

-- both
pub record IsLiveness (lines : List Line) (live : Liveness) : Type 0 where
  pub entries : HasEntries lines live.entries
  pub counts : HasCounts lines live.counts

-- whether value v is live after its own line: a ciphertext that a later line names, where this is its entry
abbrev pub starts_live : List Line → ℕ → ℕ → Bool
starts_live lines v entry = is_ciphertext (kind_at lines v) && ltb v entry

-- the largest of the first numbers of an array, 0 where there is none
pub record IsLargest (numbers : List ℕ) (count most : ℕ) : Type 0 where
  pub bare : count ≡ 0 → most ≡ 0
  pub none_more : (i : ℕ) → i < count → get_or numbers i 0 ≤ most
  pub place : ℕ
  pub there : 0 < count → place < count
  pub as_many : 0 < count → get_or numbers place 0 ≡ most

-- the bytes of the first numbers of two arrays, side by side
abbrev pub pairs_to : List ℕ → List ℕ → ℕ → Bytes
pairs_to entries counts zero = []
pairs_to entries counts (suc v) = pairs_to entries counts v ++ (two_bytes (get_or entries v 0) ++ two_bytes (get_or counts v 0))

-- the largest of the first n of some numbers, and of the counts after all lines; 0 where there is none
abbrev pub largest_to : (ℕ → ℕ) → ℕ → ℕ
largest_to number zero = 0
largest_to number (suc n) = cond (ltb (largest_to number n) (number n)) (number n) (largest_to number n)

unfoldable pub peak_of : List Line → ℕ
peak_of lines = largest_to (live_after lines) (length lines)
