-- Document 02, Job 7, on the lines of a schedule: for each value its one entry, when it may be dropped, and how many ciphertexts are live
-- after a line. "Lines are numbered as values."
use Rattle.std.specs.Prelude.{ℕ, zero, suc, ◌+◌, ◌/◌, ◌%◌, ◌≤◌, ◌<◌, Bool, true, false, cond, not, ◌&&◌, ◌||◌, List, [], ◌∷◌, ◌++◌, ◌≡◌, eqb, leb, length, drop}
use Rattle.fields.specs.Pieces.{Bytes}
use Rattle.model.specs.declared.Line.{Line}
use Rattle.model.specs.Files.{operands, kind_at, is_ciphertext}

-- whether value v is among these
abbrev pub is_among : List ℕ → ℕ → Bool
is_among [] v = false
is_among (a ∷ others) v = eqb a v || is_among others v

-- whether a line names value v
unfoldable pub names : Line → ℕ → Bool
names x v = is_among (operands x) v

-- ---- "a scan of all later lines"
-- whether one of these lines names value v
abbrev pub any_names : List Line → ℕ → Bool
any_names [] v = false
any_names (x ∷ lines) v = names x v || any_names lines v

-- whether value v is "still named later" than line l
unfoldable pub named_later : List Line → ℕ → ℕ → Bool
named_later lines v l = any_names (drop (suc l) lines) v

-- "Whether a value may be dropped after a given line": no later line names it; "for a line before its own the answer is no"
unfoldable pub may_drop : List Line → ℕ → ℕ → Bool
may_drop lines v l = leb v l && not (named_later lines v l)

-- ---- "for each value, the last line that names it"
-- the last of these lines that names value v, the first of them being line i; where none does, `otherwise`
abbrev pub last_naming : ℕ → ℕ → ℕ → List Line → ℕ
last_naming v i otherwise [] = otherwise
last_naming v i otherwise (x ∷ lines) = last_naming v (suc i) (cond (names x v) i otherwise) lines

-- "the value's one entry": "A value never named may be dropped after its own line", which is then its entry
unfoldable pub entry_of : List Line → ℕ → ℕ
entry_of lines v = last_naming v 0 v lines

-- ---- counts
-- 1 for yes and 0 for no
abbrev pub one_if : Bool → ℕ
one_if true = 1
one_if false = 0

-- how many of the first n values pass a test
abbrev pub how_many : (ℕ → Bool) → ℕ → ℕ
how_many test zero = 0
how_many test (suc n) = how_many test n + one_if (test n)

-- "for each line how many ciphertexts up to it are still named later"
unfoldable pub live_after : List Line → ℕ → ℕ
live_after lines l = how_many (λ v. is_ciphertext (kind_at lines v) && named_later lines v l) (suc l)

-- how many "ciphertexts up to it have the answer no"
unfoldable pub answered_no : List Line → ℕ → ℕ
answered_no lines l = how_many (λ v. is_ciphertext (kind_at lines v) && not (may_drop lines v l)) (suc l)

-- "after some line … as many do"
pub record Attained (lines : List Line) (most : ℕ) : Type 0 where
  pub line : ℕ
  pub there : line < length lines
  pub as_many : answered_no lines line ≡ most

-- "The largest live count over the lines …: after no line do more ciphertexts up to it have the answer no, and after some line, if there is
-- one, as many do."
pub record IsPeak (lines : List Line) (most : ℕ) : Type 0 where
  -- "(0 for a bare header)"
  pub bare : length lines ≡ 0 → most ≡ 0
  pub none_more : (l : ℕ) → l < length lines → answered_no lines l ≤ most
  pub attained : 0 < length lines → Attained lines most
  -- what follows: these are the live counts
  pub counts_are : (l : ℕ) → l < length lines → live_after lines l ≡ answered_no lines l

-- ---- all of it as bytes: for each value in order its entry, and then the count after its own line, two bytes each, the lowest first
abbrev pub two_bytes : ℕ → Bytes
two_bytes n = n % 256 ∷ n / 256 ∷ []

abbrev pub four_bytes : List Line → ℕ → Bytes
four_bytes lines v = two_bytes (entry_of lines v) ++ two_bytes (live_after lines v)

-- those of the first n values
abbrev pub bytes_to : List Line → ℕ → Bytes
bytes_to lines zero = []
bytes_to lines (suc v) = bytes_to lines v ++ four_bytes lines v

unfoldable pub live_bytes : List Line → Bytes
live_bytes lines = bytes_to lines (length lines)
