-- Worked by hand, on the lines of schedules: the entry of each value, the count after each line and the largest; and the answers at each line.
use Rattle.std.specs.Prelude.{ℕ, zero, suc, List, [], ◌∷◌, ◌++◌, ◌≡◌, pos, length}
use Rattle.model.specs.declared.Line.{Line}
use Rattle.model.specs.declared.Line.TheVariants.{In, Const, Neg, Rot, Add, Mul, Out, Enc, Rs, Ms, Us}
use Rattle.liveness.specs.Live.{may_drop, entry_of, one_if, live_after, answered_no, two_bytes, live_bytes}
use Rattle.liveness.specs.Kept.{peak_of}

-- of the first n numbers
abbrev pub each : (ℕ → ℕ) → ℕ → List ℕ
each f zero = []
each f (suc n) = each f n ++ (f n ∷ [])

pub record Row : Type 0 where
  pub lines : List Line
  pub entries : List ℕ
  pub counts : List ℕ
  pub peak : ℕ

-- what is computed is what the row says; those "still named later" are those with "the answer no"
abbrev pub Holds : Row → Type 0
Holds r =
    (each (entry_of r.lines) (length r.lines) ≡ r.entries) × (each (live_after r.lines) (length r.lines) ≡ r.counts)
    × (each (answered_no r.lines) (length r.lines) ≡ r.counts) × (peak_of r.lines ≡ r.peak)

-- the answers for a value after each line
abbrev pub Answered : List Line → ℕ → List ℕ → Type 0
Answered lines v answers = each (λ l. one_if (may_drop lines v l)) (length lines) ≡ answers

-- a bare header
abbrev pub bare : Row
bare = record { lines = []; entries = []; counts = []; peak = 0 }

-- document 01's listing. The constants 1, 2 and 4 are not counted; 5 is named by 6 and again by 8, and from 6 on there are two
abbrev pub listing : Row
listing =
    record {
      lines =
          In ∷ Const 7 ∷ Enc 1 20 2 ∷ Mul 0 2 ∷ Enc 1 20 2 ∷ Mul 3 4 ∷ Us 5 20 ∷ Rs 6 1 ∷ Us 5 20 ∷ Rs 8 1 ∷ Mul 7 9 ∷ Out 10 ∷ [];
      entries = 3 ∷ 4 ∷ 3 ∷ 5 ∷ 5 ∷ 8 ∷ 7 ∷ 10 ∷ 9 ∷ 10 ∷ 11 ∷ 11 ∷ [];
      counts = 1 ∷ 1 ∷ 1 ∷ 1 ∷ 1 ∷ 1 ∷ 2 ∷ 2 ∷ 2 ∷ 2 ∷ 1 ∷ 0 ∷ [];
      peak = 2;
    }

-- values that no line names
abbrev pub unnamed : Row
unnamed = record { lines = In ∷ Const 7 ∷ In ∷ []; entries = 0 ∷ 1 ∷ 2 ∷ []; counts = 0 ∷ 0 ∷ 0 ∷ []; peak = 0 }

-- a value that one line names twice, and that `out` names
abbrev pub squared : Row
squared = record { lines = In ∷ Mul 0 0 ∷ Out 1 ∷ []; entries = 1 ∷ 2 ∷ 2 ∷ []; counts = 1 ∷ 1 ∷ 0 ∷ []; peak = 1 }

-- more constants and encoded ones are alive than ciphertexts
abbrev pub encoded : Row
encoded =
    record {
      lines = In ∷ Const 7 ∷ Enc 1 20 2 ∷ Enc 1 20 2 ∷ Mul 0 2 ∷ Mul 4 3 ∷ [];
      entries = 4 ∷ 3 ∷ 4 ∷ 5 ∷ 5 ∷ 5 ∷ [];
      counts = 1 ∷ 1 ∷ 1 ∷ 1 ∷ 1 ∷ 0 ∷ [];
      peak = 1;
    }

-- 0 is named by three lines, the last time as the second operand
abbrev pub shared : Row
shared =
    record {
      lines = In ∷ Neg 0 ∷ Neg 0 ∷ Add 1 2 ∷ Add 3 0 ∷ [];
      entries = 4 ∷ 3 ∷ 3 ∷ 4 ∷ 4 ∷ [];
      counts = 1 ∷ 2 ∷ 3 ∷ 2 ∷ 0 ∷ [];
      peak = 3;
    }

-- each word of a ciphertext is counted, and `out` is not
abbrev pub every_word : Row
every_word =
    record {
      lines = In ∷ Neg 0 ∷ Rot 1 (pos 5) ∷ Add 0 2 ∷ Mul 3 3 ∷ Rs 4 1 ∷ Ms 5 1 ∷ Us 6 1 ∷ Out 7 ∷ [];
      entries = 3 ∷ 2 ∷ 3 ∷ 4 ∷ 5 ∷ 6 ∷ 7 ∷ 8 ∷ 8 ∷ [];
      counts = 1 ∷ 2 ∷ 2 ∷ 1 ∷ 1 ∷ 1 ∷ 1 ∷ 1 ∷ 0 ∷ [];
      peak = 2;
    }

-- ---- answers after each line, of values of these rows. 0 is last named by line 4, 2 by line 3; before its own line the answer is no
abbrev pub last_named : Type 0
last_named = Answered shared.lines 0 (0 ∷ 0 ∷ 0 ∷ 0 ∷ 1 ∷ [])

abbrev pub later_named : Type 0
later_named = Answered shared.lines 2 (0 ∷ 0 ∷ 0 ∷ 1 ∷ 1 ∷ [])

-- "A value never named may be dropped after its own line; for a line before its own the answer is no."
abbrev pub never_named : Type 0
never_named = Answered unnamed.lines 0 (1 ∷ 1 ∷ 1 ∷ [])

abbrev pub never_named_last : Type 0
never_named_last = Answered unnamed.lines 2 (0 ∷ 0 ∷ 1 ∷ [])

-- a constant and an `out` line are asked about as any value
abbrev pub constant_named : Type 0
constant_named = Answered encoded.lines 1 (0 ∷ 0 ∷ 0 ∷ 1 ∷ 1 ∷ 1 ∷ [])

abbrev pub out_asked : Type 0
out_asked = Answered squared.lines 2 (0 ∷ 0 ∷ 1 ∷ [])

-- ---- bytes, the lowest first, and both of them
abbrev pub squared_bytes : Type 0
squared_bytes = live_bytes squared.lines ≡ 1 ∷ 0 ∷ 1 ∷ 0 ∷ 2 ∷ 0 ∷ 1 ∷ 0 ∷ 2 ∷ 0 ∷ 0 ∷ 0 ∷ []

abbrev pub both_bytes : Type 0
both_bytes = two_bytes 1791 ≡ 255 ∷ 6 ∷ []
