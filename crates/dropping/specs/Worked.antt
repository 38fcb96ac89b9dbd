-- Document 02, Job 7, worked by hand on whole files: a schedule, what is asked, and what the call comes to. What is promised of a reply is what the
-- rows say of it, which is proved.
use Rattle.std.specs.Prelude.{ℕ, Bool, true, ◌&&◌, List, [], ◌∷◌, take}
use Prim.Native.String.{String}
use Rattle.fields.specs.Pieces.{Bytes, same_bytes}
use Rattle.services.specs.Outcomes.{Outcome, writes, passes, tells, refuses, lent}
use Rattle.services.specs.Worked.{Finding, call_comes_to, finding_code, shown, refused_at, with_lines}
use Rattle.dropping.specs.Calls.{may_drop_outcome, live_after_outcome, live_peak_outcome, live_outcome}

-- a value after a line, the count after a line, the largest count, all of it in a buffer of so many bytes, and the bytes of the first value
pub data Question : Type 0 where
  dropped : ℕ → ℕ → Question
  after : ℕ → Question
  most : Question
  all_in : ℕ → Question
  first_value : Question

abbrev pub first_four : Outcome → Outcome
first_four (writes text) = writes (take 4 text)
first_four passes = passes
first_four (tells n) = tells n
first_four (refuses n f p) = refuses n f p

abbrev pub asked : Question → Bytes → Outcome
asked (dropped value line) schedule = may_drop_outcome schedule value line
asked (after line) schedule = live_after_outcome schedule line
asked most schedule = live_peak_outcome schedule
asked (all_in room) schedule = lent room (live_outcome schedule)
asked first_value schedule = first_four (live_outcome schedule)

-- a schedule, shown with spaces for tabs
pub record Row : Type 0 where
  pub schedule : String
  pub question : Question
  pub finding : Finding

abbrev pub row : String → Question → Finding → Row
row schedule question finding = record { schedule = schedule; question = question; finding = finding }

abbrev pub yes : Finding
yes = call_comes_to (tells 1)

abbrev pub no : Finding
no = call_comes_to (tells 0)

abbrev pub so : ℕ → Finding
so n = call_comes_to (tells n)

abbrev pub all_hold : List Row → Bool
all_hold [] = true
all_hold (r ∷ rs) =
    same_bytes (finding_code (call_comes_to (asked r.question (shown r.schedule)))) (finding_code r.finding) && all_hold rs

-- document 01's listing
abbrev pub listing : String
listing =
    "schedule 60 20 2\nin\nconst 7\nenc 1 20 2\nmul 0 2\nenc 1 20 2\nmul 3 4\nus 5 20\nrs 6 1\nus 5 20\nrs 8 1\nmul 7 9\nout 10\n"

abbrev pub two : String
two = "schedule 60 20 2\nin\nin\n"

abbrev pub table : List Row
table =
    -- "answered from the value's one entry": 0 is last named by 3, 5 by 8, the constant 1 by 4, the encoded 2 by 3; line 11 is an `out`
    row listing (dropped 0 2) no ∷ row listing (dropped 0 3) yes ∷ row listing (dropped 0 11) yes
    ∷ row listing (dropped 5 7) no ∷ row listing (dropped 5 8) yes
    ∷ row listing (dropped 1 3) no ∷ row listing (dropped 1 4) yes ∷ row listing (dropped 2 2) no ∷ row listing (dropped 2 3) yes
    ∷ row listing (dropped 10 10) no ∷ row listing (dropped 10 11) yes
    ∷ row listing (dropped 11 10) no ∷ row listing (dropped 11 11) yes
    -- "A value never named may be dropped after its own line; for a line before its own the answer is no."
    ∷ row listing (dropped 5 4) no ∷ row listing (dropped 5 3) no ∷ row two (dropped 0 0) yes ∷ row two (dropped 0 1) yes ∷ row two (dropped 1 0) no ∷ row two (dropped 1 1) yes
    -- "for each line how many ciphertexts up to it are still named later", and "The largest"
    ∷ row listing (after 0) (so 1) ∷ row listing (after 5) (so 1) ∷ row listing (after 6) (so 2) ∷ row listing (after 9) (so 2)
    ∷ row listing (after 10) (so 1) ∷ row listing (after 11) (so 0)
    ∷ row listing most (so 2) ∷ row two most (so 0)
    -- four bytes for each value: entry, count
    ∷ row listing (all_in 48)
    (call_comes_to (writes (
    3 ∷ 0 ∷ 1 ∷ 0 ∷ 4 ∷ 0 ∷ 1 ∷ 0 ∷ 3 ∷ 0 ∷ 1 ∷ 0 ∷ 5 ∷ 0 ∷ 1 ∷ 0 ∷ 5 ∷ 0 ∷ 1 ∷ 0 ∷ 8 ∷ 0 ∷ 1 ∷ 0
    ∷ 7 ∷ 0 ∷ 2 ∷ 0 ∷ 10 ∷ 0 ∷ 2 ∷ 0 ∷ 9 ∷ 0 ∷ 2 ∷ 0 ∷ 10 ∷ 0 ∷ 2 ∷ 0 ∷ 11 ∷ 0 ∷ 1 ∷ 0 ∷ 11 ∷ 0 ∷ 0 ∷ 0 ∷ [])))
    ∷ row two (all_in 8) (call_comes_to (writes (0 ∷ 0 ∷ 0 ∷ 0 ∷ 1 ∷ 0 ∷ 0 ∷ 0 ∷ [])))
    -- "(0 for a bare header)"
    ∷ row "schedule 60 20 2\n" most (so 0) ∷ row "schedule 60 20 2\n" (all_in 0) (call_comes_to (writes []))
    -- "A line or value number that the schedule lacks is 4 with place 0"
    ∷ row listing (dropped 12 0) (refused_at 4 0 0) ∷ row listing (dropped 0 12) (refused_at 4 0 0) ∷ row listing (after 12) (refused_at 4 0 0)
    ∷ row two (dropped 4294967295 0) (refused_at 4 0 0) ∷ row two (dropped 65536 0) (refused_at 4 0 0) ∷ row two (after 4294967295) (refused_at 4 0 0)
    ∷ row two (after 65536) (refused_at 4 0 0) ∷ row two (dropped 0 65536) (refused_at 4 0 0) ∷ row two (dropped 2 2) (refused_at 4 0 0)
    ∷ row "schedule 60 20 2\n" (dropped 0 0) (refused_at 4 0 0) ∷ row "schedule 60 20 2\n" (after 0) (refused_at 4 0 0)
    -- "after the file's refusals", and so is 13
    ∷ row "" (dropped 9 9) (refused_at 1 1 1) ∷ row "schedule 60 20 61\n" (after 9) (refused_at 2 1 1)
    ∷ row "circuit 60 20 2\nin\n" most (refused_at 1 1 1) ∷ row "schedule 60 20 2\nin\nneg 0" (all_in 0) (refused_at 1 1 3)
    ∷ row "schedule 60 20 2\nin\nneg 1\n" (dropped 9 9) (refused_at 4 1 3) ∷ row "schedule 60 20 2\nconst 7\nneg 0\n" (after 9) (refused_at 5 1 3)
    ∷ row "schedule 60 20 2\nconst 7\nenc 0 20 3\n" (all_in 0) (refused_at 11 1 3)
    ∷ row two (all_in 7) (refused_at 13 0 0) ∷ row listing (all_in 47) (refused_at 13 0 0) ∷ row "schedule 60 20 2 5\nin\n" (all_in 4) (call_comes_to (writes (0 ∷ 0 ∷ 0 ∷ 0 ∷ [])))
    -- reading is all that is asked: a schedule that breaks a rule, and one with more than 256 lines that are kept, which erase refuses
    ∷ row "schedule 60 20 2\nin\nus 0 3600\nadd 0 1\n" most (so 2)
    ∷ row (with_lines "schedule 60 20 2\nin\n" 257 "neg 0\n") most (so 1) ∷ row (with_lines "schedule 60 20 2\nin\n" 257 "neg 0\n") (dropped 0 256) no ∷ row (with_lines "schedule 60 20 2\nin\n" 257 "neg 0\n") (dropped 0 257) yes
    -- both bytes: the entry of the first value is 257
    ∷ row (with_lines "schedule 60 20 2\nin\n" 257 "neg 0\n") first_value (call_comes_to (writes (1 ∷ 1 ∷ 1 ∷ 0 ∷ [])))
    ∷ []
