-- Document 02, Job 2: schedules that go out, worked by hand, on whole files.
use Rattle.std.specs.Prelude.{Bool, true, ◌&&◌, List, [], ◌∷◌, ℕ}
use Prim.Native.String.{String}
use Rattle.fields.specs.Pieces.{same_bytes}
use Rattle.services.specs.Worked.{Finding, call_comes_to, finding_code, shown, written, refused_at, with_lines}
use Rattle.services.specs.Outcomes.{lent}
use Rattle.risingwriter.specs.Calls.{to_rising_outcome}

-- a schedule, the bytes that are lent, and what the call then comes to
pub record Row : Type 0 where
  pub schedule : String
  pub room : ℕ
  pub finding : Finding

abbrev pub row : String → Finding → Row
row schedule finding = record { schedule = schedule; room = 4096; finding = finding }

abbrev pub row_in : ℕ → String → Finding → Row
row_in room schedule finding = record { schedule = schedule; room = room; finding = finding }

abbrev pub all_hold : List Row → Bool
all_hold [] = true
all_hold (r ∷ rs) =
    same_bytes (finding_code (call_comes_to (lent r.room (to_rising_outcome (shown r.schedule))))) (finding_code r.finding) && all_hold rs

abbrev pub table : List Row
table =
    -- "In `enc`, level E becomes L − E"; counts of `rs` and `ms` and the header's numbers stay
    row "schedule 60 20 2\n" (written "rising 60 20 2\n")
    ∷ row "schedule 60 20 2\nin\nconst 7\nenc 1 20 2\nmul 0 2\nms 3 1\nenc 1 20 1\nout 4\n"
    (written "rising 60 20 2\nin\nconst 7\nenc 1 20 0\nmul 0 2\nms 3 1\nenc 1 20 1\nout 4\n")
    ∷ row "schedule 60 20 5\nconst 7\nenc 0 20 4\nenc 0 20 5\nenc 0 20 1\n"
    (written "rising 60 20 5\nconst 7\nenc 0 20 1\nenc 0 20 0\nenc 0 20 4\n")
    -- "Going out, nothing is folded into `ds`."
    ∷ row "schedule 60 20 2\nin\nus 0 60\nrs 1 1\nout 2\n" (written "rising 60 20 2\nin\nus 0 60\nrs 1 1\nout 2\n")
    -- "held to the check's line rules likewise": 7, 8, 10, 9, at the schedule's line
    ∷ row "schedule 60 20 2\nin\nms 0 1\nadd 0 1\n" (refused_at 7 1 4)
    ∷ row "schedule 60 20 2\nin\nus 0 1\nadd 0 1\n" (refused_at 8 1 4)
    ∷ row "schedule 60 20 2\nin\nus 0 1\nms 1 1\nadd 0 2\n" (refused_at 7 1 5)
    ∷ row "schedule 60 20 2\nin\nus 0 59\nrs 1 1\n" (refused_at 10 1 4)
    ∷ row "schedule 1 60 60\nconst 1\nenc 0 2 1\n" (refused_at 10 1 3)
    ∷ row "schedule 60 20 2\nin\nus 0 100\n" (written "rising 60 20 2\nin\nus 0 100\n")
    ∷ row "schedule 60 20 2\nin\nus 0 101\n" (refused_at 9 1 3)
    -- and to no circuit; it is read as for erase: no `ds`, levels from 1 to L, "a 257th kept line is 3"
    ∷ row "schedule 60 20 2\nin\nds 0\n" (refused_at 1 1 3)
    ∷ row "rising 60 20 2\nin\n" (refused_at 1 1 1)
    ∷ row "schedule 60 20 2\nconst 7\nenc 0 20 0\n" (refused_at 11 1 3)
    ∷ row "schedule 60 20 2\nconst 7\nenc 0 20 3\n" (refused_at 11 1 3)
    ∷ row "schedule 60 20 2\nin\nneg 1\n" (refused_at 4 1 3)
    ∷ row "schedule 60 20 2\nconst 7\nneg 0\n" (refused_at 5 1 3)
    ∷ row "schedule 60 20 61\n" (refused_at 2 1 1)
    ∷ row_in 0 (with_lines "schedule 60 20 2\n" 257 "in\n") (refused_at 3 1 258)
    -- all is read before a rule is broken, and 13 last: the buffer exactly long enough, and one byte short
    ∷ row "schedule 60 20 2\nin\nus 0 101\nneg 9\n" (refused_at 4 1 4)
    ∷ row_in 0 "schedule 60 20 2\nin\nus 0 101\n" (refused_at 9 1 3)
    ∷ row_in 18 "schedule 60 20 2\nin\n" (written "rising 60 20 2\nin\n")
    ∷ row_in 17 "schedule 60 20 2\nin\n" (refused_at 13 0 0)
    -- Document 02, Job 3: H goes out with the other numbers; 9 and 2 take it in; an empty fourth field and a fifth number are 1
    ∷ row "schedule 60 20 2 5\n" (written "rising 60 20 2 5\n")
    ∷ row "schedule 60 20 1 5\nconst 7\nenc 0 55 1\n" (written "rising 60 20 1 5\nconst 7\nenc 0 55 0\n")
    ∷ row "schedule 60 20 1 5\nconst 7\nenc 0 56 1\n" (refused_at 9 1 3)
    ∷ row "schedule 60 20 1 40\nin\n" (written "rising 60 20 1 40\nin\n")
    ∷ row "schedule 60 20 1 41\nin\n" (refused_at 9 1 2)
    ∷ row "schedule 60 20 1 5\nin\nus 0 36\n" (refused_at 9 1 3)
    ∷ row "schedule 60 20 1 21\nin\nmul 0 0\n" (refused_at 9 1 3)
    ∷ row "schedule 60 20 2 41\nin\nms 0 1\n" (refused_at 9 1 3)
    ∷ row "schedule 60 20 2 0\n" (refused_at 2 1 1)
    ∷ row "schedule 60 20 2 61\n" (refused_at 2 1 1)
    ∷ row "schedule 60 20 2 \n" (refused_at 1 1 1)
    ∷ row "schedule 60 20 2 5 5\n" (refused_at 1 1 1)
    ∷ row_in 21 "schedule 60 20 1 40\nin\n" (written "rising 60 20 1 40\nin\n")
    ∷ row_in 20 "schedule 60 20 1 40\nin\n" (refused_at 13 0 0)
    ∷ []
