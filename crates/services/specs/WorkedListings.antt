-- Document 02, Job 2: listings worked by hand, a row for each clause, on whole files.
use Rattle.std.specs.Prelude.{ℕ, Bool, true, ◌&&◌, List, [], ◌∷◌, ◌++◌, eqb, replicate}
use Rattle.model.specs.declared.Line.{Line}
use Rattle.model.specs.declared.Line.TheVariants.{In, Rs}
use Rattle.services.specs.Calls.{full_at}
use Rattle.services.specs.Worked.{Row, row, erase, from_rising, with_room, reply_to, gives, written, refused_at, append, with_lines}

-- "too many lines after conversion is 3 at the first line that no longer fits": the place that the code gives (`Calls.full_at`, from value 0
-- on and with no line used so far), of so many inputs and then so many times `ds 0`, which a table holds as `rs 0 0` and which becomes two
-- lines. Whole texts of that length are too long to compute with here, and stand among the tests from outside.
abbrev pub downscales : ℕ → ℕ → List Line
downscales inputs times = replicate inputs In ++ replicate times (Rs 0 0)

abbrev pub full_places : List (ℕ × ℕ)
full_places =
    (full_at 0 0 (downscales 100 847), 948) ∷ (full_at 0 0 (downscales 101 846), 948) ∷ (full_at 0 0 (downscales 102 846), 949)
    ∷ (full_at 0 0 (downscales 99 847), 947) ∷ (full_at 0 0 (downscales 1 897), 898) ∷ []

abbrev pub all_alike : List (ℕ × ℕ) → Bool
all_alike [] = true
all_alike ((m, n) ∷ more) = eqb m n && all_alike more

abbrev pub listing_rows : List Row
listing_rows =
    -- "levels count up from 0": a header alone; "In `enc`, level E becomes L − E"; counts of `rs` and `ms` stay
    row "rising 60 20 2\n" from_rising (written "schedule 60 20 2\n")
    ∷ row "rising 60 20 2\nin\nconst 7\nenc 1 20 0\nmul 0 2\nms 3 1\nout 4\n" from_rising
    (written "schedule 60 20 2\nin\nconst 7\nenc 1 20 2\nmul 0 2\nms 3 1\nout 4\n")
    ∷ row "rising 60 20 2\nconst 7\nenc 0 20 1\n" from_rising (written "schedule 60 20 2\nconst 7\nenc 0 20 1\n")
    ∷ row "rising 60 20 5\nconst 7\nenc 0 20 1\n" from_rising (written "schedule 60 20 5\nconst 7\nenc 0 20 4\n")
    -- "so the written level runs from 0 to L − 1", else 11, as are scales outside 1 to 3600
    ∷ row "rising 60 20 2\nconst 7\nenc 0 20 2\n" from_rising (refused_at 11 1 3)
    ∷ row "rising 60 20 2\nconst 7\nenc 0 20 3\n" from_rising (refused_at 11 1 3)
    ∷ row "rising 60 20 2\nconst 7\nenc 0 0 1\n" from_rising (refused_at 11 1 3)
    ∷ row "rising 60 20 2\nconst 7\nenc 0 3601 1\n" from_rising (refused_at 11 1 3)
    ∷ row "rising 60 20 1\nconst 7\nenc 0 20 0\n" from_rising (written "schedule 60 20 1\nconst 7\nenc 0 20 1\n")
    ∷ row "rising 60 20 1\nconst 7\nenc 0 20 1\n" from_rising (refused_at 11 1 3)
    ∷ row "rising 60 20 2\nconst 7\nenc 0 20 4294967296\n" from_rising (refused_at 11 1 3)
    -- "A `ds` at scale s becomes `us` by W + F − s and `rs` by 1", and its users name the `rs`
    ∷ row "rising 60 20 2\nin\nds 0\nout 1\n" from_rising (written "schedule 60 20 2\nin\nus 0 60\nrs 1 1\nout 2\n")
    ∷ row "rising 60 20 2\nin\nmul 0 0\nds 1\nmul 2 2\n" from_rising
    (written "schedule 60 20 2\nin\nmul 0 0\nus 1 40\nrs 2 1\nmul 3 3\n")
    -- equal conversions are not shared: each user names its own `rs`
    ∷ row "rising 60 20 2\nin\nds 0\nds 0\nmul 1 2\nadd 1 2\n" from_rising
    (written "schedule 60 20 2\nin\nus 0 60\nrs 1 1\nus 0 60\nrs 3 1\nmul 2 4\nadd 2 4\n")
    -- lines between and after them name what stands for what they named, whatever their word
    ∷ row "rising 60 20 3\nin\nneg 0\nds 0\nneg 1\nds 1\nadd 4 2\nadd 3 1\n" from_rising
    (written "schedule 60 20 3\nin\nneg 0\nus 0 60\nrs 2 1\nneg 1\nus 1 60\nrs 5 1\nadd 6 3\nadd 4 1\n")
    ∷ row "rising 60 20 3\nin\nds 0\nconst 7\nenc 2 20 1\nmul 1 3\nneg 4\nrot 5 -3\nus 6 40\nrs 7 1\n" from_rising
    (written "schedule 60 20 3\nin\nus 0 60\nrs 1 1\nconst 7\nenc 3 20 2\nmul 2 4\nneg 5\nrot 6 -3\nus 7 40\nrs 8 1\n")
    ∷ row "rising 60 20 3\nin\nds 0\nneg 1\nms 2 1\nout 3\n" from_rising
    (written "schedule 60 20 3\nin\nus 0 60\nrs 1 1\nneg 2\nms 3 1\nout 4\n")
    -- a `ds` after a `ds`
    ∷ row "rising 60 20 3\nin\nds 0\nds 1\n" from_rising (written "schedule 60 20 3\nin\nus 0 60\nrs 1 1\nus 2 60\nrs 3 1\n")
    -- "14, `ds` on a scale not below W + F": at 79 its `us` is by 1; at 80, 14. Where 14 is told, 9 would not be: the operand's scale fits.
    ∷ row "rising 60 20 2\nin\nus 0 59\nds 1\n" from_rising (written "schedule 60 20 2\nin\nus 0 59\nus 1 1\nrs 2 1\n")
    ∷ row "rising 60 20 2\nin\nus 0 60\nds 1\n" from_rising (refused_at 14 1 4)
    ∷ row "rising 60 20 2\nin\nus 0 61\nds 1\n" from_rising (refused_at 14 1 4)
    ∷ row "rising 60 40 2\nin\nus 0 60\nds 1\n" from_rising (refused_at 14 1 4)
    -- "`ds` being legal where its two lines are": its `us` at scale W + F, 120 of 120 bits; 119 of 118 is 9
    ∷ row "rising 60 60 2\nin\nds 0\n" from_rising (written "schedule 60 60 2\nin\nus 0 60\nrs 1 1\n")
    ∷ row "rising 59 60 2\nin\nds 0\n" from_rising (refused_at 9 1 3)
    -- at the last level 9, never 10 or 14
    ∷ row "rising 60 20 1\nin\nds 0\n" from_rising (refused_at 9 1 3)
    ∷ row "rising 60 20 1\nin\nus 0 40\nds 1\n" from_rising (refused_at 9 1 4)
    ∷ row "rising 60 20 2\nin\nds 0\nds 1\n" from_rising (refused_at 9 1 4)
    -- "A broken rule is refused as in the check, at the listing's line": 7, 8, 10, 9, in this order
    ∷ row "rising 60 20 2\nin\nds 0\nadd 0 1\n" from_rising (refused_at 7 1 4)
    ∷ row "rising 60 20 2\nin\nds 0\nmul 0 1\n" from_rising (refused_at 7 1 4)
    ∷ row "rising 60 20 2\nin\nds 0\nus 1 1\nadd 0 2\n" from_rising (refused_at 7 1 5)
    ∷ row "rising 60 20 2\nin\nus 0 90\nds 0\nmul 1 2\n" from_rising (refused_at 7 1 5)
    ∷ row "rising 60 20 2\nin\nds 0\nds 0\nus 1 1\nadd 3 2\n" from_rising (refused_at 8 1 6)
    ∷ row "rising 1 60 60\nconst 1\nenc 0 2 59\n" from_rising (refused_at 10 1 3)
    ∷ row "rising 60 20 2\nin\nus 0 59\nrs 1 1\n" from_rising (refused_at 10 1 4)
    ∷ row "rising 60 20 2\nin\nus 0 101\n" from_rising (refused_at 9 1 3)
    ∷ row "rising 60 20 2\nin\nms 0 2\n" from_rising (refused_at 9 1 3)
    ∷ row "rising 60 20 2\nin\nms 0 3\n" from_rising (refused_at 9 1 3)
    ∷ row "rising 60 20 2\nin\nrs 0 3\n" from_rising (refused_at 10 1 3)
    ∷ row "rising 60 20 2\nconst 7\nenc 0 19 1\n" from_rising (refused_at 10 1 3)
    ∷ row "rising 60 20 2\nconst 7\nenc 0 60 1\n" from_rising (written "schedule 60 20 2\nconst 7\nenc 0 60 1\n")
    ∷ row "rising 60 20 2\nconst 7\nenc 0 61 1\n" from_rising (refused_at 9 1 3)
    ∷ row "rising 60 20 2\nconst 7\nenc 0 120 0\n" from_rising (written "schedule 60 20 2\nconst 7\nenc 0 120 2\n")
    ∷ row "rising 60 20 2\nconst 7\nenc 0 121 0\n" from_rising (refused_at 9 1 3)
    ∷ row "rising 59 60 1\nin\n" from_rising (refused_at 9 1 2)
    -- "The header word is `rising`, the rest a schedule's grammar": another word, an unknown one, `ds` with a field too many or none
    ∷ row "schedule 60 20 2\nin\n" from_rising (refused_at 1 1 1)
    ∷ row "rising 60 20 2" from_rising (refused_at 1 1 1)
    ∷ row "" from_rising (refused_at 1 1 1)
    ∷ row "rising 61 20 2\n" from_rising (refused_at 2 1 1)
    ∷ row "rising 60 20 2\nin\nds 0 1\n" from_rising (refused_at 1 1 3)
    ∷ row "rising 60 20 2\nin\nds\n" from_rising (refused_at 1 1 3)
    ∷ row "rising 60 20 2\nin\nds 0" from_rising (refused_at 1 1 3)
    ∷ row "rising 60 20 2\nin\nds 00\n" from_rising (refused_at 1 1 3)
    ∷ row "rising 60 20 2\nin\nds -0\n" from_rising (refused_at 1 1 3)
    ∷ row "rising 60 20 2\nin\ndss 0\n" from_rising (refused_at 1 1 3)
    ∷ row "rising 60 20 2\nin\nd 0\n" from_rising (refused_at 1 1 3)
    ∷ row "schedule 60 20 2\nin\nds 0\n" erase (refused_at 1 1 3)
    -- `ds` takes a ciphertext and is one; an operand number has no range of its own
    ∷ row "rising 60 20 2\nds 0\n" from_rising (refused_at 4 1 2)
    ∷ row "rising 60 20 2\nin\nds 1\n" from_rising (refused_at 4 1 3)
    ∷ row "rising 60 20 2\nin\nds 65536\n" from_rising (refused_at 4 1 3)
    ∷ row "rising 60 20 2\nin\nout 0\nds 1\n" from_rising (refused_at 4 1 4)
    ∷ row "rising 60 20 2\nconst 7\nds 0\n" from_rising (refused_at 5 1 3)
    ∷ row "rising 60 20 2\nconst 7\nenc 0 20 0\nds 1\n" from_rising (refused_at 5 1 4)
    ∷ row "rising 60 20 2\nin\nds 0\nenc 1 20 0\n" from_rising (refused_at 5 1 4)
    -- all is read before a rule is broken
    ∷ row "rising 60 20 1\nin\nds 0\nneg 9\n" from_rising (refused_at 4 1 4)
    -- "a 257th kept line is 3, as in erase": `ds` is no kept word
    ∷ row (with_lines "rising 60 20 2\n" 257 "in\n") from_rising (refused_at 3 1 258)
    ∷ row (append (with_lines "rising 60 20 2\n" 256 "in\n") "ds x\n") from_rising (refused_at 1 1 258)
    ∷ row (append (with_lines "rising 60 20 2\n" 256 "in\n") "out x\n") from_rising (refused_at 3 1 258)
    ∷ row (append (with_lines "rising 60 20 2\nin\nds 0\n" 254 "in\n") "in x\n") from_rising (refused_at 1 1 258)
    -- 13 last, the buffer exactly long enough and one byte short; the whole reply
    ∷ row "rising 60 20 2\nin\nds 0\n" (reply_to (with_room 35 from_rising)) (gives 0 0 0 35)
    ∷ row "rising 60 20 2\nin\nds 0\n" (reply_to (with_room 34 from_rising)) (gives 13 0 0 0)
    ∷ row "rising 60 20 1\nin\nds 0\n" (reply_to (with_room 0 from_rising)) (gives 9 1 3 0)
    ∷ []
