-- Document 02, Job 3: the headroom worked by hand, a row for each clause, on whole files; below half the modulus: `model` `Worked.sizes`.
use Rattle.std.specs.Prelude.{List, [], ◌∷◌}
use Prim.Native.String.{String}
use Rattle.services.specs.Outcomes.{passes, tells}
use Rattle.services.specs.Worked.{Row, row, plan, least, check_against, erase, from_rising, with_room, reply_to, program, scale_of}
use Rattle.services.specs.Worked.{call_comes_to, gives, prints, scale_and_level, shown, written, refused_at, append}

-- document 01's program input with H: the lines after the header, and those of its plan
abbrev pub example_lines : String
example_lines = "in\nconst 7\nmul 0 1\nmul 2 1\nmul 3 3\nout 4\n"

abbrev pub example_plan_lines : String
example_plan_lines = "in\nconst 7\nenc 1 20 2\nmul 0 2\nenc 1 20 2\nmul 3 4\nus 5 20\nrs 6 1\nus 5 20\nrs 8 1\nmul 7 9\nout 10\n"

abbrev pub headroom_rows : List Row
headroom_rows =
    -- "The header gains a fourth number H, …, from 1 to 60", "In all three headers": each is written through; "three numbers mean none, and
    -- none is written so"
    row "circuit 60 20 2 1\n" plan (written "schedule 60 20 2 1\n")
    ∷ row "circuit 60 20 1 60\n" plan (written "schedule 60 20 1 60\n")
    ∷ row "schedule 60 20 2 1\n" erase (written "circuit 60 20 2 1\n")
    ∷ row "schedule 60 20 1 60\n" erase (written "circuit 60 20 1 60\n")
    ∷ row "rising 60 20 2 1\n" from_rising (written "schedule 60 20 2 1\n")
    ∷ row "rising 60 20 1 60\n" from_rising (written "schedule 60 20 1 60\n")
    ∷ row "circuit 60 20 2\n" plan (written "schedule 60 20 2\n")
    ∷ row "schedule 60 20 2\n" erase (written "circuit 60 20 2\n")
    ∷ row "rising 60 20 2\n" from_rising (written "schedule 60 20 2\n")
    -- outside 1 to 60 is 2, also where its lowest 32 bits would be in range
    ∷ row "circuit 60 20 2 0\n" plan (refused_at 2 1 1)
    ∷ row "circuit 60 20 2 61\n" plan (refused_at 2 1 1)
    ∷ row "circuit 60 20 2 4294967301\n" plan (refused_at 2 1 1)
    ∷ row "circuit 60 20 2 0\n" least (refused_at 2 1 1)
    ∷ row "circuit 60 20 2 61\n" least (refused_at 2 1 1)
    ∷ row "schedule 60 20 2 0\n" erase (refused_at 2 1 1)
    ∷ row "schedule 60 20 2 61\n" erase (refused_at 2 1 1)
    ∷ row "schedule 60 20 2 61\n" (check_against "circuit 60 20 2 5\n") (refused_at 2 2 1)
    ∷ row "schedule 60 20 2 61\n" (check_against "circuit 60 20 2 0\n") (refused_at 2 1 1)
    ∷ row "rising 60 20 2 0\n" from_rising (refused_at 2 1 1)
    ∷ row "rising 60 20 2 61\n" from_rising (refused_at 2 1 1)
    -- an empty fourth field, a fifth number, a zero before it, a minus, a number of twelve digits, a header line that is not closed: 1, and the
    -- form before the range; at the end three numbers of which the last is L
    ∷ row "circuit 60 20 2 \n" plan (refused_at 1 1 1)
    ∷ row "circuit 60 20 2 5 5\n" plan (refused_at 1 1 1)
    ∷ row "circuit 60 20 2 5 \n" plan (refused_at 1 1 1)
    ∷ row "circuit 60 20 2 05\n" plan (refused_at 1 1 1)
    ∷ row "circuit 60 20 2 -5\n" plan (refused_at 1 1 1)
    ∷ row "circuit 60 20 2 100000000000\n" plan (refused_at 1 1 1)
    ∷ row "circuit 60 20 2 5" plan (refused_at 1 1 1)
    ∷ row "circuit 60 20 2 \n" least (refused_at 1 1 1)
    ∷ row "schedule 60 20 2 \n" erase (refused_at 1 1 1)
    ∷ row "schedule 60 20 2 \n" (check_against "circuit 60 20 2 5\n") (refused_at 1 2 1)
    ∷ row "rising 60 20 2 5 5\n" from_rising (refused_at 1 1 1)
    ∷ row "circuit 61 20 2 x\n" plan (refused_at 1 1 1)
    ∷ row "circuit 61 20 2 5\n" plan (refused_at 2 1 1)
    ∷ row "circuit 60 20 5\n" plan (written "schedule 60 20 5\n")
    -- "Each scale must satisfy scale + H ≤ F·level", 9: a scale that just fits and one bit more, of `in`, `us`, `mul`, `enc`,
    -- `mul` with an encoded constant, `ms`, and `us` before `rs`
    ∷ row "schedule 60 20 1 40\nin\n" (check_against "circuit 60 20 1 40\nin\n") (call_comes_to passes)
    ∷ row "schedule 60 20 1 41\nin\n" (check_against "circuit 60 20 1 41\nin\n") (refused_at 9 2 2)
    ∷ row "schedule 60 20 1 5\nin\nus 0 35\n" (check_against "circuit 60 20 1 5\nin\n") (call_comes_to passes)
    ∷ row "schedule 60 20 1 5\nin\nus 0 35\n" (scale_of 1) (scale_and_level 55 1)
    ∷ row "schedule 60 20 1 5\nin\nus 0 36\n" (check_against "circuit 60 20 1 5\nin\n") (refused_at 9 2 3)
    ∷ row "schedule 60 20 1\nin\nus 0 36\n" (check_against "circuit 60 20 1\nin\n") (call_comes_to passes)
    ∷ row "schedule 60 20 1 20\nin\nmul 0 0\n" (check_against "circuit 60 20 1 20\nin\nmul 0 0\n") (call_comes_to passes)
    ∷ row "schedule 60 20 1 21\nin\nmul 0 0\n" (check_against "circuit 60 20 1 21\nin\nmul 0 0\n") (refused_at 9 2 3)
    ∷ row "schedule 60 20 1 5\nconst 7\nenc 0 55 1\n" (check_against "circuit 60 20 1 5\nconst 7\n") (call_comes_to passes)
    ∷ row "schedule 60 20 1 5\nconst 7\nenc 0 56 1\n" (check_against "circuit 60 20 1 5\nconst 7\n") (refused_at 9 2 3)
    ∷ row "schedule 60 20 1 19\nin\nconst 7\nenc 1 21 1\nmul 0 2\n" (check_against "circuit 60 20 1 19\nin\nconst 7\nmul 0 1\n") (call_comes_to passes)
    ∷ row "schedule 60 20 1 20\nin\nconst 7\nenc 1 21 1\nmul 0 2\n" (check_against "circuit 60 20 1 20\nin\nconst 7\nmul 0 1\n") (refused_at 9 2 5)
    ∷ row "schedule 60 20 2 40\nin\nms 0 1\n" (check_against "circuit 60 20 2 40\nin\n") (call_comes_to passes)
    ∷ row "schedule 60 20 2 41\nin\nms 0 1\n" (check_against "circuit 60 20 2 41\nin\n") (refused_at 9 2 3)
    ∷ row "schedule 60 20 2 40\nin\nus 0 60\nrs 1 1\n" (check_against "circuit 60 20 2 40\nin\n") (call_comes_to passes)
    ∷ row "schedule 60 20 2 41\nin\nus 0 60\nrs 1 1\n" (check_against "circuit 60 20 2 41\nin\n") (refused_at 9 2 3)
    -- 7 before 9, and 10 before 9, where H alone would be 9: 40 + 21 is above 60, and so is 19 + 60
    ∷ row "schedule 60 20 2 21\nin\nms 0 1\nmul 1 0\n" (check_against "circuit 60 20 2 21\nin\nmul 0 0\n") (refused_at 7 2 4)
    ∷ row "schedule 60 20 1 60\nconst 1\nenc 0 19 1\n" (check_against "circuit 60 20 1 60\nconst 1\n") (refused_at 10 2 3)
    -- "12 erases to another circuit", at the header: another H, or one file has none; before the rules
    ∷ row "schedule 60 20 2 5\nin\n" (check_against "circuit 60 20 2 4\nin\n") (refused_at 12 1 1)
    ∷ row "schedule 60 20 2 5\nin\n" (check_against "circuit 60 20 2\nin\n") (refused_at 12 1 1)
    ∷ row "schedule 60 20 2\nin\n" (check_against "circuit 60 20 2 5\nin\n") (refused_at 12 1 1)
    ∷ row "schedule 60 20 1 41\nin\n" (check_against "circuit 60 20 1\nin\n") (refused_at 12 1 1)
    -- "a best reserve below H is too few levels": exactly H, and one less. in 60 − 20 = 40 @ 1; mul 20 @ 1; mul with a constant 20 @ 1.
    ∷ row "circuit 60 20 1 40\nin\n" plan (written "schedule 60 20 1 40\nin\n")
    ∷ row "circuit 60 20 1 41\nin\n" plan (refused_at 6 1 2)
    ∷ row "circuit 60 20 1 20\nin\nmul 0 0\nout 1\n" plan (written "schedule 60 20 1 20\nin\nmul 0 0\nout 1\n")
    ∷ row "circuit 60 20 1 21\nin\nmul 0 0\nout 1\n" plan (refused_at 6 1 3)
    ∷ row "circuit 60 20 1 20\nin\nconst 7\nmul 0 1\n" plan (written "schedule 60 20 1 20\nin\nconst 7\nenc 1 20 1\nmul 0 2\n")
    ∷ row "circuit 60 20 1 21\nin\nconst 7\nmul 0 1\n" plan (refused_at 6 1 4)
    ∷ row "circuit 60 20 1 40\nin\nconst 7\nadd 0 1\n" plan (written "schedule 60 20 1 40\nin\nconst 7\nenc 1 20 1\nadd 0 2\n")
    -- and of unequal m's. F = 10, W = 10: in 30 @ 4; mul 20 @ 4; m(30) = 4, m(20) = 3: 20 − 10 = 10 @ 3.
    ∷ row "circuit 10 10 4 10\nin\nmul 0 0\nmul 0 1\n" plan (written "schedule 10 10 4 10\nin\nmul 0 0\nms 0 1\nrs 1 1\nmul 2 3\n")
    ∷ row "circuit 10 10 4 11\nin\nmul 0 0\nmul 0 1\n" plan (refused_at 6 1 4)
    -- and of equal reserves at two levels. F = 24, W = 12: in 84 @ 4; mul 84 + 84 − 96 = 72 @ 4, m(72) = 4; 72 + 72 − 96 = 48 @ 4 and
    -- 72 − 24 = 48 @ 3, so at 3, each operand from (72, 4) to (60, 3) by us 12 and rs 1.
    ∷ row "circuit 24 12 4 48\nin\nmul 0 0\nmul 1 1\n" plan (written "schedule 24 12 4 48\nin\nmul 0 0\nus 1 12\nrs 2 1\nus 1 12\nrs 4 1\nmul 3 5\n")
    ∷ row "circuit 24 12 4 49\nin\nmul 0 0\nmul 1 1\n" plan (refused_at 6 1 4)
    -- `rot` and `add` keep the reserve 40
    ∷ row "circuit 60 20 1 40\nin\nrot 0 3\nadd 0 1\n" plan (written "schedule 60 20 1 40\nin\nrot 0 3\nadd 0 1\n")
    -- the plan's lines are those of the plan without H. Its last product has 20 @ 1, the others 100, 80 and 60 @ 2.
    ∷ row (append "circuit 60 20 2 20\n" example_lines) plan (written (append "schedule 60 20 2 20\n" example_plan_lines))
    ∷ row (append "schedule 60 20 2 20\n" example_plan_lines) (check_against (append "circuit 60 20 2 20\n" example_lines)) (call_comes_to passes)
    ∷ row (append "circuit 60 20 2 21\n" example_lines) plan (refused_at 6 1 6)
    ∷ row (append "schedule 60 20 2 21\n" example_plan_lines) (check_against (append "circuit 60 20 2 21\n" example_lines)) (refused_at 9 2 12)
    ∷ row (append "schedule 60 20 2 20\n" example_plan_lines) erase (written (append "circuit 60 20 2 20\n" example_lines))
    ∷ row (append "circuit 60 20 2 20\n" example_lines) program (prints (shown (append "schedule 60 20 2 20\n" example_plan_lines)))
    ∷ row (append "circuit 60 20 2 21\n" example_lines) program (prints (shown "refused 6 6\n"))
    ∷ row "circuit 60 20 2 0\n" program (prints (shown "refused 2 1\n"))
    ∷ row "circuit 60 20 2 \n" program (prints (shown "refused 1 1\n"))
    -- each level tried has H. x⁴: level 2 leaves 40, level 3 leaves 100; `in` alone: 60·L − 20; F = 1, W = 60: level 60 leaves 0
    ∷ row "circuit 60 20 1 40\nin\nmul 0 0\nmul 1 1\n" least (call_comes_to (tells 2))
    ∷ row "circuit 60 20 1 41\nin\nmul 0 0\nmul 1 1\n" least (call_comes_to (tells 3))
    ∷ row "circuit 60 20 60 40\nin\n" least (call_comes_to (tells 1))
    ∷ row "circuit 60 20 60 41\nin\n" least (call_comes_to (tells 2))
    ∷ row "circuit 1 60 1\nin\n" least (call_comes_to (tells 60))
    ∷ row "circuit 1 60 1 1\nin\n" least (refused_at 6 1 2)
    -- F = 1, W = 30, level 60: in 30, mul 30 + 30 − 60 = 0; and a bare header has no line to leave anything
    ∷ row "circuit 1 30 1\nin\nneg 0\nmul 0 1\n" least (call_comes_to (tells 60))
    ∷ row "circuit 1 30 1 1\nin\nneg 0\nmul 0 1\n" least (refused_at 6 1 4)
    ∷ row "circuit 60 20 1 60\n" least (call_comes_to (tells 1))
    -- erasing asks no rules
    ∷ row "schedule 60 20 1 60\nin\nus 0 7\n" erase (written "circuit 60 20 1 60\nin\n")
    -- a plan's text of 23 bytes, an erasure's of 22 and a schedule's of 23, each three more than without H
    ∷ row "circuit 60 20 1 40\nin\n" (reply_to (with_room 23 plan)) (gives 0 0 0 23)
    ∷ row "circuit 60 20 1 40\nin\n" (with_room 22 plan) (refused_at 13 0 0)
    ∷ row "schedule 60 20 1 40\nin\n" (reply_to (with_room 22 erase)) (gives 0 0 0 22)
    ∷ row "schedule 60 20 1 40\nin\n" (with_room 21 erase) (refused_at 13 0 0)
    ∷ row "rising 60 20 1 40\nin\n" (reply_to (with_room 23 from_rising)) (gives 0 0 0 23)
    ∷ row "rising 60 20 1 40\nin\n" (with_room 22 from_rising) (refused_at 13 0 0)
    -- listings: 9 with H, of the levels that are left; `ds` to W + F = 80 where 120 bits are left, and 14 as before
    ∷ row "rising 60 20 1 41\nin\n" from_rising (refused_at 9 1 2)
    ∷ row "rising 60 20 1 20\nin\nmul 0 0\n" from_rising (written "schedule 60 20 1 20\nin\nmul 0 0\n")
    ∷ row "rising 60 20 1 21\nin\nmul 0 0\n" from_rising (refused_at 9 1 3)
    ∷ row "rising 60 20 2 41\nin\nms 0 1\n" from_rising (refused_at 9 1 3)
    ∷ row "rising 60 20 2 5\nin\nms 0 1\nus 1 35\n" from_rising (written "schedule 60 20 2 5\nin\nms 0 1\nus 1 35\n")
    ∷ row "rising 60 20 2 5\nin\nms 0 1\nus 1 36\n" from_rising (refused_at 9 1 4)
    ∷ row "rising 60 20 2 5\nconst 7\nenc 0 55 1\n" from_rising (written "schedule 60 20 2 5\nconst 7\nenc 0 55 1\n")
    ∷ row "rising 60 20 2 5\nconst 7\nenc 0 56 1\n" from_rising (refused_at 9 1 3)
    ∷ row "rising 60 20 2 40\nin\nds 0\n" from_rising (written "schedule 60 20 2 40\nin\nus 0 60\nrs 1 1\n")
    ∷ row "rising 60 20 2 41\nin\nds 0\n" from_rising (refused_at 9 1 3)
    ∷ row "rising 60 20 2 40\nin\nus 0 60\nds 1\n" from_rising (refused_at 14 1 4)
    ∷ row "rising 60 20 2 40\nin\nus 0 59\nds 1\n" from_rising (written "schedule 60 20 2 40\nin\nus 0 59\nus 1 1\nrs 2 1\n")
    ∷ []
