-- Document 02, Job 6: reserves worked by hand, on whole files: circuits with their plans and with schedules by hand, and the reserve of each
-- line in each, F·level − scale; and circuits at one top level after another. F = 60 and W = 20 where no other is said. The reserves are
-- those that the check finds; that they are those of which the promise speaks is proved.
use Rattle.std.specs.Prelude.{ℕ, List, [], ◌∷◌, ◌++◌}
use Prim.Native.String.{String}
use Rattle.services.specs.Outcomes.{passes, tells}
use Rattle.services.specs.Worked.{Row, row, plan, least, check_against, reserves, with_room, reply_to}
use Rattle.services.specs.Worked.{call_comes_to, gives, leaves, written, refused_at, append}

-- a circuit, its plan, and the reserves of its lines there
abbrev pub best : String → String → List ℕ → List Row
best circuit schedule bits = row circuit plan (written schedule) ∷ row schedule reserves (leaves bits) ∷ []

-- a schedule by hand that passes against the circuit, and the reserves of the circuit's lines there
abbrev pub by_hand : String → String → List ℕ → List Row
by_hand circuit schedule bits = row schedule (check_against circuit) (call_comes_to passes) ∷ row schedule reserves (leaves bits) ∷ []

-- x to the power 6 by a product of x³ with itself, L = 2
abbrev pub sixth : String
sixth = "circuit 60 20 2\nin\nmul 0 0\nmul 1 0\nmul 2 2\nout 3\n"

-- x² + x, times x, squared, L = 2
abbrev pub squared_sum : String
squared_sum = "circuit 60 20 2\nin\nmul 0 0\nadd 1 0\nmul 2 0\nmul 3 3\nout 4\n"

-- 7·x, times x, squared, L = 2
abbrev pub squared_multiple : String
squared_multiple = "circuit 60 20 2\nin\nconst 7\nmul 0 1\nmul 2 0\nmul 3 3\nout 4\n"

abbrev pub product_rows : List Row
product_rows =
    -- A product. in 120 − 20 = 100; x²: m = 2, 100 + 100 − 120 = 80; x³: m = 2, 80 + 100 − 120 = 60, below it 60 − 40 = 20; x⁶: m(60) = 2,
    -- 60 + 60 − 120 = 0 at level 2, and 60 − 40 = 20 at level 1, where each operand has scale 20, reserve 40.
    best sixth "schedule 60 20 2\nin\nmul 0 0\nmul 1 0\nus 2 20\nrs 3 1\nus 2 20\nrs 5 1\nmul 4 6\nout 7\n" (100 ∷ 80 ∷ 60 ∷ 20 ∷ 20 ∷ [])
    -- x² is raised by 20 bits: x³ has 60 + 100 − 120 = 40, just what x⁶ needs at level 1. The last line has as much as in the plan, x³ less.
    ++ by_hand sixth "schedule 60 20 2\nin\nmul 0 0\nus 1 20\nmul 2 0\nrs 3 1\nmul 4 4\nout 5\n" (100 ∷ 80 ∷ 40 ∷ 20 ∷ 20 ∷ [])
    -- raised by one bit more, x³ has 39, and comes to level 1 with 39: 39 + 39 − 60 = 18
    ++ by_hand sixth "schedule 60 20 2\nin\nmul 0 0\nus 1 21\nmul 2 0\nrs 3 1\nmul 4 4\nout 5\n" (100 ∷ 80 ∷ 39 ∷ 18 ∷ 18 ∷ [])
    -- one conversion for both uses: as much everywhere as in the plan. Raised by one bit less, x³ is below the waterline after its `rs`.
    ++ by_hand sixth "schedule 60 20 2\nin\nmul 0 0\nmul 1 0\nus 2 20\nrs 3 1\nmul 4 4\nout 5\n" (100 ∷ 80 ∷ 60 ∷ 20 ∷ 20 ∷ [])
    ++ (row "schedule 60 20 2\nin\nmul 0 0\nmul 1 0\nus 2 19\nrs 3 1\nmul 4 4\nout 5\n" (check_against sixth) (refused_at 10 2 6) ∷ [])
    -- the circuit copied: 60 + 60 − 120 = 0; and with one conversion again, x⁶ raised by one bit before `out`
    ++ by_hand sixth "schedule 60 20 2\nin\nmul 0 0\nmul 1 0\nmul 2 2\nout 3\n" (100 ∷ 80 ∷ 60 ∷ 0 ∷ 0 ∷ [])
    ++ by_hand sixth "schedule 60 20 2\nin\nmul 0 0\nmul 1 0\nus 2 20\nrs 3 1\nmul 4 4\nus 5 1\nout 6\n" (100 ∷ 80 ∷ 60 ∷ 20 ∷ 19 ∷ [])
    -- m's unequal, with `neg` and `rot`, which have their operand's, at L = 3: in 180 − 20 = 160, m = 3; squared 160 + 160 − 180 = 140, m = 3,
    -- and again 100, m = 2; times the input: 100 − 20 = 80 at level 2, where the input comes to scale 20, (160, 3) to (100, 2): d = 60, q = 1,
    -- `ms` 1; (100, 3) to (100, 2): `rs` 1. By hand the input is raised by one bit before `neg`.
    ++ best "circuit 60 20 3\nin\nneg 0\nrot 1 -3\nmul 2 2\nmul 3 3\nmul 4 0\n"
    "schedule 60 20 3\nin\nneg 0\nrot 1 -3\nmul 2 2\nmul 3 3\nrs 4 1\nms 0 1\nmul 5 6\n" (160 ∷ 160 ∷ 160 ∷ 140 ∷ 100 ∷ 80 ∷ [])
    ++ by_hand "circuit 60 20 3\nin\nneg 0\nrot 1 -3\nmul 2 2\nmul 3 3\nmul 4 0\n"
    "schedule 60 20 3\nin\nus 0 1\nneg 1\nrot 2 -3\nmul 3 3\nmul 4 4\nrs 5 1\nms 0 1\nmul 6 7\n" (160 ∷ 159 ∷ 159 ∷ 138 ∷ 96 ∷ 76 ∷ [])
    -- a tie, F = 24, W = 12: x² 84 + 84 − 96 = 72, m = 4; x⁴ 72 + 72 − 96 = 48 at level 4 and 72 − 24 = 48 at level 3; the copy has as much
    ++ best "circuit 24 12 4\nin\nmul 0 0\nmul 1 1\n" "schedule 24 12 4\nin\nmul 0 0\nus 1 12\nrs 2 1\nus 1 12\nrs 4 1\nmul 3 5\n"
    (84 ∷ 72 ∷ 48 ∷ [])
    ++ by_hand "circuit 24 12 4\nin\nmul 0 0\nmul 1 1\n" "schedule 24 12 4\nin\nmul 0 0\nmul 1 1\n" (84 ∷ 72 ∷ 48 ∷ [])

abbrev pub other_rows : List Row
other_rows =
    -- An `add`: x² has 80, and the sum the smaller, 80, at m(80) = 2, where x comes to 80 by `us` 20; times x: 80 + 100 − 120 = 60.
    best squared_sum "schedule 60 20 2\nin\nmul 0 0\nus 0 20\nadd 1 2\nmul 3 0\nus 4 20\nrs 5 1\nus 4 20\nrs 7 1\nmul 6 8\nout 9\n"
    (100 ∷ 80 ∷ 80 ∷ 60 ∷ 20 ∷ 20 ∷ [])
    -- both summands are raised to scale 60: the sum has 60 and its product 40; the last line has as much as in the plan
    ++ by_hand squared_sum "schedule 60 20 2\nin\nmul 0 0\nus 1 20\nus 0 40\nadd 2 3\nmul 4 0\nrs 5 1\nmul 6 6\nout 7\n"
    (100 ∷ 80 ∷ 60 ∷ 40 ∷ 20 ∷ 20 ∷ [])
    -- A constant's product: 100 − 20 = 80, at m(100) = 2 with the constant at scale 20; times x: 80 + 100 − 120 = 60.
    ++ best squared_multiple
    "schedule 60 20 2\nin\nconst 7\nenc 1 20 2\nmul 0 2\nmul 3 0\nus 4 20\nrs 5 1\nus 4 20\nrs 7 1\nmul 6 8\nout 9\n"
    (100 ∷ 0 ∷ 80 ∷ 60 ∷ 20 ∷ 20 ∷ [])
    -- the constant at scale 40: its product has 120 − 60 = 60, the next 40; the last line has as much as in the plan
    ++ by_hand squared_multiple "schedule 60 20 2\nin\nconst 7\nenc 1 40 2\nmul 0 2\nmul 3 0\nrs 4 1\nmul 5 5\nout 6\n"
    (100 ∷ 0 ∷ 60 ∷ 40 ∷ 20 ∷ 20 ∷ [])
    -- a sum with a constant, in either place, has the ciphertext's, and a constant as the first factor leaves 100 − 20; by hand it is encoded at
    -- scale 21 for the product
    ++ best "circuit 60 20 2\nin\nconst 7\nadd 0 1\nadd 1 2\nmul 1 3\n"
    "schedule 60 20 2\nin\nconst 7\nenc 1 20 2\nadd 0 2\nenc 1 20 2\nadd 4 3\nenc 1 20 2\nmul 6 5\n" (100 ∷ 0 ∷ 100 ∷ 100 ∷ 80 ∷ [])
    ++ by_hand "circuit 60 20 2\nin\nconst 7\nadd 0 1\nadd 1 2\nmul 1 3\n"
    "schedule 60 20 2\nin\nconst 7\nenc 1 20 2\nadd 0 2\nadd 2 3\nenc 1 21 2\nmul 5 4\n" (100 ∷ 0 ∷ 100 ∷ 100 ∷ 79 ∷ [])
    -- `out` with lines after it, and twice of one value; by hand the value is raised by one bit before the first
    ++ best "circuit 60 20 2\nin\nout 0\nmul 0 0\nout 2\nout 0\n" "schedule 60 20 2\nin\nout 0\nmul 0 0\nout 2\nout 0\n"
    (100 ∷ 100 ∷ 80 ∷ 80 ∷ 100 ∷ [])
    ++ by_hand "circuit 60 20 2\nin\nout 0\nmul 0 0\nout 2\nout 0\n" "schedule 60 20 2\nin\nus 0 1\nout 1\nmul 0 0\nout 3\nout 0\n"
    (100 ∷ 99 ∷ 80 ∷ 80 ∷ 100 ∷ [])

-- "at the same header": the circuit of x⁶ with this top level, and H where it is given, and schedules of it
abbrev pub sixth_at : String → String
sixth_at numbers = append "circuit 60 20 " (append numbers "\nin\nmul 0 0\nmul 1 0\nmul 2 2\nout 3\n")

abbrev pub under_numbers : String → String → String
under_numbers numbers lines = append "schedule 60 20 " (append numbers lines)

abbrev pub header_rows : List Row
header_rows =
    -- H takes nothing from a reserve, and forbids schedules that leave less than H: with H = 20 the plan and the first schedule by hand stay
    best (sixth_at "2 20") (under_numbers "2 20" "\nin\nmul 0 0\nmul 1 0\nus 2 20\nrs 3 1\nus 2 20\nrs 5 1\nmul 4 6\nout 7\n")
    (100 ∷ 80 ∷ 60 ∷ 20 ∷ 20 ∷ [])
    ++ by_hand (sixth_at "2 20") (under_numbers "2 20" "\nin\nmul 0 0\nus 1 20\nmul 2 0\nrs 3 1\nmul 4 4\nout 5\n")
    (100 ∷ 80 ∷ 40 ∷ 20 ∷ 20 ∷ [])
    -- the second, with 18 bits at the last line, passes with H = 18, and with H = 19 is refused
    ++ by_hand (sixth_at "2 18") (under_numbers "2 18" "\nin\nmul 0 0\nus 1 21\nmul 2 0\nrs 3 1\nmul 4 4\nout 5\n")
    (100 ∷ 80 ∷ 39 ∷ 18 ∷ 18 ∷ [])
    ++ (row (under_numbers "2 19" "\nin\nmul 0 0\nus 1 21\nmul 2 0\nrs 3 1\nmul 4 4\nout 5\n") (check_against (sixth_at "2 19"))
    (refused_at 9 2 7) ∷ [])
    -- at L = 3 every line has 60 bits more: 160; 160 + 160 − 180 = 140; 140 + 160 − 180 = 120; m(120) = 3: 120 + 120 − 180 = 60 at level 3, and
    -- 120 − 40 = 80 at level 2, (120, 3) to (100, 2): d = 20, q = 0
    ++ best (sixth_at "3") (under_numbers "3" "\nin\nmul 0 0\nmul 1 0\nus 2 20\nrs 3 1\nus 2 20\nrs 5 1\nmul 4 6\nout 7\n")
    (160 ∷ 140 ∷ 120 ∷ 80 ∷ 80 ∷ [])

-- x to the power 8 at the top level L, with what follows L in the header
abbrev pub eighth : String → String
eighth level = append "circuit 60 20 " (append level "\nin\nmul 0 0\nmul 1 1\nmul 2 2\n")

-- planned, for a buffer that is long enough: with none it is 13
abbrev pub planned : String → Row
planned circuit = row circuit (reply_to (with_room 0 plan)) (gives 13 0 0 0)

-- "a circuit which fits at one top level fits at every higher one up to 60"
abbrev pub higher_rows : List Row
higher_rows =
    -- x⁸: 6 at L = 1, at x⁴; from the least level, 2, it is planned at each, here at 2, 3, 4, 30, 59 and 60; 61 is no top level. The least level
    -- is the same whatever the header's own.
    row (eighth "1") plan (refused_at 6 1 4) ∷ row (eighth "1") least (call_comes_to (tells 2)) ∷ row (eighth "60") least (call_comes_to (tells 2))
    ∷ planned (eighth "2") ∷ planned (eighth "3") ∷ planned (eighth "4") ∷ planned (eighth "30") ∷ planned (eighth "59") ∷ planned (eighth "60")
    ∷ row (eighth "61") plan (refused_at 2 1 1)
    -- with H = 21, one bit more than x⁸ has at L = 2
    ∷ row (eighth "2 21") plan (refused_at 6 1 5) ∷ row (eighth "2 21") least (call_comes_to (tells 3))
    ∷ planned (eighth "3 21") ∷ planned (eighth "4 21") ∷ planned (eighth "60 21")
    -- the least level 1, and 60 itself: an input with W = 20, and one with F = 1 and W = 60
    ∷ row "circuit 60 20 60\nin\n" least (call_comes_to (tells 1))
    ∷ planned "circuit 60 20 1\nin\n" ∷ planned "circuit 60 20 30\nin\n" ∷ planned "circuit 60 20 60\nin\n"
    ∷ row "circuit 1 60 59\nin\n" plan (refused_at 6 1 2) ∷ row "circuit 1 60 59\nin\n" least (call_comes_to (tells 60))
    ∷ planned "circuit 1 60 60\nin\n"
    ∷ []

abbrev pub reserve_rows : List Row
reserve_rows = product_rows ++ other_rows ++ header_rows ++ higher_rows
