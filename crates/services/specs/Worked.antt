-- Document 01, "Worked with F = 60, W = 20": its cases, those with * and the others, as rows of one table, on whole files, and then rows
-- of our own. A row is a question, its input and the outcome. A question is a service, the program, scale and level of a value under the
-- rules, or the reserves of a circuit's lines in a schedule.
use Rattle.std.specs.Prelude.{ℕ, zero, suc, Bool, true, cond, ◌&&◌, List, [], ◌∷◌, map, eqb, get_or, nat_abs}
use Prim.Native.Char.{code}
use Prim.Native.String as Text
use Prim.Native.String.{String}
use Rattle.std.proofs.Math.Option.{Option, none, some}
use Rattle.std.proofs.Math.ListN.{get_elem?}
use Rattle.fields.specs.Pieces.{Bytes, same_bytes}
use Rattle.model.specs.declared.Header.{Header}
use Rattle.model.specs.declared.Line.{Line}
use Rattle.model.specs.declared.Found.{Found}
use Rattle.model.specs.declared.Found.TheVariants as Founds
use Rattle.rows.specs.Rows.{place_of, Reading, read, refused}
use Rattle.model.specs.Scales.{reserve}
use Rattle.model.specs.Files.{File}
use Rattle.model.specs.Machine.{Run, finished, stopped, run}
use Rattle.model.specs.Services.{kept_lines}
use Rattle.model.specs.Answers.{check_machine}
use Rattle.text.specs.Files.{read_text, schedule_context}
use Rattle.services.specs.declared.Reply.{Reply}
use Rattle.services.specs.Outcomes.{Outcome, writes, passes, tells, refuses, lent, reply_of}
use Rattle.services.specs.Calls.{plan_outcome, check_outcome, erase_outcome, least_outcome, from_rising_outcome}
use Rattle.services.specs.Program.{program_text}

-- a text "shown here with spaces for tabs"
abbrev pub shown : String → Bytes
shown Text.[] = []
shown (Text.◌∷◌ c rest) = cond (eqb (code c) 32) 9 (code c) ∷ shown rest

-- Plan this circuit; give its least top level; check this schedule against a circuit; erase this schedule; make a schedule of this
-- listing; what a call comes to with a buffer of so many bytes; its whole reply; what the program prints of this circuit; scale and level
-- of a value of this schedule under the rules; the reserve of each of its kept lines.
pub data Question : Type 0 where
  plan : Question
  least : Question
  check_against : String → Question
  erase : Question
  from_rising : Question
  with_room : ℕ → Question → Question
  reply_to : Question → Question
  program : Question
  scale_of : ℕ → Question
  reserves : Question

pub data Finding : Type 0 where
  call_comes_to : Outcome → Finding
  -- a reply's number, file, place and length
  gives : ℕ → ℕ → ℕ → ℕ → Finding
  prints : Bytes → Finding
  scale_and_level : ℕ → ℕ → Finding
  unscaled : Finding
  -- 0 where a kept line is a bare constant, which has no reserve
  leaves : List ℕ → Finding

pub record Row : Type 0 where
  pub input : String
  pub question : Question
  pub finding : Finding

abbrev pub found_at : Option Found → Finding
found_at none = unscaled
found_at (some Founds.Bare) = unscaled
found_at (some (Founds.Encoded s l)) = scale_and_level s l
found_at (some (Founds.Ciphertext s l)) = scale_and_level s l

-- what the check finds of value v; the schedule is the second file
abbrev pub ruled : ℕ → Run Found ℕ → Finding
ruled v (finished found) = found_at (get_elem? found v)
ruled v (stopped i n) = call_comes_to (refuses n 2 (place_of i))

abbrev pub on_schedule : ℕ → Reading File → Finding
on_schedule v (read file) = ruled v (run (check_machine file.header) file.lines)
on_schedule v (refused n p) = call_comes_to (refuses n 2 p)

-- the reserve of a line of which the check finds this; no encoded constant is kept, and what the check passes has no reserve below zero
abbrev pub reserve_found : Header → Found → ℕ
reserve_found h Founds.Bare = 0
reserve_found h (Founds.Encoded s l) = 0
reserve_found h (Founds.Ciphertext s l) = nat_abs (reserve h s l)

-- of each kept line
abbrev pub reserves_found : Header → List Line → List Found → List ℕ
reserves_found h lines found = map (λ i. reserve_found h (get_or found i Founds.Bare)) (kept_lines lines)

abbrev pub reserves_of : Header → List Line → Run Found ℕ → Finding
reserves_of h lines (finished found) = leaves (reserves_found h lines found)
reserves_of h lines (stopped i n) = call_comes_to (refuses n 2 (place_of i))

abbrev pub on_lines : Reading File → Finding
on_lines (read file) = reserves_of file.header file.lines (run (check_machine file.header) file.lines)
on_lines (refused n p) = call_comes_to (refuses n 2 p)

-- a finding that is an outcome, otherwise told
abbrev pub on_outcome : (Outcome → Finding) → Finding → Finding
on_outcome f (call_comes_to outcome) = f outcome
on_outcome f (gives n file place l) = gives n file place l
on_outcome f (prints text) = prints text
on_outcome f (scale_and_level s l) = scale_and_level s l
on_outcome f unscaled = unscaled
on_outcome f (leaves bits) = leaves bits

abbrev pub given_by : Reply → Finding
given_by r = gives r.number r.file r.place r.length

abbrev pub finding_of : Question → Bytes → Finding
finding_of plan input = call_comes_to (plan_outcome input)
finding_of least input = call_comes_to (least_outcome input)
finding_of (check_against circuit) input = call_comes_to (check_outcome (shown circuit) input)
finding_of erase input = call_comes_to (erase_outcome input)
finding_of from_rising input = call_comes_to (from_rising_outcome input)
finding_of (with_room room question) input = on_outcome (λ o. call_comes_to (lent room o)) (finding_of question input)
finding_of (reply_to question) input = on_outcome (λ o. given_by (reply_of o)) (finding_of question input)
finding_of program input = prints (program_text input)
finding_of (scale_of v) input = on_schedule v (read_text schedule_context input)
finding_of reserves input = on_lines (read_text schedule_context input)

-- A finding as a list of numbers, so that two can be compared.
abbrev pub finding_code : Finding → List ℕ
finding_code (call_comes_to (writes text)) = 0 ∷ text
finding_code (call_comes_to passes) = 1 ∷ []
finding_code (call_comes_to (tells l)) = 2 ∷ l ∷ []
finding_code (call_comes_to (refuses n f p)) = 3 ∷ n ∷ f ∷ p ∷ []
finding_code (prints text) = 4 ∷ text
finding_code (scale_and_level s l) = 5 ∷ s ∷ l ∷ []
finding_code unscaled = 6 ∷ []
finding_code (gives n f p l) = 7 ∷ n ∷ f ∷ p ∷ l ∷ []
finding_code (leaves bits) = 8 ∷ bits

abbrev pub row_holds : Row → Bool
row_holds r = same_bytes (finding_code (finding_of r.question (shown r.input))) (finding_code r.finding)

abbrev pub all_hold : List Row → Bool
all_hold [] = true
all_hold (r ∷ rs) = row_holds r && all_hold rs

abbrev pub row : String → Question → Finding → Row
row input q f = record { input = input; question = q; finding = f }

abbrev pub written : String → Finding
written text = call_comes_to (writes (shown text))

abbrev pub refused_at : ℕ → ℕ → ℕ → Finding
refused_at n f p = call_comes_to (refuses n f p)

-- "circuit 60 20 2 / in / const 7 / mul 0 1 / mul 2 1 / mul 3 3 / out 4" and what the program writes for it
abbrev pub example : String
example = "circuit 60 20 2\nin\nconst 7\nmul 0 1\nmul 2 1\nmul 3 3\nout 4\n"

abbrev pub example_plan : String
example_plan = "schedule 60 20 2\nin\nconst 7\nenc 1 20 2\nmul 0 2\nenc 1 20 2\nmul 3 4\nus 5 20\nrs 6 1\nus 5 20\nrs 8 1\nmul 7 9\nout 10\n"

-- the same circuit scheduled by hand, with the common conversions written once
abbrev pub example_by_hand : String
example_by_hand = "schedule 60 20 2\nin\nconst 7\nenc 1 20 2\nmul 0 2\nmul 3 2\nus 4 20\nrs 5 1\nmul 6 6\nout 7\n"

-- x to the power 4, L = 1; x to the power 16, L = 2
abbrev pub fourth : String
fourth = "circuit 60 20 1\nin\nmul 0 0\nmul 1 1\n"

abbrev pub sixteenth : String
sixteenth = "circuit 60 20 2\nin\nmul 0 0\nmul 1 1\nmul 2 2\nmul 3 3\n"

-- a text, and a line so many times after it
abbrev pub append : String → String → String
append Text.[] more = more
append (Text.◌∷◌ c rest) more = Text.◌∷◌ c (append rest more)

abbrev pub with_lines : String → ℕ → String → String
with_lines text zero line = text
with_lines text (suc n) line = with_lines (append text line) n line

-- one line more than allowed
abbrev pub inputs257 : String
inputs257 = with_lines "circuit 60 20 2\n" 257 "in\n"

-- the row past the end of the table
abbrev pub no_row : Row
no_row = row "" plan (refused_at 1 1 1)

abbrev pub table : List Row
table =
    -- "Header only: header only back; least level 1."
    row "circuit 60 20 1\n" plan (written "schedule 60 20 1\n")
    ∷ row "circuit 60 20 1\n" least (call_comes_to (tells 1))
    -- "x² at L = 1: scale 40, level 1. x⁴ by two squarings, L = 1: 6 at place 4."
    ∷ row "circuit 60 20 1\nin\nmul 0 0\n" plan (written "schedule 60 20 1\nin\nmul 0 0\n")
    ∷ row "schedule 60 20 1\nin\nmul 0 0\n" (scale_of 1) (scale_and_level 40 1)
    ∷ row fourth plan (refused_at 6 1 4)
    -- "x⁸ at L = 2: last product scale 40, level 1. x¹⁶ at L = 2: 6 at place 6; least 3."
    ∷ row "circuit 60 20 2\nin\nmul 0 0\nmul 1 1\nmul 2 2\n" plan
    (written "schedule 60 20 2\nin\nmul 0 0\nmul 1 1\nrs 2 1\nrs 2 1\nmul 3 4\n")
    ∷ row "schedule 60 20 2\nin\nmul 0 0\nmul 1 1\nrs 2 1\nrs 2 1\nmul 3 4\n" (scale_of 5) (scale_and_level 40 1)
    ∷ row sixteenth plan (refused_at 6 1 6)
    ∷ row sixteenth least (call_comes_to (tells 3))
    -- "`rs` by 1 at scale 80 gives 20; at 79 refused 10."
    ∷ row "schedule 60 20 2\nin\nus 0 60\nrs 1 1\n" (scale_of 1) (scale_and_level 80 2)
    ∷ row "schedule 60 20 2\nin\nus 0 60\nrs 1 1\n" (scale_of 2) (scale_and_level 20 1)
    ∷ row "schedule 60 20 2\nin\nus 0 59\nrs 1 1\n" (check_against "circuit 60 20 2\nin\n") (refused_at 10 2 4)
    -- "`mul` of scales 20 and 40 at level 1 passes; 20 and 41: 9."
    ∷ row "schedule 60 20 1\nin\nus 0 20\nmul 0 1\n" (check_against "circuit 60 20 1\nin\nmul 0 0\n") (call_comes_to passes)
    ∷ row "schedule 60 20 1\nin\nus 0 21\nmul 0 1\n" (check_against "circuit 60 20 1\nin\nmul 0 0\n") (refused_at 9 2 4)
    -- "One `in`, F = 59, W = 60: L = 1 gives 6 at place 2, L = 2 passes."
    ∷ row "circuit 59 60 1\nin\n" plan (refused_at 6 1 2)
    ∷ row "circuit 59 60 2\nin\n" plan (written "schedule 59 60 2\nin\n")
    ∷ row "schedule 59 60 2\nin\n" (check_against "circuit 59 60 2\nin\n") (call_comes_to passes)
    -- "`rot 0 -32768`: 11. `const 007`: 1. An empty file: 1 at place 1."
    ∷ row "circuit 60 20 2\nin\nrot 0 -32768\n" plan (refused_at 11 1 3)
    ∷ row "circuit 60 20 2\nconst 007\n" plan (refused_at 1 1 2)
    ∷ row "" plan (refused_at 1 1 1)
    -- "Program input … Output, whole"
    ∷ row example program (prints (shown example_plan))
    -- our own: a circuit that the program refuses
    ∷ row fourth program (prints (shown "refused 6 4\n"))
    -- the plan passes, and so does a schedule that is not the plan
    ∷ row example plan (written example_plan)
    ∷ row example_plan (check_against example) (call_comes_to passes)
    ∷ row example_by_hand (check_against example) (call_comes_to passes)
    -- the plan's text has 111 bytes: a buffer of that length is enough, and none below it
    ∷ row example (with_room 111 plan) (written example_plan)
    ∷ row example (with_room 110 plan) (refused_at 13 0 0)
    ∷ row "schedule 60 20 2\nin\nus 0 7\n" (with_room 19 erase) (written "circuit 60 20 2\nin\n")
    ∷ row "schedule 60 20 2\nin\nus 0 7\n" (with_room 18 erase) (refused_at 13 0 0)
    -- whole replies: nothing refused is number, file and place 0, and a length where a text or a level is given; a refusal has length 0
    ∷ row example (reply_to (with_room 111 plan)) (gives 0 0 0 111)
    ∷ row example (reply_to (with_room 110 plan)) (gives 13 0 0 0)
    ∷ row fourth (reply_to (with_room 111 plan)) (gives 6 1 4 0)
    ∷ row example_by_hand (reply_to (check_against example)) (gives 0 0 0 0)
    ∷ row example_by_hand (reply_to (check_against fourth)) (gives 12 1 1 0)
    ∷ row "schedule 60 20 2\nin\nms 0 3\n" (reply_to (check_against "circuit 60 20 2\nin\n")) (gives 9 2 3 0)
    ∷ row "schedule 60 20 2\nin\nus 0 7\n" (reply_to (with_room 19 erase)) (gives 0 0 0 19)
    ∷ row "schedule 60 20 2\nneg 0\n" (reply_to (with_room 19 erase)) (gives 4 1 2 0)
    ∷ row sixteenth (reply_to least) (gives 0 0 0 3)
    ∷ row "circuit 1 60 1\nin\nmul 0 0\n" (reply_to least) (gives 6 1 3 0)
    -- "13 … after all else": 1, 2, 3, 4, 5, 11 and 6, with no buffer at all
    ∷ row "circuit 60 20 2\nin\n\n" (with_room 0 plan) (refused_at 1 1 3)
    ∷ row "circuit 60 20 61\n" (with_room 0 plan) (refused_at 2 1 1)
    ∷ row inputs257 (with_room 0 plan) (refused_at 3 1 258)
    ∷ row "circuit 60 20 2\nneg 0\n" (with_room 0 plan) (refused_at 4 1 2)
    ∷ row "circuit 60 20 2\nconst 1\nneg 0\n" (with_room 0 plan) (refused_at 5 1 3)
    ∷ row "circuit 60 20 2\nconst 4294967296\n" (with_room 0 plan) (refused_at 11 1 2)
    ∷ row fourth (with_room 0 plan) (refused_at 6 1 4)
    ∷ row "schedule 60 20 2\nin\nrs 0\n" (with_room 0 erase) (refused_at 1 1 3)
    ∷ row "schedule 0 20 2\n" (with_room 0 erase) (refused_at 2 1 1)
    ∷ row "schedule 60 20 2\nin\nrs 1 1\n" (with_room 0 erase) (refused_at 4 1 3)
    ∷ row "schedule 60 20 2\nin\nenc 0 20 2\n" (with_room 0 erase) (refused_at 5 1 3)
    ∷ row "schedule 60 20 2\nin\nrs 0 61\n" (with_room 0 erase) (refused_at 11 1 3)
    -- 4, 5, and in a line with two faults the form before the range, the range before the operand, the operand before the kind
    ∷ row "circuit 60 20 2\nneg 0\n" plan (refused_at 4 1 2)
    ∷ row "circuit 60 20 2\nconst 1\nneg 0\n" plan (refused_at 5 1 3)
    ∷ row "circuit 60 20 2\nrot x 99999\n" plan (refused_at 1 1 2)
    ∷ row "circuit 60 20 2\nrot 9 99999\n" plan (refused_at 11 1 2)
    ∷ row "circuit 60 20 2\nconst 1\nadd 0 9\n" plan (refused_at 4 1 3)
    -- the circuit is read first, then the schedule, which is the second file
    ∷ row "schedule 60 20 61\n" (check_against "circuit 60 20 0\n") (refused_at 2 1 1)
    ∷ row "schedule 60 20 61\n" (check_against "circuit 60 20 2\n") (refused_at 2 2 1)
    -- 12: another line, a longer erasure, a shorter one, another header; and before the rules
    ∷ row example_by_hand (check_against "circuit 60 20 2\nin\nmul 0 0\n") (refused_at 12 1 3)
    ∷ row example_by_hand (check_against "circuit 60 20 2\nin\nconst 7\nmul 0 1\nmul 2 1\nmul 3 3\n") (refused_at 12 1 7)
    ∷ row "schedule 60 20 2\nin\n" (check_against "circuit 60 20 2\nin\nout 0\n") (refused_at 12 1 3)
    ∷ row "schedule 60 20 2\nin\n" (check_against "circuit 60 20 1\nin\n") (refused_at 12 1 1)
    ∷ row "schedule 60 20 1\nin\nus 0 41\n" (check_against "circuit 60 20 1\nin\nin\n") (refused_at 12 1 3)
    -- 7, 8, 7 before 8, 7 before 9, 10 before 9, a negative scale, a negative level, the first of two broken lines
    ∷ row "schedule 60 20 2\nin\nms 0 1\nmul 0 1\n" (check_against "circuit 60 20 2\nin\nmul 0 0\n") (refused_at 7 2 4)
    ∷ row "schedule 60 20 2\nin\nus 0 1\nadd 0 1\n" (check_against "circuit 60 20 2\nin\nadd 0 0\n") (refused_at 8 2 4)
    ∷ row "schedule 60 20 2\nin\nms 0 1\nus 1 1\nadd 0 2\n" (check_against "circuit 60 20 2\nin\nadd 0 0\n") (refused_at 7 2 5)
    ∷ row "schedule 60 20 2\nin\nus 0 90\nms 0 1\nmul 1 2\n" (check_against "circuit 60 20 2\nin\nmul 0 0\n") (refused_at 7 2 5)
    ∷ row "schedule 1 60 60\nin\nconst 1\nenc 1 2 1\n" (check_against "circuit 1 60 60\nin\nconst 1\n") (refused_at 10 2 4)
    ∷ row "schedule 60 20 2\nin\nrs 0 3\n" (check_against "circuit 60 20 2\nin\n") (refused_at 10 2 3)
    ∷ row "schedule 60 20 2\nin\nms 0 3\n" (check_against "circuit 60 20 2\nin\n") (refused_at 9 2 3)
    ∷ row "schedule 60 20 1\nin\nus 0 41\nus 0 42\n" (check_against "circuit 60 20 1\nin\n") (refused_at 9 2 3)
    -- 6 at a line that is not the last, and a circuit that no level fits
    ∷ row "circuit 60 20 1\nin\nmul 0 0\nmul 1 1\nin\n" plan (refused_at 6 1 4)
    ∷ row "circuit 1 60 1\nin\nmul 0 0\n" least (refused_at 6 1 3)
    -- plans: unequal m's in both orders, with all three conversions; a tie; constants in either place
    ∷ row "circuit 19 26 12\nin\nmul 0 0\nmul 1 1\nmul 1 2\nmul 2 1\n" plan
    (written
    (append "schedule 19 26 12\nin\nmul 0 0\nrs 1 1\nrs 1 1\nmul 2 3\n"
    (append "ms 1 1\nus 5 12\nrs 6 2\nrs 4 2\nmul 7 8\n" "rs 4 2\nms 1 1\nus 11 12\nrs 12 2\nmul 10 13\n")))
    ∷ row "circuit 24 12 4\nin\nmul 0 0\nmul 1 1\n" plan
    (written "schedule 24 12 4\nin\nmul 0 0\nus 1 12\nrs 2 1\nus 1 12\nrs 4 1\nmul 3 5\n")
    ∷ row "circuit 60 20 2\nin\nconst 5\nadd 0 1\nadd 1 2\nmul 1 3\nneg 4\nrot 5 -3\nout 6\n" plan
    (written "schedule 60 20 2\nin\nconst 5\nenc 1 20 2\nadd 0 2\nenc 1 20 2\nadd 4 3\nenc 1 20 2\nmul 6 5\nneg 7\nrot 8 -3\nout 9\n")
    -- erasing a schedule that breaks the rules
    ∷ row "schedule 60 20 2\nin\nconst 3\nenc 1 5 1\nus 0 7\nadd 3 2\nrs 4 1\nneg 5\nout 6\n" erase
    (written "circuit 60 20 2\nin\nconst 3\nadd 0 1\nneg 2\nout 3\n")
    -- Document 02, Job 1: "A constant number runs from 0 to 4294967295." The largest number in every service, its plan's text of 17 + 17
    -- bytes, and one more
    ∷ row "circuit 60 20 2\nconst 4294967295\n" plan (written "schedule 60 20 2\nconst 4294967295\n")
    ∷ row "schedule 60 20 2\nconst 4294967295\n" (check_against "circuit 60 20 2\nconst 4294967295\n") (call_comes_to passes)
    ∷ row "schedule 60 20 2\nconst 4294967295\n" erase (written "circuit 60 20 2\nconst 4294967295\n")
    ∷ row "circuit 60 20 2\nin\nconst 4294967295\nmul 0 1\n" least (call_comes_to (tells 1))
    ∷ row "circuit 60 20 2\nconst 4294967295\n" (reply_to (with_room 34 plan)) (gives 0 0 0 34)
    ∷ row "circuit 60 20 2\nconst 4294967295\n" (with_room 33 plan) (refused_at 13 0 0)
    ∷ row "circuit 60 20 2\nconst 4294967296\n" plan (refused_at 11 1 2)
    ∷ row "circuit 60 20 2\nconst 4294967296\n" program (prints (shown "refused 11 2\n"))
    ∷ row "schedule 60 20 2\nconst 4294967296\n" erase (refused_at 11 1 2)
    -- eleven digits are a number, twelve are none
    ∷ row "circuit 60 20 2\nconst 99999999999\n" plan (refused_at 11 1 2)
    ∷ row "circuit 60 20 2\nconst 100000000000\n" plan (refused_at 1 1 2)
    -- 65536 in a plan. in 100 @ 2; mul with the constant: m(100) = 2, nothing to bring, enc at scale 20 and level 2; 100 − 20 = 80 @ 2.
    ∷ row "circuit 60 20 2\nin\nconst 65536\nmul 0 1\nout 2\n" plan
    (written "schedule 60 20 2\nin\nconst 65536\nenc 1 20 2\nmul 0 2\nout 3\n")
    -- it is not constant 0, nor is 65537 constant 65536
    ∷ row "schedule 60 20 2\nconst 65536\n" (check_against "circuit 60 20 2\nconst 0\n") (refused_at 12 1 2)
    ∷ row "schedule 60 20 2\nconst 65537\n" (check_against "circuit 60 20 2\nconst 65536\n") (refused_at 12 1 2)
    -- the form of every field before any range or operand, and the range before the operand
    ∷ row "schedule 60 20 2\nenc 4294967296 x 1\n" erase (refused_at 1 1 2)
    ∷ row "schedule 60 20 2\nconst 1\nenc 0 4294967296 x\n" erase (refused_at 1 1 3)
    ∷ row "circuit 60 20 2\nrot 4294967296 99999\n" plan (refused_at 11 1 2)
    -- "An operand number has no range of its own: too large is 4", also where its lowest 16 or 32 bits would name value 0
    ∷ row "circuit 60 20 2\nin\nneg 65536\n" plan (refused_at 4 1 3)
    ∷ row "circuit 60 20 2\nin\nneg 4294967296\n" plan (refused_at 4 1 3)
    ∷ row "circuit 60 20 2\nin\nadd 65536 0\n" plan (refused_at 4 1 3)
    ∷ row "circuit 60 20 2\nin\nadd 0 65536\n" plan (refused_at 4 1 3)
    ∷ row "circuit 60 20 2\nin\nadd 4294967296 0\n" plan (refused_at 4 1 3)
    ∷ row "circuit 60 20 2\nin\nadd 0 4294967296\n" plan (refused_at 4 1 3)
    ∷ row "circuit 60 20 2\nin\nadd 99999999999 0\n" plan (refused_at 4 1 3)
    ∷ row "circuit 60 20 2\nin\nadd 0 99999999999\n" plan (refused_at 4 1 3)
    ∷ row "circuit 60 20 2\nin\nmul 4294967296 0\n" plan (refused_at 4 1 3)
    ∷ row "circuit 60 20 2\nin\nrot 4294967296 1\n" plan (refused_at 4 1 3)
    ∷ row "circuit 60 20 2\nin\nout 4294967296\n" plan (refused_at 4 1 3)
    ∷ row "schedule 60 20 2\nin\nrs 4294967296 1\n" erase (refused_at 4 1 3)
    -- amounts, bits, counts, scales, levels and header numbers whose lowest 32 bits, or 16, would be in range
    ∷ row "circuit 60 20 2\nin\nrot 0 4294967297\n" plan (refused_at 11 1 3)
    ∷ row "schedule 60 20 2\nin\nus 0 65537\n" erase (refused_at 11 1 3)
    ∷ row "schedule 60 20 2\nin\nus 0 4294967297\n" erase (refused_at 11 1 3)
    ∷ row "schedule 60 20 2\nin\nrs 0 4294967297\n" erase (refused_at 11 1 3)
    ∷ row "schedule 60 20 2\nin\nms 0 4294967297\n" erase (refused_at 11 1 3)
    ∷ row "schedule 60 20 2\nconst 1\nenc 0 4294967316 2\n" erase (refused_at 11 1 3)
    ∷ row "schedule 60 20 2\nconst 1\nenc 0 20 4294967297\n" erase (refused_at 11 1 3)
    ∷ row "circuit 4294967356 20 2\n" plan (refused_at 2 1 1)
    ∷ row "circuit 60 4294967316 2\n" plan (refused_at 2 1 1)
    ∷ row "circuit 60 20 4294967297\n" plan (refused_at 2 1 1)
    ∷ []
