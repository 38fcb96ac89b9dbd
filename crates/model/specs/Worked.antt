-- Small files, as cases of one table: the two machines, to the end and each way in which the scale machine can stop on a well-formed
-- schedule; best reserves and plans that pin the clauses of "The plan" one by one; constant numbers on both sides of their limit; and the
-- headroom. Document 01's own cases are rows of the services' table, on whole files.
use Rattle.std.specs.Prelude as Std
use Rattle.std.specs.Prelude.{ℕ, ◌+◌, refl, Bool, true, false, ◌&&◌, List, [], ◌∷◌, ◌++◌, map, get_or, ℤ, pos, negsuc, ◌-ℤ◌, Some, None}
use Rattle.std.proofs.Math.Option.{Option, none, some}
use Rattle.std.proofs.Common.{lit≤}
use Rattle.rows.specs.Rows.{Judgement, good, bad, judged}
use Rattle.model.specs.declared.Answer.{Answer}
use Rattle.model.specs.declared.Answer.TheVariants.{Done, Level, Refused}
use Rattle.model.specs.declared.Best.{Best}
use Rattle.model.specs.declared.Best.TheVariants as Bests
use Rattle.model.specs.declared.Line.{Line}
use Rattle.model.specs.declared.Line.TheVariants.{In, Const, Neg, Rot, Add, Mul, Out, Enc, Rs, Ms, Us}
use Rattle.model.specs.declared.Grammar.{Grammar}
use Rattle.model.specs.declared.Grammar.TheVariants.{Circuit, Schedule}
use Rattle.model.specs.Files.{File, line_tests, well_formed}
use Rattle.model.specs.Machine.{Run, finished, stopped, run}
use Rattle.model.specs.Machines.{Vector, Handed, Holding, scaled, plain_machine, scale_machine, times_two_to}
use Rattle.model.specs.Machines.{Reason, levels_differ, scales_differ, remainder, below_waterline, above_modulus}
use Rattle.model.specs.Plan.{best_machine}
use Rattle.model.specs.Services.{Planned, scheduled, unplanned, plan}
use Rattle.model.specs.Answers.{check, least_level}
use Rattle.model.specs.Demands.{are_small, below_half, is_ciphertext_line}

-- Run the scale machine on the schedule; run the plain machine on the circuit; give the best reserve of each line of the circuit; plan the
-- circuit; judge one line more of the circuit; give the circuit's least top level; check a schedule against the circuit.
pub data Asked : Type 0 where
  runs : Asked
  runs_plain : Asked
  weighs : Asked
  plans : Asked
  judges : Line → Asked
  seeks : Asked
  checks : File → Asked

pub data Ends : Type 0 where
  scale_run : Run Holding Reason → Ends
  plain_run : Run Vector Reason → Ends
  -- none for a bare constant
  reserves : Run (Option ℤ) ℕ → Ends
  planning : Planned → Ends
  judging : Judgement Line → Ends
  answering : Answer → Ends

pub record Case : Type 0 where
  pub input : File
  pub asked : Asked
  pub ends : Ends

-- the file that is asked about
abbrev pub grammar_of : Asked → Grammar
grammar_of runs = Schedule
grammar_of runs_plain = Circuit
grammar_of weighs = Circuit
grammar_of plans = Circuit
grammar_of (judges x) = Circuit
grammar_of seeks = Circuit
grammar_of (checks schedule) = Circuit

-- What the machines are handed: three slots, input number k holding k + 1, k + 2 and k − 3, constant number k holding k, −1 and 2.
abbrev pub handed : Handed
handed =
    record {
      slots = 3;
      at_least_one = lit≤ tt;
      inputs = λ k. pos (k + 1) ∷ pos (k + 2) ∷ (pos k -ℤ pos 3) ∷ [];
      constants = λ k. pos k ∷ negsuc 0 ∷ pos 2 ∷ [];
      inputs_long = λ k. refl;
      constants_long = λ k. refl;
    }

abbrev pub reserve_of : Best → Option ℤ
reserve_of Bests.Constant = none
reserve_of (Bests.Ciphertext p) = some p.reserve

abbrev pub reserves_of : Run Best ℕ → Run (Option ℤ) ℕ
reserves_of (finished best) = finished (map reserve_of best)
reserves_of (stopped i n) = stopped i n

abbrev pub ends_of : Asked → File → Ends
ends_of runs file = scale_run (run (scale_machine handed file.header) file.lines)
ends_of runs_plain file = plain_run (run (plain_machine handed) file.lines)
ends_of weighs file = reserves (reserves_of (run (best_machine file.header) file.lines))
ends_of plans file = planning (plan file)
ends_of (judges x) file = judging (judged (line_tests Circuit file.header file.lines x) x)
ends_of seeks file = answering (least_level file)
ends_of (checks schedule) file = answering (check file schedule)

abbrev pub input_formed : Case → Bool
input_formed c = well_formed (grammar_of c.asked) c.input.header c.input.lines

abbrev pub all_formed : List Case → Bool
all_formed [] = true
all_formed (c ∷ cs) = input_formed c && all_formed cs

-- F, W, L and H, and the lines
abbrev pub under_header : ℕ → ℕ → ℕ → Std.Option ℕ → List Line → File
under_header f w l headroom lines = record { header = record { factor = f; waterline = w; top = l; headroom = headroom }; lines = lines }

abbrev pub under : ℕ → ℕ → ℕ → List Line → File
under f w l lines = under_header f w l None lines

-- F = 60, W = 20
abbrev pub at : ℕ → List Line → File
at l lines = under 60 20 l lines

abbrev pub case : File → Asked → Ends → Case
case file asked ends = record { input = file; asked = asked; ends = ends }

-- a circuit and its plan
abbrev pub with_plan : ℕ → ℕ → ℕ → List Line → List Line → Case
with_plan f w l circuit schedule = case (under f w l circuit) plans (planning (scheduled (under f w l schedule)))

-- the case past the end of the table
abbrev pub no_case : Case
no_case = case (at 1 []) runs (scale_run (finished []))

-- three slots, and the same times two to the k
abbrev pub slots : ℤ → ℤ → ℤ → Vector
slots a b c = a ∷ b ∷ c ∷ []

abbrev pub held : ℕ → ℕ → ℤ → ℤ → ℤ → Holding
held k l a b c = scaled k l (times_two_to k (slots a b c))

abbrev pub machine_cases : List Case
machine_cases =
    -- the plain machine
    case (at 2 (In ∷ Const 7 ∷ Neg 0 ∷ Rot 0 (pos 1) ∷ Rot 0 (negsuc 3) ∷ Add 0 1 ∷ Mul 0 0 ∷ In ∷ Out 6 ∷ [])) runs_plain
    (plain_run (finished (
    slots (pos 1) (pos 2) (negsuc 2)
    ∷ slots (pos 7) (negsuc 0) (pos 2)
    ∷ slots (negsuc 0) (negsuc 1) (pos 3)
    ∷ slots (pos 2) (negsuc 2) (pos 1)
    ∷ slots (negsuc 2) (pos 1) (pos 2)
    ∷ slots (pos 8) (pos 1) (negsuc 0)
    ∷ slots (pos 1) (pos 4) (pos 9)
    ∷ slots (pos 2) (pos 3) (negsuc 1)
    ∷ slots (pos 1) (pos 4) (pos 9)
    ∷ [])))
    -- the scale machine to its end
    ∷ case (at 2 (In ∷ Const 7 ∷ Enc 1 20 2 ∷ Mul 0 2 ∷ Us 3 40 ∷ Rs 4 1 ∷ Ms 3 1 ∷ Rot 5 (pos 1) ∷ Out 7 ∷ [])) runs
    (scale_run (finished (
    held 20 2 (pos 1) (pos 2) (negsuc 2)
    ∷ Holding.bare (slots (pos 7) (negsuc 0) (pos 2))
    ∷ held 20 2 (pos 7) (negsuc 0) (pos 2)
    ∷ held 40 2 (pos 7) (negsuc 1) (negsuc 5)
    ∷ held 80 2 (pos 7) (negsuc 1) (negsuc 5)
    ∷ held 20 1 (pos 7) (negsuc 1) (negsuc 5)
    ∷ held 40 1 (pos 7) (negsuc 1) (negsuc 5)
    ∷ held 20 1 (negsuc 1) (negsuc 5) (pos 7)
    ∷ held 20 1 (negsuc 1) (negsuc 5) (pos 7)
    ∷ [])))
    -- and each way it can stop on a well-formed schedule
    ∷ case (at 2 (In ∷ Ms 0 1 ∷ Add 0 1 ∷ [])) runs (scale_run (stopped 2 levels_differ))
    ∷ case (at 2 (In ∷ Ms 0 1 ∷ Mul 0 1 ∷ [])) runs (scale_run (stopped 2 levels_differ))
    ∷ case (at 2 (In ∷ Us 0 1 ∷ Add 0 1 ∷ [])) runs (scale_run (stopped 2 scales_differ))
    ∷ case (at 2 (In ∷ Rs 0 1 ∷ [])) runs (scale_run (stopped 1 remainder))
    ∷ case (at 2 (In ∷ Us 0 59 ∷ Rs 1 1 ∷ [])) runs (scale_run (stopped 2 below_waterline))
    ∷ case (at 1 (In ∷ Us 0 41 ∷ [])) runs (scale_run (stopped 1 above_modulus))
    ∷ case (at 1 (In ∷ Ms 0 1 ∷ [])) runs (scale_run (stopped 1 above_modulus))
    ∷ []

-- Document 02, Job 6: best reserves, our own, worked by hand with F = 60 and W = 20: at level l scale W leaves 60·l − 20.
abbrev pub bits : ℕ → Option ℤ
bits n = some (pos n)

abbrev pub with_reserves : ℕ → List Line → List (Option ℤ) → Case
with_reserves l circuit best = case (at l circuit) weighs (reserves (finished best))

abbrev pub reserve_cases : List Case
reserve_cases =
    -- a product at m: 100 + 100 − 120; and at m − 1: x³ has 80 + 100 − 120 = 60, x⁶ 60 − 40 = 20 at level 1, which is more than 60 + 60 − 120
    with_reserves 2 (In ∷ Mul 0 0 ∷ []) (bits 100 ∷ bits 80 ∷ [])
    ∷ with_reserves 2 (In ∷ Mul 0 0 ∷ Mul 1 0 ∷ Mul 2 2 ∷ []) (bits 100 ∷ bits 80 ∷ bits 60 ∷ bits 20 ∷ [])
    -- m's unequal: x⁴ has 140 + 140 − 180 = 100, m = 2, and the input 160, m = 3: 100 − 20
    ∷ with_reserves 3 (In ∷ Mul 0 0 ∷ Mul 1 1 ∷ Mul 2 0 ∷ []) (bits 160 ∷ bits 140 ∷ bits 100 ∷ bits 80 ∷ [])
    -- a constant's product, in either place: 40 − 20
    ∷ with_reserves 1 (In ∷ Const 7 ∷ Mul 0 1 ∷ Mul 1 0 ∷ []) (bits 40 ∷ none ∷ bits 20 ∷ bits 20 ∷ [])
    -- `add`: the smaller, in either place; with a constant the ciphertext's
    ∷ with_reserves 2 (In ∷ Mul 0 0 ∷ Add 0 1 ∷ Add 1 0 ∷ Add 1 1 ∷ []) (bits 100 ∷ bits 80 ∷ bits 80 ∷ bits 80 ∷ bits 80 ∷ [])
    ∷ with_reserves 1 (In ∷ Const 7 ∷ Add 0 1 ∷ Add 1 0 ∷ []) (bits 40 ∷ none ∷ bits 40 ∷ bits 40 ∷ [])
    -- `neg`, `rot` and `out`: the operand's
    ∷ with_reserves 2 (In ∷ Mul 0 0 ∷ Neg 1 ∷ Rot 1 (pos 3) ∷ Out 1 ∷ []) (bits 100 ∷ bits 80 ∷ bits 80 ∷ bits 80 ∷ bits 80 ∷ [])
    -- H takes nothing from a reserve, and a best reserve below it is 6
    ∷ case (under_header 60 20 1 (Some 20) (In ∷ Mul 0 0 ∷ [])) weighs (reserves (finished (bits 40 ∷ bits 20 ∷ [])))
    ∷ case (under_header 60 20 1 (Some 21) (In ∷ Mul 0 0 ∷ [])) weighs (reserves (stopped 1 6))
    ∷ []

-- which lines are ciphertext lines, for each word
abbrev pub ciphertext_lines : List (Bool × Bool)
ciphertext_lines =
    (is_ciphertext_line In, true) ∷ (is_ciphertext_line (Const 7), false) ∷ (is_ciphertext_line (Neg 0), true)
    ∷ (is_ciphertext_line (Rot 0 (pos 1)), true) ∷ (is_ciphertext_line (Add 0 1), true) ∷ (is_ciphertext_line (Mul 0 1), true)
    ∷ (is_ciphertext_line (Out 0), true) ∷ (is_ciphertext_line (Enc 0 20 1), false) ∷ (is_ciphertext_line (Rs 0 1), true)
    ∷ (is_ciphertext_line (Ms 0 1), true) ∷ (is_ciphertext_line (Us 0 1), true) ∷ []

-- Plans, our own, worked by hand: of each line its reserve @ its level; for each operand that is brought (r, l) to (r', l'), d and q.
abbrev pub plan_cases : List Case
plan_cases =
    -- `neg` and `rot` at m(r), not at the operand's level. in 20 @ 3; mul: m = 3, 20 + 20 − 30 = 10 @ 3, below it 20 − 20 = 0;
    -- neg: m(10) = 2, (10, 3) to (10, 2): d = 0, q = 0, rs 1.
    with_plan 10 10 3 (In ∷ Mul 0 0 ∷ Neg 1 ∷ []) (In ∷ Mul 0 0 ∷ Rs 1 1 ∷ Neg 2 ∷ [])
    ∷ with_plan 10 10 3 (In ∷ Mul 0 0 ∷ Rot 1 (negsuc 4) ∷ []) (In ∷ Mul 0 0 ∷ Rs 1 1 ∷ Rot 2 (negsuc 4) ∷ [])
    -- `out` names the product as it is, at level 3.
    ∷ with_plan 10 10 3 (In ∷ Mul 0 0 ∷ Out 1 ∷ []) (In ∷ Mul 0 0 ∷ Out 1 ∷ [])
    -- `add` at m(r), not at the smaller level, and each operand with its own conversion: 10 @ 2, twice (10, 3) to (10, 2).
    ∷ with_plan 10 10 3 (In ∷ Mul 0 0 ∷ Add 1 1 ∷ []) (In ∷ Mul 0 0 ∷ Rs 1 1 ∷ Rs 1 1 ∷ Add 2 3 ∷ [])
    -- the smaller reserve in either place. Value 0: (20, 3) to (10, 2), d = 10, q = 1 = l − l': ms 1, no us, no rs; value 1 as before.
    ∷ with_plan 10 10 3 (In ∷ Mul 0 0 ∷ Add 0 1 ∷ []) (In ∷ Mul 0 0 ∷ Ms 0 1 ∷ Rs 1 1 ∷ Add 2 3 ∷ [])
    ∷ with_plan 10 10 3 (In ∷ Mul 0 0 ∷ Add 1 0 ∷ []) (In ∷ Mul 0 0 ∷ Rs 1 1 ∷ Ms 0 1 ∷ Add 2 3 ∷ [])
    -- a constant is added at m(r) and the ciphertext's scale, not at level 4 or scale W. in 25 @ 4; mul: m = 4, 25 + 25 − 40 = 10 @ 4,
    -- below it 30 − 30 = 0; add: m(10) = 3, (10, 4) to (10, 3): d = 0, q = 0, rs 1; scale 30 − 10 = 20.
    ∷ with_plan 10 15 4 (In ∷ Const 7 ∷ Mul 0 0 ∷ Add 2 1 ∷ []) (In ∷ Const 7 ∷ Mul 0 0 ∷ Rs 2 1 ∷ Enc 1 20 3 ∷ Add 3 4 ∷ [])
    ∷ with_plan 10 15 4 (In ∷ Const 7 ∷ Mul 0 0 ∷ Add 1 2 ∷ []) (In ∷ Const 7 ∷ Mul 0 0 ∷ Enc 1 20 3 ∷ Rs 2 1 ∷ Add 3 4 ∷ [])
    -- and multiplied at m(r) and scale W, not at level 5 or the ciphertext's scale 20. in 35 @ 5; mul: m = 5, 35 + 35 − 50 = 20 @ 5, below
    -- it 40 − 30 = 10; mul with the constant: m(20) = 4, (20, 5) to (20, 4): d = 0, q = 0, rs 1; 20 − 15 = 5 @ 4.
    ∷ with_plan 10 15 5 (In ∷ Const 7 ∷ Mul 0 0 ∷ Mul 2 1 ∷ []) (In ∷ Const 7 ∷ Mul 0 0 ∷ Rs 2 1 ∷ Enc 1 15 4 ∷ Mul 3 4 ∷ [])
    ∷ with_plan 10 15 5 (In ∷ Const 7 ∷ Mul 0 0 ∷ Mul 1 2 ∷ []) (In ∷ Const 7 ∷ Mul 0 0 ∷ Enc 1 15 4 ∷ Rs 2 1 ∷ Mul 3 4 ∷ [])
    -- more than one modswitch. in 20 @ 4; mul: m = 4, 20 + 20 − 40 = 0 @ 4, below it 30 − 40 = −10; add: m(0) = 2.
    -- Value 0: (20, 4) to (0, 2), d = 20, q = 2 = l − l': ms 2; value 1: (0, 4) to (0, 2), d = 0, q = 0: rs 2.
    ∷ with_plan 10 20 4 (In ∷ Mul 0 0 ∷ Add 0 1 ∷ []) (In ∷ Mul 0 0 ∷ Ms 0 2 ∷ Rs 1 2 ∷ Add 2 3 ∷ [])
    -- `ms` and `us`, no `rs`. in 25 @ 4; mul: m = 4, 25 + 25 − 40 = 10 @ 4, below it 30 − 30 = 0; add: m(10) = 3.
    -- Value 0: (25, 4) to (10, 3), d = 15, q = 1 = l − l': ms 1, us 15 − 10 = 5; value 1: (10, 4) to (10, 3): rs 1.
    ∷ with_plan 10 15 4 (In ∷ Mul 0 0 ∷ Add 0 1 ∷ []) (In ∷ Mul 0 0 ∷ Ms 0 1 ∷ Us 2 5 ∷ Rs 1 1 ∷ Add 3 4 ∷ [])
    -- `us` alone. in 7 @ 1; mul: 4 @ 1; add: m(4) = 1. Value 0: (7, 1) to (4, 1), d = 3, q = 0: us 3.
    ∷ with_plan 10 3 1 (In ∷ Mul 0 0 ∷ Add 0 1 ∷ []) (In ∷ Mul 0 0 ∷ Us 0 3 ∷ Add 2 1 ∷ [])
    -- `ms` and `rs`, no `us`. in 30 @ 4; mul: m = 4, 30 + 30 − 40 = 20 @ 4; mul: m(20) = 3, 20 + 20 − 30 = 10 @ 3; add: m(10) = 2.
    -- Value 1: (20, 4) to (10, 2), d = 10, q = 1 < l − l' = 2: ms 1, rs 1; value 2: (10, 3) to (10, 2): rs 1.
    ∷ with_plan 10 10 4 (In ∷ Mul 0 0 ∷ Mul 1 1 ∷ Add 1 2 ∷ [])
    (In ∷ Mul 0 0 ∷ Rs 1 1 ∷ Rs 1 1 ∷ Mul 2 3 ∷ Ms 1 1 ∷ Rs 5 1 ∷ Rs 4 1 ∷ Add 6 7 ∷ [])
    -- reserve 0 is enough, and −1 is not. in 6 @ 1 and mul 6 + 6 − 12 = 0 @ 1; in 5 @ 1 and mul 5 + 5 − 11 = −1, below it 0 − 12.
    ∷ with_plan 12 6 1 (In ∷ Mul 0 0 ∷ []) (In ∷ Mul 0 0 ∷ [])
    ∷ case (under 11 6 1 (In ∷ Mul 0 0 ∷ [])) plans (planning (unplanned 6 3))
    ∷ []

-- Document 02, Job 1: "A constant number runs from 0 to 4294967295." A number of 17 bits, the largest, and one more.
abbrev pub constant_cases : List Case
constant_cases =
    case (at 2 []) (judges (Const 65536)) (judging (good (Const 65536)))
    ∷ case (at 2 []) (judges (Const 4294967295)) (judging (good (Const 4294967295)))
    ∷ case (at 2 []) (judges (Const 4294967296)) (judging (bad 11))
    ∷ []

-- ---- Document 02, Job 3
-- F = 60, W = 20, H given
abbrev pub leaving : ℕ → ℕ → List Line → File
leaving l bits lines = under_header 60 20 l (Some bits) lines

-- a circuit's plan with H has the lines of the plan without
abbrev pub same_plan : ℕ → ℕ → List Line → List Line → Case
same_plan l bits circuit schedule = case (leaving l bits circuit) plans (planning (scheduled (leaving l bits schedule)))

abbrev pub headroom_cases : List Case
headroom_cases =
    -- "Each scale must satisfy scale + H ≤ F·level": a scale that just fits and one bit more, by each word at which it can first be too large
    case (leaving 1 5 (In ∷ Us 0 35 ∷ [])) runs
    (scale_run (finished (held 20 1 (pos 1) (pos 2) (negsuc 2) ∷ held 55 1 (pos 1) (pos 2) (negsuc 2) ∷ [])))
    ∷ case (leaving 1 5 (In ∷ Us 0 36 ∷ [])) runs (scale_run (stopped 1 above_modulus))
    ∷ case (leaving 1 40 (In ∷ [])) runs (scale_run (finished (held 20 1 (pos 1) (pos 2) (negsuc 2) ∷ [])))
    ∷ case (leaving 1 41 (In ∷ [])) runs (scale_run (stopped 0 above_modulus))
    ∷ case (leaving 1 5 (Const 7 ∷ Enc 0 55 1 ∷ [])) runs
    (scale_run (finished (Holding.bare (slots (pos 7) (negsuc 0) (pos 2)) ∷ held 55 1 (pos 7) (negsuc 0) (pos 2) ∷ [])))
    ∷ case (leaving 1 5 (Const 7 ∷ Enc 0 56 1 ∷ [])) runs (scale_run (stopped 1 above_modulus))
    ∷ case (leaving 1 20 (In ∷ Mul 0 0 ∷ [])) runs
    (scale_run (finished (held 20 1 (pos 1) (pos 2) (negsuc 2) ∷ held 40 1 (pos 1) (pos 4) (pos 9) ∷ [])))
    ∷ case (leaving 1 21 (In ∷ Mul 0 0 ∷ [])) runs (scale_run (stopped 1 above_modulus))
    ∷ case (leaving 2 40 (In ∷ Ms 0 1 ∷ [])) runs
    (scale_run (finished (held 20 2 (pos 1) (pos 2) (negsuc 2) ∷ held 20 1 (pos 1) (pos 2) (negsuc 2) ∷ [])))
    ∷ case (leaving 2 41 (In ∷ Ms 0 1 ∷ [])) runs (scale_run (stopped 1 above_modulus))
    -- the check refuses it with 9, 10 before 9, and 12 at the header before 9 where H differs; and where one file has none
    ∷ case (leaving 1 5 (Const 7 ∷ [])) (checks (leaving 1 5 (Const 7 ∷ Enc 0 55 1 ∷ []))) (answering Done)
    ∷ case (leaving 1 5 (Const 7 ∷ [])) (checks (leaving 1 5 (Const 7 ∷ Enc 0 56 1 ∷ []))) (answering (Refused 9 3))
    ∷ case (leaving 1 60 (Const 7 ∷ [])) (checks (leaving 1 60 (Const 7 ∷ Enc 0 19 1 ∷ []))) (answering (Refused 10 3))
    ∷ case (leaving 1 5 (Const 7 ∷ [])) (checks (leaving 1 6 (Const 7 ∷ Enc 0 56 1 ∷ []))) (answering (Refused 12 1))
    ∷ case (leaving 1 5 (Const 7 ∷ [])) (checks (at 1 (Const 7 ∷ []))) (answering (Refused 12 1))
    ∷ case (at 1 (Const 7 ∷ [])) (checks (leaving 1 5 (Const 7 ∷ []))) (answering (Refused 12 1))
    ∷ []

abbrev pub headroom_plans : List Case
headroom_plans =
    -- "a best reserve below H is too few levels". in 60 − 20 = 40 @ 1; mul 40 + 40 − 60 = 20 @ 1; with a constant 40 − 20 = 20 @ 1.
    same_plan 1 40 (In ∷ []) (In ∷ [])
    ∷ case (leaving 1 41 (In ∷ [])) plans (planning (unplanned 6 2))
    ∷ same_plan 1 20 (In ∷ Mul 0 0 ∷ Out 1 ∷ []) (In ∷ Mul 0 0 ∷ Out 1 ∷ [])
    ∷ case (leaving 1 21 (In ∷ Mul 0 0 ∷ Out 1 ∷ [])) plans (planning (unplanned 6 3))
    ∷ same_plan 1 20 (In ∷ Const 7 ∷ Mul 1 0 ∷ []) (In ∷ Const 7 ∷ Enc 1 20 1 ∷ Mul 2 0 ∷ [])
    ∷ case (leaving 1 21 (In ∷ Const 7 ∷ Mul 1 0 ∷ [])) plans (planning (unplanned 6 4))
    -- the formulas stay. in 100 @ 2; mul 80 @ 2, m(80) = 2; mul 80 + 80 − 120 = 40 @ 2, m(40) = 1; neg 40 @ 1: (40, 2) to (40, 1): rs 1.
    ∷ same_plan 2 40 (In ∷ Mul 0 0 ∷ Mul 1 1 ∷ Neg 2 ∷ []) (In ∷ Mul 0 0 ∷ Mul 1 1 ∷ Rs 2 1 ∷ Neg 3 ∷ [])
    -- each level tried has H. Level 1: mul 20, mul 20 + 20 − 60 = −20; level 2: 40 as above; level 3: in 160, mul 140, mul 100.
    ∷ case (leaving 1 40 (In ∷ Mul 0 0 ∷ Mul 1 1 ∷ [])) seeks (answering (Level 2))
    ∷ case (leaving 1 41 (In ∷ Mul 0 0 ∷ Mul 1 1 ∷ [])) seeks (answering (Level 3))
    -- in 60 − 60 = 0 @ 60: no level leaves one bit
    ∷ case (under 1 60 1 (In ∷ [])) seeks (answering (Level 60))
    ∷ case (under_header 1 60 1 (Some 1) (In ∷ [])) seeks (answering (Refused 6 2))
    ∷ []

-- whether the scale machine holds only numbers below half of its modulus in this line of a schedule
abbrev pub held_below_half : File → ℕ → Bool
held_below_half file i =
    elim (run (scale_machine handed file.header) file.lines) [
      | finished values ↦ is_below_half (get_or values i (Holding.bare []))
      | stopped j reason ↦ false
    ]
  where
    is_below_half : Holding → Bool
    is_below_half (Holding.bare v) = false
    is_below_half (scaled s l v) = below_half file.header l v

-- "circuit numbers … below two to the power (H − 1)", and "below half its modulus": what is computed, and what it is
abbrev pub sizes : List (Bool × Bool)
sizes =
    (are_small 5 (slots (pos 15) (negsuc 14) (pos 12)), true)
    ∷ (are_small 5 (slots (pos 0) (pos 16) (pos 0)), false)
    ∷ (are_small 5 (slots (pos 0) (pos 0) (negsuc 15)), false)
    ∷ (are_small 1 (slots (pos 0) (pos 0) (pos 0)), true)
    ∷ (are_small 1 (slots (negsuc 0) (pos 0) (pos 0)), false)
    -- at level 1 the modulus is two to 60: 15 times two to 55 is below two to 59, and 16 times two to 55 is two to 59
    ∷ (below_half (at 1 []).header 1 (times_two_to 55 (slots (pos 15) (negsuc 14) (pos 12))), true)
    ∷ (below_half (at 1 []).header 1 (times_two_to 55 (slots (pos 0) (pos 16) (pos 0))), false)
    ∷ (below_half (at 1 []).header 1 (times_two_to 55 (slots (pos 0) (pos 0) (negsuc 15))), false)
    ∷ (below_half (at 1 []).header 2 (times_two_to 119 (slots (pos 0) (pos 0) (pos 0))), true)
    ∷ (below_half (at 1 []).header 2 (times_two_to 118 (slots (pos 1) (negsuc 0) (pos 0))), true)
    ∷ (below_half (at 1 []).header 2 (times_two_to 119 (slots (pos 1) (pos 0) (pos 0))), false)
    -- an `out` at the highest scale that H = 3 leaves, 57 of 60 bits, of the first input, 1, 2 and −3, and of the third, 3, 4 and −1: 4 times two
    -- to 57 is half the modulus; and without H at scale 60
    ∷ (are_small 3 (handed.inputs 0), true)
    ∷ (held_below_half (leaving 1 3 (In ∷ Us 0 37 ∷ Out 1 ∷ [])) 2, true)
    ∷ (are_small 3 (handed.inputs 2), false)
    ∷ (held_below_half (leaving 1 3 (In ∷ In ∷ In ∷ Us 2 37 ∷ Out 3 ∷ [])) 4, false)
    ∷ (held_below_half (at 1 (In ∷ Us 0 40 ∷ Out 1 ∷ [])) 2, false)
    ∷ []

abbrev pub cases : List Case
cases = machine_cases ++ reserve_cases ++ plan_cases ++ constant_cases ++ headroom_cases ++ headroom_plans
