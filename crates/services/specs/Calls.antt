-- What each call comes to, composed of the services on files, as the code has it. No promise of an exported service rests on this:
-- Promises says what it means.
use Rattle.std.specs.Prelude.{ℕ, suc, ◌+◌, cond, List, [], ◌∷◌, leb, length}
use Rattle.fields.specs.Pieces.{Bytes}
use Rattle.model.specs.declared.Grammar.TheVariants.{Circuit, Schedule}
use Rattle.model.specs.declared.Answer.{Answer}
use Rattle.model.specs.declared.Answer.TheVariants.{Done, Level, Refused}
use Rattle.model.specs.declared.Header.{Header}
use Rattle.model.specs.declared.Line.{Line}
use Rattle.model.specs.Files.{limit}
use Rattle.model.specs.Services.{Planned, scheduled, unplanned, plan, erase_file}
use Rattle.model.specs.Answers.{least_level}
use Rattle.model.specs.Answers.{answer_file, check}
use Rattle.rows.specs.Rows.{place_of, Reading, read, refused}
use Rattle.text.specs.Files.{read_text, circuit_context, schedule_context, erase_context, file_text}
use Rattle.listings.specs.Listings.{read_listing}
use Rattle.listings.specs.Held.{held_reading, is_downscale, held_answer, found_scales, convert_held}
use Rattle.services.specs.Outcomes.{Outcome, writes, passes, tells, refuses}

-- the answer of a service on files that were read; the file is the one whose line is at fault
abbrev pub answered : ℕ → Answer → Outcome
answered file Done = passes
answered file (Level l) = tells l
answered file (Refused n p) = refuses n (answer_file file (Refused n p)) p

-- what follows once a file is read, the file of this number; else its refusal
abbrev pub once_read : {A : Type 0} → ℕ → Reading A → (A → Outcome) → Outcome
once_read number (read file) more = more file
once_read number (refused n p) more = refuses n number p

-- "Plan a circuit"
abbrev pub planned : Planned → Outcome
planned (scheduled schedule) = writes (file_text Schedule schedule)
planned (unplanned n p) = refuses n 1 p

abbrev pub plan_outcome : Bytes → Outcome
plan_outcome circuit = once_read 1 (read_text circuit_context circuit) (λ file. planned (plan file))

-- "check a schedule against a circuit": "Files are read top to bottom, circuit first"
abbrev pub check_outcome : Bytes → Bytes → Outcome
check_outcome circuit schedule =
    once_read 1 (read_text circuit_context circuit) (λ c. once_read 2 (read_text schedule_context schedule) (λ s. answered 2 (check c s)))

-- "erase a schedule to its circuit (rules need not hold)"
abbrev pub erase_outcome : Bytes → Outcome
erase_outcome schedule = once_read 1 (read_text erase_context schedule) (λ file. writes (file_text Circuit (erase_file file)))

-- "give the least top level"
abbrev pub least_outcome : Bytes → Outcome
least_outcome circuit = once_read 1 (read_text circuit_context circuit) (λ file. answered 1 (least_level file))

-- "Give a converter each way": 3 at the first line that no longer fits, where so many lines of the schedule are used before line i
abbrev pub full_at : ℕ → ℕ → List Line → ℕ
full_at i used [] = place_of i
full_at i used (x ∷ xs) =
    let more = used + cond (is_downscale x) 2 1 in
    cond (leb more (limit Schedule)) (full_at (suc i) more xs) (place_of i)

-- lines that a table holds, of a listing that keeps its rules with these scales
unfoldable pub converted_outcome : Header → (ℕ → ℕ) → List Line → Outcome
converted_outcome h scale lines =
    let schedule = convert_held h scale lines in
    cond (leb (length schedule) (limit Schedule)) (writes (file_text Schedule (record { header = h; lines = schedule })))
    (refuses 3 1 (full_at 0 0 lines))

abbrev pub ruled_outcome : Header → List Line → Answer → Outcome
ruled_outcome h lines Done = converted_outcome h (found_scales h lines) lines
ruled_outcome h lines (Level l) = passes
ruled_outcome h lines (Refused n p) = refuses n 1 p

abbrev pub from_rising_outcome : Bytes → Outcome
from_rising_outcome listing =
    once_read 1 (held_reading (read_listing listing)) (λ f. ruled_outcome f.header f.lines (held_answer f.header f.lines))
