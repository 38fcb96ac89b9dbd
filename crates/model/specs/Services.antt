-- Document 01, "Services", on files that were read: erase a schedule, plan a circuit.
use Rattle.std.specs.Prelude.{ℕ, suc, cond, not, ◌&&◌, List, [], ◌∷◌, ◌++◌, get_or}
use Rattle.model.specs.declared.Line.{Line}
use Rattle.model.specs.declared.Grammar.TheVariants.{Circuit, Schedule}
use Rattle.rows.specs.Rows.{place_of}
use Rattle.model.specs.Files.{File, said, line_of, word_of, row_of, is_word, operands}
use Rattle.model.specs.Words.{renumber}
use Rattle.model.specs.Machine.{finished, stopped, run}
use Rattle.model.specs.Plan.{best_machine, plan_lines}

-- A line stays, or is struck and was made from the line that it names.
pub data Fate : Type 0 where
  kept : Fate
  made_from : ℕ → Fate

-- "Erasing keeps the lines with circuit words"; demand 2: "striking out the encode, rescale, modswitch and upscale lines", a schedule's own
abbrev pub fate_of : Line → Fate
fate_of x = cond (is_word Schedule x && not (is_word Circuit x)) (made_from (get_or (operands x) 0 0)) kept

-- A line that names other values.
abbrev pub renamed : (ℕ → ℕ) → Line → Line
renamed name x = line_of (word_of x) (renumber name (row_of x).fields (said x).numbers)

-- "an operand on a struck line becomes the kept line that it was made from, and values are counted anew". origins: for each line so far the
-- kept line that it is or was made from, counted anew; count: the lines kept so far.
abbrev pub renumbered : List ℕ → ℕ → Line → Line
renumbered origins count x = renamed (λ a. get_or origins a count) x

-- the lines that stay
abbrev pub erase_from : List ℕ → ℕ → List Line → List Line
erase_from origins count [] = []
erase_from origins count (x ∷ xs) =
    elim (fate_of x) [
      | kept ↦ renumbered origins count x ∷ erase_from (origins ++ (count ∷ [])) (suc count) xs
      | made_from a ↦ erase_from (origins ++ (get_or origins a count ∷ [])) count xs
    ]

-- the value numbers of the kept lines, in order
abbrev pub kept_from : ℕ → List Line → List ℕ
kept_from i [] = []
kept_from i (x ∷ xs) = elim (fate_of x) [ kept ↦ i ∷ kept_from (suc i) xs | made_from a ↦ kept_from (suc i) xs ]

-- "Erasing keeps the lines with circuit words". The rules need not hold.
abbrev pub erase : List Line → List Line
erase schedule = erase_from [] 0 schedule

-- "The lines that erasing keeps are the circuit's, in order."
abbrev pub kept_lines : List Line → List ℕ
kept_lines schedule = kept_from 0 schedule

-- "Erasing keeps the lines with circuit words, under the header word `circuit`": the header's numbers stay.
abbrev pub erase_file : File → File
erase_file schedule = record { header = schedule.header; lines = erase schedule.lines }

-- What planning gives: a schedule, or a refusal's number and place.
pub data Planned : Type 0 where
  scheduled : File → Planned
  unplanned : ℕ → ℕ → Planned

-- 6 at the first line whose best reserve is too low, and otherwise the plan, under the circuit's header numbers.
abbrev pub plan : File → Planned
plan circuit =
    elim (run (best_machine circuit.header) circuit.lines) [
      | finished best ↦ scheduled (record { header = circuit.header; lines = plan_lines circuit.header best circuit.lines })
      | stopped i n ↦ unplanned n (place_of i)
    ]
