-- Document 01, "Services": what the program prints, and what is promised of it. No promise of an exported service rests on this.
use Rattle.std.specs.Prelude.{ℕ, ◌≤◌, ◌≡◌, [], ◌∷◌, ◌++◌, pos, length, drop}
use Rattle.fields.specs.Pieces.{Bytes}
use Rattle.rows.specs.Forms.{said_text}
use Rattle.rows.specs.Lines.{text_of}
use Rattle.model.specs.Words.{ascii}
use Rattle.services.specs.Outcomes.{Outcome, writes, passes, tells, refuses}
use Rattle.services.specs.Calls.{plan_outcome}

-- "A program reads a circuit on standard input and prints the schedule, or one line of `refused`, number and place, tab-parted and closed
-- by a line feed."
abbrev pub refused_line : ℕ → ℕ → Bytes
refused_line n p = text_of (said_text (ascii "refused") (pos n ∷ pos p ∷ []) ∷ [])

abbrev pub printed : Outcome → Bytes
printed (writes text) = text
printed passes = []
printed (tells l) = []
printed (refuses n f p) = refused_line n p

abbrev pub program_text : Bytes → Bytes
program_text input = printed (plan_outcome input)

-- what it prints stands at the front of the buffer, and what follows the first 4,400 bytes of the input does not change it
pub record ProgramPromise (input out : Bytes) (count : ℕ) (after : Bytes) : Type 0 where
  pub counted : count ≡ length (program_text input)
  pub printed : after ≡ program_text input ++ drop count out
  pub decided : (more : Bytes) → 4400 ≤ length input → program_text (input ++ more) ≡ program_text input
