-- What a call comes to, as the code has it: the schedule's lines with their levels turned, under the header word `rising`.
use Rattle.std.specs.Prelude.{map}
use Rattle.fields.specs.Pieces.{Bytes}
use Rattle.model.specs.declared.Answer.{Answer}
use Rattle.model.specs.declared.Answer.TheVariants.{Done, Level, Refused}
use Rattle.model.specs.Words.{ascii}
use Rattle.model.specs.Files.{File}
use Rattle.model.specs.Answers.{rules_answer}
use Rattle.text.specs.Files.{read_text, erase_context, text_under}
use Rattle.listings.specs.Listings.{turned}
use Rattle.services.specs.Outcomes.{Outcome, writes, passes, refuses}
use Rattle.services.specs.Calls.{once_read}

abbrev pub turned_file : File → File
turned_file s = record { header = s.header; lines = map (turned s.header) s.lines }

abbrev pub ruled_outcome : File → Answer → Outcome
ruled_outcome s Done = writes (text_under (ascii "rising") (turned_file s))
ruled_outcome s (Level l) = passes
ruled_outcome s (Refused n p) = refuses n 1 p

abbrev pub to_rising_outcome : Bytes → Outcome
to_rising_outcome schedule =
    once_read 1 (read_text erase_context schedule) (λ s. ruled_outcome s (rules_answer s.header s.lines))
