-- A schedule that goes out, step by step: what each return says, from the tests on the way and what the callees ensure. Assumes nothing.
use Prim.Native.Nat.{ℕ}
use mathlib.Core.Path.{◌≡◌, refl, ap, ◌∙◌, subst}
use mathlib.Core.List.{List, map}
use borrow.Author.Rules.{rules}
use Rattle.fields.specs.Pieces.{Bytes}
use Rattle.text.specs.Tables.{Table, table_lines}
use Rattle.model.specs.Refusals.{verdict_answer}
use Rattle.tables.specs.declared.files.ListingTable.{ListingTable}
use Rattle.tables.specs.Files.{listing_lines, listing_held}
use Rattle.replies.specs.Told.{reply_to}
use Rattle.model.specs.declared.Grammar.TheVariants.{Schedule}
use Rattle.model.specs.declared.Header.{Header}
use Rattle.model.specs.declared.Line.{Line}
use Rattle.model.specs.Words.{ascii}
use Rattle.model.specs.Files.{File}
use Rattle.model.specs.Answers.{rules_answer}
use Rattle.text.specs.Files.{read_text, erase_context, text_under}
use Rattle.text.specs.Tables.{TableFormed, file_of}
use Rattle.listings.specs.Listings.{turned}
use Rattle.listings.specs.Held.{held_answer}
use Rattle.tables.specs.declared.Record.{Record}
use Rattle.tables.specs.Records.{lines_held, held}
use Rattle.tables.proofs.Records.{still_long}
use Rattle.std.specs.Prelude.{Result, Ok, Err}
use Rattle.model.specs.declared.Refusal.{Refusal}
use Rattle.model.specs.Refusals.{number_of}
use Rattle.reader.specs.declared.FileTable.{FileTable}
use Rattle.reader.specs.Reads.{reading_of, Filled}
use Rattle.reader.proofs.Answers.{read_refused, read_file_lem, few_read, erasing_formed}
use Rattle.rules.proofs.Counted.{schedule_answer}
use Rattle.services.specs.Outcomes.{Outcome, writes, Replied}
use Rattle.services.proofs.Steps.{once_read_lem, once_refused, replied_as, refusal_replied}
use Rattle.risingwriter.specs.Calls.{ruled_outcome, to_rising_outcome}

abbrev ruled_file : File → Outcome
ruled_file s = ruled_outcome s (rules_answer s.header s.lines)

module _ (schedule : Bytes) (file : Result FileTable Refusal) (records : List Record) (q : reading_of file records ≡ read_text erase_context schedule) where
  pub out_unread : (out : Bytes) (x : Refusal) → file ≡ Err x → Replied (to_rising_outcome schedule) out (reply_to (Err (record { file = 1; refusal = x }))) out
  out_unread out x is =
      replied_as (once_refused 1 ruled_file (number_of x.fault) x.place (read_refused erase_context schedule file records q x is))
      (refusal_replied (number_of x.fault) 1 x.place out _ refl)

  module _ (h : Header) (count : ℕ) (is : file ≡ Ok (record { header = h; count = count })) (full : Filled 1792 file records) where
    pub is_formed : TableFormed Schedule (held h records count)
    is_formed = erasing_formed schedule file records h count is q full

    module _
        (l : ListingTable) (same : listing_held l ≡ held h records count) (v : Result Unit Refusal)
        (told : verdict_answer v ≡ held_answer l.header (listing_lines l)) where
      outcome_is : ruled_outcome (file_of (held h records count)) (verdict_answer v) ≡ to_rising_outcome schedule
      outcome_is =
          ap (ruled_outcome (file_of (held h records count)))
          (told ∙ ap (λ (x : Table). held_answer x.header (table_lines x)) same ∙ schedule_answer h (lines_held records count) is_formed.lines)
          ∙ once_read_lem 1 ruled_file (file_of (held h records count)) (read_file_lem erase_context schedule file records q h count is)

      verdict_is : (x : Result Unit Refusal) → v ≡ x → ruled_outcome (file_of (held h records count)) (verdict_answer x) ≡ to_rising_outcome schedule
      verdict_is x e =
          subst (λ (y : Result Unit Refusal). ruled_outcome (file_of (held h records count)) (verdict_answer y) ≡ to_rising_outcome schedule) e outcome_is

      pub out_refused : (out : Bytes) (x : Refusal) → v ≡ Err x → Replied (to_rising_outcome schedule) out (reply_to (Err (record { file = 1; refusal = x }))) out
      out_refused out x e = replied_as (verdict_is (Err x) e) (refusal_replied (number_of x.fault) 1 x.place out _ refl)

      pub out_text :
          (others : List Record) (u : Unit {0}) → v ≡ Ok u → lines_held others count ≡ map (turned h) (lines_held records count) →
          writes (text_under (ascii "rising") (file_of (held h others count))) ≡ to_rising_outcome schedule
      out_text others u e lines =
          ap (λ (l : List Line). writes (text_under (ascii "rising") (record { header = h; lines = l }))) lines ∙ verdict_is (Ok u) e

pub ruleset step_needs = (rules, still_long, few_read, is_formed)

pub ruleset step_returns = (out_unread, out_refused, out_text)
