-- Document 02, Job 2, as a promise about bytes: "Give a converter each way." This one makes a listing of a schedule.
use Rattle.std.specs.Prelude.{ℕ, ◌≤◌, ◌≡◌, ◌↔◌, Bool, true, false, List, [], ◌∷◌, map, T, length}
use Rattle.fields.specs.Pieces.{Bytes}
use Rattle.rows.specs.Rows.{read}
use Rattle.model.specs.declared.Grammar.TheVariants.{Circuit}
use Rattle.model.specs.Files.{File}
use Rattle.model.specs.Rules.{KeepsRules}
use Rattle.model.specs.Broken.{FirstBroken}
use Rattle.model.specs.Services.{erase_file}
use Rattle.text.specs.Files.{read_text, erase_context, file_text}
use Rattle.listings.specs.Listings.{Listed, line, downscale, Listing, turned, read_listing, listing_text}
use Rattle.listings.specs.Rules.{KeepsRisingRules}
use Rattle.services.specs.declared.Reply.{Reply}
use Rattle.services.specs.Outcomes.{Outcome, writes, refuses}
use Rattle.services.specs.Promises.{TheOutcome, Lent, IsInverse, OnceRead, Passed, IsExact}
use Rattle.services.specs.Listings.{FromRisingComesTo, Converts}

-- "In `enc`, level E becomes L − E", and each other line stays: "Going out, nothing is folded into `ds`."
abbrev pub rising_file : File → Listing
rising_file schedule =
    record { header = schedule.header; lines = map (λ x. line (turned schedule.header x)) schedule.lines }

-- "A schedule going out is held to the check's line rules likewise."
pub record GoesOut (schedule : Bytes) (file : File) (written : Bytes) : Type 0 where
  pub keeps : KeepsRules file.header file.lines
  pub text_is : written ≡ listing_text (rising_file file)
  -- what follows: it reads as this listing, keeps the dialect's rules, and becomes the schedule again
  pub reads : read_listing written ≡ read (rising_file file)
  pub keeps_rising : KeepsRisingRules file.header (rising_file file).lines
  pub back : OnceRead (read_listing written) 1 FromRisingComesTo (writes schedule)
  -- and of the schedule: it passes against its erasure, and is exact
  pub passed : Passed (file_text Circuit (erase_file file)) schedule
  pub exact : IsExact passed.files

pub data ToRisingComesTo (schedule : Bytes) (file : File) : Outcome → Type 0 where
  breaks_rule : (number place : ℕ) → FirstBroken file.header file.lines number place
      → ToRisingComesTo schedule file (refuses number 1 place)
  goes_out : (written : Bytes) → GoesOut schedule file written → ToRisingComesTo schedule file (writes written)

-- a schedule that goes out, with a buffer of so many bytes: it reads, keeps the rules, and the buffer holds its listing
pub record Outgoing (schedule : Bytes) (room : ℕ) : Type 0 where
  pub file : File
  pub reads : read_text erase_context schedule ≡ read file
  pub keeps : KeepsRules file.header file.lines
  pub holds : length (listing_text (rising_file file)) ≤ room

-- a listing without `ds`
abbrev pub without_downscale : List Listed → Bool
without_downscale [] = true
without_downscale (line x ∷ xs) = without_downscale xs
without_downscale (downscale a ∷ xs) = false

pub record ToRisingPromise (schedule out : Bytes) (r : Reply) (after : Bytes) : Type 0 where
  -- "Either way a 257th kept line is 3, as in erase"
  pub inverse : IsInverse erase_context schedule
  pub call : TheOutcome (OnceRead (read_text erase_context schedule) 1 (ToRisingComesTo schedule))
  pub replies : Lent call.outcome out r after
  pub goes_out_iff : (r.number ≡ 0) ↔ Outgoing schedule (length out)
  -- "For a converted listing without `ds`, there and back is byte for byte the same": where this schedule was made of one
  pub there_and_back : (text : Bytes) (listing : Listing) → read_listing text ≡ read listing → T (without_downscale listing.lines)
      → Converts listing schedule → call.outcome ≡ writes text
