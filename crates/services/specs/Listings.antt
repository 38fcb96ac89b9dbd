-- Document 02, Job 2, as a promise about bytes: "Give a converter each way." This one makes a schedule of a listing.
use Rattle.std.specs.Prelude.{ℕ, ◌≤◌, ◌≡◌, ◌↔◌, T, length}
use Rattle.fields.specs.Pieces.{Bytes}
use Rattle.rows.specs.Rows.{read}
use Rattle.model.specs.declared.Grammar.TheVariants.{Circuit, Schedule}
use Rattle.model.specs.Files.{well_formed, limit}
use Rattle.model.specs.Services.{erase_file}
use Rattle.text.specs.Files.{read_text, few_enough, erase_context, file_text}
use Rattle.listings.specs.Listings.{Listing, as_lines, read_listing, listing_text}
use Rattle.listings.specs.Rules.{KeepsRisingRules}
use Rattle.listings.specs.Broken.{FirstBrokenRising}
use Rattle.listings.specs.Conversion.{converted, converted_file, TooLong}
use Rattle.services.specs.declared.Reply.{Reply}
use Rattle.services.specs.Outcomes.{Outcome, writes, refuses}
use Rattle.services.specs.Promises.{TheOutcome, Lent, OnceRead, Passed, IsExact}

-- "Text to table and table to text are inverse", of listings
pub record ListingWrittenAs (text : Bytes) (listing : Listing) : Type 0 where
  pub formed : T (well_formed Schedule listing.header (as_lines listing.header listing.lines))
  pub few : T (few_enough erase_context (as_lines listing.header listing.lines))
  pub text_is : listing_text listing ≡ text

abbrev pub IsInverseListing : Bytes → Type 0
IsInverseListing text = (listing : Listing) → (read_listing text ≡ read listing) ↔ ListingWrittenAs text listing

-- "it keeps its own dialect's rules, `ds` being legal where its two lines are, and the conversion fits; it then passes the checker against
-- its own erasure"
pub record Converts (listing : Listing) (written : Bytes) : Type 0 where
  pub keeps : KeepsRisingRules listing.header listing.lines
  pub few : length (converted listing.header keeps.scale listing.lines) ≤ limit Schedule
  pub text_is : written ≡ file_text Schedule (converted_file keeps.scale listing)
  -- what follows: it can be erased, passes against its erasure, and is exact
  pub reads : read_text erase_context written ≡ read (converted_file keeps.scale listing)
  pub passed : Passed (file_text Circuit (erase_file (converted_file keeps.scale listing))) written
  pub exact : IsExact passed.files

-- "A broken rule is refused as in the check, at the listing's line"; "too many lines after conversion is 3 …, after the rules"
pub data FromRisingComesTo (listing : Listing) : Outcome → Type 0 where
  breaks_rule : (number place : ℕ) → FirstBrokenRising listing.header listing.lines number place
      → FromRisingComesTo listing (refuses number 1 place)
  too_long : (keeps : KeepsRisingRules listing.header listing.lines) (place : ℕ)
      → TooLong listing.header keeps.scale listing.lines place → FromRisingComesTo listing (refuses 3 1 place)
  converts : (written : Bytes) → Converts listing written → FromRisingComesTo listing (writes written)

-- a text that is converted, with a buffer of so many bytes: it reads, keeps its rules, its conversion has no more lines than a schedule
-- may have, and the buffer holds it
pub record Convertible (text : Bytes) (room : ℕ) : Type 0 where
  pub listing : Listing
  pub reads : read_listing text ≡ read listing
  pub keeps : KeepsRisingRules listing.header listing.lines
  pub few : length (converted listing.header keeps.scale listing.lines) ≤ limit Schedule
  pub holds : length (file_text Schedule (converted_file keeps.scale listing)) ≤ room

pub record FromRisingPromise (text out : Bytes) (r : Reply) (after : Bytes) : Type 0 where
  pub inverse : IsInverseListing text
  pub call : TheOutcome (OnceRead (read_listing text) 1 FromRisingComesTo)
  pub replies : Lent call.outcome out r after
  -- "A listing is converted exactly when …"
  pub converted_iff : (r.number ≡ 0) ↔ Convertible text (length out)
