-- A listing that is converted, step by step: what each return says, from the tests on the way and what the callees ensure. Assumes nothing.
use Prim.Native.Nat.{ℕ, ◌≤◌}
use native.Mathlib.Omega.{arith}
use mathlib.Core.Path.{◌≡◌, refl, sym, ap, ap₂, ◌∙◌, subst}
use mathlib.Core.List.{List}
use borrow.Author.Rules.{rules}
use lib.ListN.{get_or}
use Rattle.fields.specs.Pieces.{Bytes}
use Rattle.std.specs.Prelude.{IfOk}
use Rattle.model.specs.declared.Fault.{Fault}
use Rattle.model.specs.Refusals.{verdict_answer}
use Rattle.tables.specs.declared.Record.{Record}
use Rattle.tables.specs.declared.files.ListingTable.{ListingTable}
use Rattle.tables.specs.Files.{listing_lines, listing_held}
use Rattle.replies.specs.Told.{reply_to}
use Rattle.model.specs.declared.Grammar.TheVariants.{Schedule}
use Rattle.model.specs.declared.Line.{Line}
use Rattle.model.specs.Files.{File}
use Rattle.text.specs.Files.{file_text}
use Rattle.text.specs.Tables.{file_of}
use Rattle.listings.specs.Listings.{read_listing}
use Rattle.listings.specs.Held.{held_reading, held_answer, found_scales}
use Rattle.tables.specs.Records.{held}
use Rattle.tables.proofs.Records.{still_long}
use Rattle.std.specs.Prelude.{Result, Ok, Err}
use Rattle.model.specs.declared.Refusal.{Refusal}
use Rattle.model.specs.Refusals.{number_of}
use Rattle.reader.specs.Reads.{listing_told}
use Rattle.rules.specs.Scales.{ScalesLeft}
use Rattle.listingtable.specs.Conversion.{HoldsConverted, NoRoom, ConvertedTo}
use Rattle.listingtable.proofs.SameScales.{converted_found}
use Rattle.services.specs.Outcomes.{Outcome, writes, refuses, Replied}
use Rattle.services.specs.Calls.{converted_outcome, ruled_outcome, from_rising_outcome}
use Rattle.services.proofs.Steps.{once_read_lem, once_refused, replied_as, refusal_replied}
use Rattle.services.proofs.Converting.{fits_told, full_told}

-- ---- the schedule
module _
    (t : ListingTable) (scales : List ℕ) (left : ScalesLeft t.header (listing_lines t) scales) (d : Result ℕ Refusal) (records : List Record)
    (to : ConvertedTo t.header (λ a. get_or scales a 0) (listing_lines t) d records) where
  abbrev lines : List Line
  lines = listing_lines t

  abbrev scale : ℕ → ℕ
  scale = found_scales t.header lines

  -- with the scales that the rules found
  found : (x : Result ℕ Refusal) → d ≡ x → ConvertedTo t.header scale lines x records
  found x e =
      subst (λ (y : Result ℕ Refusal). ConvertedTo t.header scale lines y records) e
      (converted_found t.header t.records.now t.count t.formed scales left d records to)

  pub size_few : (n : ℕ) → d ≡ Ok n → n ≤ 1792
  size_few n e = (found (Ok n) e).few

  pub lines_fit : (n : ℕ) → d ≡ Ok n → writes (file_text Schedule (file_of (held t.header records n))) ≡ converted_outcome t.header scale lines
  lines_fit n e =
      let all : HoldsConverted t.header scale lines n records = found (Ok n) e in
      ap (λ (l : List Line). writes (file_text Schedule (record { header = t.header; lines = l }))) all.held
      ∙ fits_told t.header scale lines (omega (arith, all.long, all.few))

  pub lines_full :
      (out : Bytes) (x : Refusal) → d ≡ Err x → Replied (converted_outcome t.header scale lines) out (reply_to (Err (record { file = 1; refusal = x }))) out
  lines_full out x e =
      let none : NoRoom t.header scale lines x = found (Err x) e in
      replied_as
      (ap₂ (λ (f : Fault) (p : ℕ). refuses (number_of f) 1 p) none.fault_is none.place_is
      ∙ full_told t.header scale lines none.line_number none.before none.with_it)
      (refusal_replied (number_of x.fault) 1 x.place out _ refl)

pub ruleset schedule_needs = (rules, still_long, size_few)

pub ruleset schedule_returns = (lines_fit, lines_full)

-- ---- the listing
abbrev ruled_file : File → Outcome
ruled_file f = ruled_outcome f.header f.lines (held_answer f.header f.lines)

module _ (listing : Bytes) (file : Result ListingTable Refusal) (q : listing_told file ≡ held_reading (read_listing listing)) where
  pub unread : (out : Bytes) (x : Refusal) → file ≡ Err x → Replied (from_rising_outcome listing) out (reply_to (Err (record { file = 1; refusal = x }))) out
  unread out x is =
      replied_as (once_refused 1 ruled_file (number_of x.fault) x.place (sym q ∙ ap listing_told is)) (refusal_replied (number_of x.fault) 1 x.place out _ refl)

  module _ (t : ListingTable) (is : file ≡ Ok t) (v : Result Unit Refusal) (told : verdict_answer v ≡ held_answer t.header (listing_lines t)) where
    outcome_is : ruled_outcome t.header (listing_lines t) (verdict_answer v) ≡ from_rising_outcome listing
    outcome_is = ap (ruled_outcome t.header (listing_lines t)) told ∙ once_read_lem 1 ruled_file (file_of (listing_held t)) (sym q ∙ ap listing_told is)

    verdict_is : (x : Result Unit Refusal) → v ≡ x → ruled_outcome t.header (listing_lines t) (verdict_answer x) ≡ from_rising_outcome listing
    verdict_is x e = subst (λ (y : Result Unit Refusal). ruled_outcome t.header (listing_lines t) (verdict_answer y) ≡ from_rising_outcome listing) e outcome_is

    pub broken : (out : Bytes) (x : Refusal) → v ≡ Err x → Replied (from_rising_outcome listing) out (reply_to (Err (record { file = 1; refusal = x }))) out
    broken out x e = replied_as (verdict_is (Err x) e) (refusal_replied (number_of x.fault) 1 x.place out _ refl)

    pub all_kept : (u : Unit {0}) → v ≡ Ok u → converted_outcome t.header (found_scales t.header (listing_lines t)) (listing_lines t) ≡ from_rising_outcome listing
    all_kept u e = verdict_is (Ok u) e

-- what the rules leave behind
module _
    (t : ListingTable) (v : Result Unit Refusal) (scales : List ℕ)
    (leaves : IfOk v (λ u. ScalesLeft t.header (listing_lines t) scales)) (u : Unit {0}) (is : v ≡ Ok u) where
  pub left : ScalesLeft t.header (listing_lines t) scales
  left = subst (λ (x : Result Unit Refusal). IfOk x (λ u. ScalesLeft t.header (listing_lines t) scales)) is leaves

pub ruleset step_needs = (rules, left)

pub ruleset step_returns = (unread, broken, all_kept)
