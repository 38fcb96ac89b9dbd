-- Reading one line more, and what an answer says.
use Rattle.std.specs.Prelude.{Result, Ok, Err, ℕ, ◌+◌, ◌≤◌, Bool, true, cond, ◌&&◌, ◌||◌, List, [], ◌∷◌, map, ◌≡◌, leb}
use Rattle.fields.specs.Pieces.{Bytes}
use Rattle.rows.specs.Lines.{Lines, lines}
use Rattle.rows.specs.Rows.{Judgement, bad, Reading, read, refused, onward, Format, rows_from, ended, read_file}
use Rattle.model.specs.declared.Header.{Header}
use Rattle.model.specs.declared.Refusal.{Refusal}
use Rattle.model.specs.Refusals.{number_of}
use Rattle.model.specs.Scales.{header_in_range}
use Rattle.model.specs.Files.{File}
use Rattle.text.specs.declared.Context.{Context}
use Rattle.text.specs.Tables.{file_of, RestFree}
use Rattle.text.specs.Files.{too_many, read_text}
use Rattle.listings.specs.declared.Levels.{Levels}
use Rattle.listings.specs.declared.Levels.TheVariants.{Falling, Rising}
use Rattle.listings.specs.Listings.{Listed, Listing}
use Rattle.listings.specs.Held.{held_reading}
use Rattle.forms.specs.Along.{line_in}
use Rattle.tables.specs.declared.Record.{Record}
use Rattle.tables.specs.Records.{held}
use Rattle.headers.specs.Headers.{header_form_of}
use Rattle.lines.specs.Lines.{held_as, tested_as, listed_tests, line_form_of, line_judged}
use Rattle.tables.specs.declared.files.CircuitTable.{CircuitTable}
use Rattle.tables.specs.declared.files.ListingTable.{ListingTable}
use Rattle.tables.specs.declared.files.ScheduleTable.{ScheduleTable}
use Rattle.tables.specs.Files.{circuit_held, schedule_held, listing_held}
use Rattle.reader.specs.declared.FileTable.{FileTable}

-- "3 more lines than allowed", after so many lines, so many of them with a circuit's word; `begins` says whether this one's first
-- field is one too
unfoldable pub past_limits : Context → ℕ → ℕ → Bool → Bool
past_limits c count kept begins = leb c.limit count || (leb c.keptlimit kept && begins)

-- how many lines have a circuit's word, with one that has or has not
abbrev pub kept_with : ℕ → Bool → ℕ
kept_with kept has = cond has (kept + 1) kept

-- A file that counts levels so, as a format of rows. Where they rise it is that of a listing; where they fall it has the same lines.
abbrev pub format_of : Levels → Context → Format Header Listed
format_of levels c =
    record {
      header = header_form_of levels c.grammar;
      header_tests = λ h. (2, header_in_range h) ∷ [];
      line = line_form_of levels;
      line_tests = λ h done x. listed_tests levels c.grammar h (map (tested_as levels h) done) x;
      too_many = λ h done p. too_many c (map (tested_as levels h) done) p;
      whole = λ h lines. true;
    }

-- The first line of a text, where there is text, after the lines `done`: 3 before all else
unfoldable pub next_line : Levels → Context → Header → List Listed → Bytes → Judgement Listed
next_line levels c h done t =
    let tested = map (tested_as levels h) done in
    cond (too_many c tested (line_in t)) (bad 3) (line_judged levels c.grammar h tested t)

-- the lines of what is left of a text, after the lines `done`
abbrev pub rest_from : Levels → Context → Header → List Listed → Lines → Reading Listing
rest_from levels c h done (lines ps rest) = onward (rows_from (format_of levels c) h done ps) (λ rows. ended (format_of levels c) h rows rest)

-- what was read as a table holds it
abbrev pub reading_held : Levels → Reading Listing → Reading File
reading_held levels (read l) = read (record { header = l.header; lines = map (held_as levels l.header) l.lines })
reading_held levels (refused n place) = refused n place

-- what a whole text reads to
abbrev pub read_by : Levels → Context → Bytes → Reading File
read_by Falling c text = read_text c text
read_by Rising c text = held_reading (read_file (format_of Rising c) text)

-- what an answer says, with the records that were filled: the file that they hold, or the refusal
abbrev pub reading_of : Result FileTable Refusal → List Record → Reading File
reading_of (Ok t) records = read (file_of (held t.header records t.count))
reading_of (Err r) records = refused (number_of r.fault) r.place

-- the same of a file whose table lends the records
abbrev pub circuit_told : Result CircuitTable Refusal → Reading File
circuit_told (Ok t) = read (file_of (circuit_held t))
circuit_told (Err r) = refused (number_of r.fault) r.place

abbrev pub schedule_told : Result ScheduleTable Refusal → Reading File
schedule_told (Ok t) = read (file_of (schedule_held t))
schedule_told (Err r) = refused (number_of r.fault) r.place

abbrev pub listing_told : Result ListingTable Refusal → Reading File
listing_told (Ok t) = read (file_of (listing_held t))
listing_told (Err r) = refused (number_of r.fault) r.place

-- of a table that was read: no more lines than the limit, and every record past them free
pub record Filled (limit : ℕ) (r : Result FileTable Refusal) (records : List Record) : Type 0 where
  pub few : (t : FileTable) → r ≡ Ok t → t.count ≤ limit
  pub free : (t : FileTable) → r ≡ Ok t → RestFree (held t.header records t.count)
