-- What the reader's answer says of the text: a table holds the file that was read and is well formed, or the text is refused so. Assumes nothing.
use Prim.Native.Nat.{ℕ, zero, suc, ◌≤◌}
use native.Mathlib.Omega.{arith}
use mathlib.Core.Path.{◌≡◌, refl, sym, ap, ◌∙◌, subst}
use mathlib.Core.List.{List, [], ◌∷◌, map}
use lib.Dec.{T, le→leb}
use lib.ListN.{take, length-map, get_or-map}
use Rattle.fields.specs.Pieces.{Bytes}
use Rattle.rows.specs.Rows.{Reading, read, refused}
use Rattle.rows.proofs.RowLaws as Rows
use Rattle.rows.proofs.RowLaws.{read_is}
use Rattle.model.specs.declared.Grammar.TheVariants.{Circuit, Schedule}
use Rattle.model.specs.declared.Header.{Header}
use Rattle.model.specs.declared.Line.{Line}
use Rattle.model.specs.declared.Line.TheVariants.{Free}
use Rattle.model.specs.Files.{File, well_formed}
use Rattle.text.specs.declared.Context.{Context}
use Rattle.text.specs.Tables.{TableFormed, file_of}
use Rattle.text.specs.Files.{read_text, circuit_context, schedule_context, erase_context}
use Rattle.text.proofs.Theorems as Text
use Rattle.listings.specs.Listings.{Listing, as_lines, read_listing}
use Rattle.listings.specs.Held.{held_lines, held_reading, counted_line, counted_table}
use Rattle.listings.proofs.Texts.{listing_facts}
use Rattle.tables.specs.declared.Record.{Record}
use Rattle.tables.specs.Records.{lines_of, lines_held, held}
use Rattle.std.specs.Prelude.{Result, Ok, Err}
use Rattle.model.specs.declared.Refusal.{Refusal}
use Rattle.model.specs.Refusals.{number_of}
use Rattle.reader.specs.declared.FileTable.{FileTable}
use Rattle.reader.specs.Reads.{reading_of, Filled}

module _ (c : Context) (text : Bytes) (r : Result FileTable Refusal) (records : List Record) (q : reading_of r records ≡ read_text c text) where
  pub read_refused : (x : Refusal) → r ≡ Err x → read_text c text ≡ refused (number_of x.fault) x.place
  read_refused x e = sym q ∙ ap (λ (x : Result FileTable Refusal). reading_of x records) e

  pub read_file_lem : (h : Header) (count : ℕ) → r ≡ Ok (record { header = h; count = count }) → read_text c text ≡ read (file_of (held h records count))
  read_file_lem h count e = sym q ∙ ap (λ (x : Result FileTable Refusal). reading_of x records) e

pub few_read : (limit : ℕ) (r : Result FileTable Refusal) (records : List Record) (h : Header) (count : ℕ) → r ≡ Ok (record { header = h; count = count }) → Filled limit r records → count ≤ limit
few_read limit r records h count e f = f.few (record { header = h; count = count }) e

module _ (text : Bytes) (r : Result FileTable Refusal) (records : List Record) (h : Header) (count : ℕ) (e : r ≡ Ok (record { header = h; count = count })) where
  pub circuit_formed : reading_of r records ≡ read_text circuit_context text → Filled 256 r records → TableFormed Circuit (held h records count)
  circuit_formed q f =
      let few = f.few (record { header = h; count = count }) e in
      (Text.text_and_table).circuits.table_read text (held h records count) (f.free (record { header = h; count = count }) e) (omega arith) (read_file_lem circuit_context text r records q h count e)

  pub schedule_formed : reading_of r records ≡ read_text schedule_context text → Filled 1792 r records → TableFormed Schedule (held h records count)
  schedule_formed q f =
      (Text.text_and_table).schedules.table_read text (held h records count) (f.free (record { header = h; count = count }) e) (f.few (record { header = h; count = count }) e) (read_file_lem schedule_context text r records q h count e)

  pub erasing_formed : reading_of r records ≡ read_text erase_context text → Filled 1792 r records → TableFormed Schedule (held h records count)
  erasing_formed q f =
      (Text.text_and_table).erasing.table_read text (held h records count) (f.free (record { header = h; count = count }) e) (f.few (record { header = h; count = count }) e) (read_file_lem erase_context text r records q h count e)

-- ---- a listing
-- the listing that a table holds
pub record ListingRead (text : Bytes) (h : Header) (records : List Record) (count : ℕ) : Type 0 where
  pub listing : Listing
  pub reads : read_listing text ≡ read listing
  pub header_is_lem : listing.header ≡ h
  pub lines_are_lem : lines_held records count ≡ held_lines h listing.lines

module _ (text : Bytes) (r : Result FileTable Refusal) (records : List Record) (q : reading_of r records ≡ held_reading (read_listing text)) where
  module _ (h : Header) (count : ℕ) (e : r ≡ Ok (record { header = h; count = count })) where
    pub listing_read : ListingRead text h records count
    listing_read = go (read_listing text) refl (sym (ap (λ (x : Result FileTable Refusal). reading_of x records) e) ∙ q)
      where
        go : (k : Reading Listing) → read_listing text ≡ k → read (file_of (held h records count)) ≡ held_reading k → ListingRead text h records count
        go (read l) u v =
            let same = read_is v in
            let header = ap (λ (f : File). f.header) same in
            record {
              listing = l;
              reads = u;
              header_is_lem = sym header;
              lines_are_lem = ap (λ (f : File). f.lines) same ∙ ap (λ (k : Header). held_lines k l.lines) (sym header);
            }
        go (refused n place) u v = Rows.read_refused (file_of (held h records count)) v

    -- with counts that a schedule's lines can have, the table is a schedule's
    pub listing_formed : Filled 1792 r records → TableFormed Schedule (counted_table (held h records count))
    listing_formed f =
        let few = f.few (record { header = h; count = count }) e in
        let free = f.free (record { header = h; count = count }) e in
        record {
          few = le→leb count 1792 few;
          room = length-map (lines_of records) counted_line ∙ free.room;
          lines = subst (λ (l : List Line). T (well_formed Schedule h l)) (sym (counted listing_read)) (formed listing_read);
          rest = λ i t. get_or-map counted_line (lines_of records) i Free ∙ ap counted_line (free.rest i t);
        }
      where
        take_map : (n : ℕ) (xs : List Line) → take n (map counted_line xs) ≡ map counted_line (take n xs)
        take_map zero xs = refl
        take_map (suc n) [] = refl
        take_map (suc n) (x ∷ xs) = ap (λ (l : List Line). counted_line x ∷ l) (take_map n xs)

        counted : (l : ListingRead text h records count) → take count (map counted_line (lines_of records)) ≡ as_lines h l.listing.lines
        counted l =
            take_map count (lines_of records) ∙ ap (map counted_line) l.lines_are_lem
            ∙ subst (λ (k : Header). map counted_line (held_lines k l.listing.lines) ≡ as_lines k l.listing.lines) l.header_is_lem (listing_facts text l.reads).counted

        formed : (l : ListingRead text h records count) → T (well_formed Schedule h (as_lines h l.listing.lines))
        formed l = subst (λ (k : Header). T (well_formed Schedule k (as_lines k l.listing.lines))) l.header_is_lem (listing_facts text l.reads).formed
