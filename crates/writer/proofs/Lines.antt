-- A file's text: the header line, and one line after another. Assumes nothing.
use Prim.Native.Nat.{ℕ, ◌+◌, ◌≤◌, ◌<◌}
use mathlib.Core.List.{List, [], ◌∷◌, ◌++◌, map, append_assoc}
use mathlib.Core.Path.{◌≡◌, refl, sym, ap, ◌∙◌}
use native.Mathlib.Nat.{zero-add}
use native.Mathlib.Numerals.{add-one}
use native.Mathlib.Omega.{arith}
use lib.ListN.{length, get_or, take, drop, length-map, take-append-drop}
use lib.Seq.{take-suc, take-take}
use Rattle.std.proofs.lemmas.List.{append-nil}
use Rattle.fields.specs.Pieces.{Bytes, line_feed}
use Rattle.model.specs.declared.Line.{Line}
use Rattle.model.specs.declared.Header.{Header}
use Rattle.model.specs.declared.Line.TheVariants.{Free}
use Rattle.rows.specs.Lines.{text_of}
use Rattle.rows.specs.Rows as Rows
use Rattle.text.specs.Files.{header_under, line_form, text_under}
use Rattle.text.specs.Tables.{file_of}
use Rattle.tables.specs.declared.Record.{Record}
use Rattle.tables.specs.Records.{line_of, lines_of, held}
use Rattle.spelling.specs.declared.sinks.Buffer.{Buffer}
use Rattle.spelling.specs.Sinks.{Filled}
use Rattle.writer.specs.Writing.{Written}

-- ---- the first i lines of the records
abbrev line_at : List Record → ℕ → Line
line_at records i = get_or (lines_of records) i Free

abbrev pub line_text : Line → Bytes
line_text x = text_of (line_form.text x ∷ [])

abbrev pub lines_text : List Line → Bytes
lines_text xs = text_of (map line_form.text xs)

abbrev pub text_to : List Record → ℕ → Bytes
text_to records i = lines_text (take i (lines_of records))

no_text : lines_text [] ≡ []
unfolding text_of
no_text = refl

both_texts : (xs ys : List Line) → lines_text (xs ++ ys) ≡ lines_text xs ++ lines_text ys
unfolding text_of
both_texts [] ys = refl
both_texts (x ∷ xs) ys = rw (both_texts xs ys, append_assoc)

one_line_more :
    (records : List Record) (i : ℕ) → i < length records → text_to records (i + 1) ≡ text_to records i ++ line_text (line_at records i)
one_line_more records i h =
    rw (add-one i, take-suc (lines_of records) i Free (omega (arith, length-map records line_of)))
    (both_texts (take i (lines_of records)) (line_at records i ∷ []))

-- the first n lines after the first i
abbrev pub text_between : List Record → ℕ → ℕ → Bytes
text_between records i n = lines_text (drop i (take n (lines_of records)))

split_text : (records : List Record) (i n : ℕ) → i ≤ n → text_to records n ≡ text_to records i ++ text_between records i n
split_text records i n h =
    let parts : take n (lines_of records) ≡ take i (lines_of records) ++ drop i (take n (lines_of records)) =
    sym (take-append-drop i (take n (lines_of records))) ∙ rw (take-take i n (lines_of records) h) in
    ap lines_text parts ∙ both_texts (take i (lines_of records)) (drop i (take n (lines_of records)))

-- ---- a whole file
abbrev pub header_text : Bytes → Header → Bytes
header_text word h = text_of ((header_under word).text h ∷ [])

module _ (word : Bytes) (h : Header) (records : List Record) where
  -- the header line and the first i lines
  abbrev pub front_text : ℕ → Bytes
  front_text i = header_text word h ++ text_to records i

  pub whole_text : (count : ℕ) → text_under word (file_of (held h records count)) ≡ front_text count
  unfolding Rows.file_text text_of
  whole_text count = sym (append_assoc ((header_under word).text h) (line_feed ∷ []) (text_to records count))

  pub front_none : front_text 0 ≡ header_text word h
  front_none = rw no_text (append-nil (header_text word h))

  module _ (i : ℕ) (x : Line) (here : x ≡ line_at records i) where
    pub front_more : i < length records → front_text (i + 1) ≡ front_text i ++ line_text x
    front_more l = rw (one_line_more records i l, here) (sym (append_assoc (header_text word h) (text_to records i) (line_text (line_at records i))))

    pub whole_next :
        (count : ℕ) → i < count → count ≤ length records →
        text_under word (file_of (held h records count)) ≡ front_text i ++ (line_text x ++ text_between records (i + 1) count)
    whole_next count l k =
        whole_text count ∙ rw (split_text records (i + 1) count (omega arith), ← append_assoc (header_text word h) (text_to records (i + 1)) (text_between records (i + 1) count))
        (rw (front_more (omega arith)) (append_assoc (front_text i) (line_text x) (text_between records (i + 1) count)))

-- ---- at the front of a buffer
pub filled_written : (b c : Buffer) (x : Bytes) → b.at ≡ 0 → Filled b x c → Written b.bytes.now x c.at c.bytes.now
filled_written b c x e f =
    record {
      counted = omega (arith, f.place);
      bytes = sym (take-append-drop c.at c.bytes.now) ∙ rw (f.front, f.rest, f.place, e, zero-add (length x));
    }
