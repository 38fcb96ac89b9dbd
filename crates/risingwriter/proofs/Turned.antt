-- A schedule that goes out is read back as a listing and becomes itself again, and a listing without `ds` becomes a schedule that goes out as the
-- listing. Assumes nothing.
use Prim.Native.Nat.{ℕ, suc, ◌<◌}
use native.Mathlib.Nat.{not-suc-le-zero}
use native.Mathlib.Omega.{arith}
use mathlib.Core.Path.{◌≡◌, refl, sym, ap, ◌∙◌, subst}
use mathlib.Core.Logic.{inl, inr}
use mathlib.Core.List.{List, [], ◌∷◌, ◌++◌, map, map-map}
use lib.Dec.{T}
use lib.IntN.{ℤ, pos}
use lib.ListN.{length, get_or, get_or-append}
use lib.Seq.{get_or_at}
use Rattle.fields.specs.Pieces.{Bytes}
use Rattle.rows.specs.Fields.{Holds, operand, ranged, up_to_top, amount}
use Rattle.rows.specs.Lines.{text_of}
use Rattle.rows.specs.Rows as Rows
use Rattle.rows.specs.Rows.{read}
use Rattle.rows.proofs.FieldLaws.{Held, number, Fields, no_field, field}
use Rattle.model.specs.declared.Grammar.TheVariants.{Schedule}
use Rattle.model.specs.declared.Header.{Header}
use Rattle.model.specs.declared.Line.{Line}
use Rattle.model.specs.Words.{operands_among, renumber}
use Rattle.model.specs.Files.{File, line_of, word_of, operands, is_usable, kind_at, every_usable, line_formed, lines_formed, well_formed}
use Rattle.model.specs.Services.{renamed}
use Rattle.model.proofs.Tests.{and_first, and_second, below_or_not}
use Rattle.model.proofs.EveryWord.{line_said}
use Rattle.model.proofs.Lists.{nil, cons, length_snoc}
use Rattle.model.proofs.Formed.{line_facts, usable_below, well_lines}
use Rattle.text.specs.Files.{line_form, few_enough, erase_context}
use Rattle.text.proofs.WordLaws.{said_held}
use Rattle.listings.specs.Listings.{Listed, line, downscale, Listing, rising_form, listed_form, turned, as_lines, read_listing, listing_text}
use Rattle.listings.specs.Conversion.{convert_from, converted, converted_file}
use Rattle.listings.proofs.Turning.{turned_twice, turned_back, ListedInRange}
use Rattle.listings.proofs.Texts.{ListingFacts, listing_written_read}
use Rattle.listings.proofs.Converting.{lines_in_range}
use Rattle.risingwriter.specs.GoingOut.{rising_file, without_downscale}
use Rattle.risingwriter.specs.Calls.{turned_file}

-- ---- lines that name the values that they name already
-- names: each line so far stands for itself
record Own (names : List ℕ) (count : ℕ) : Type 0 where
  long : length names ≡ count
  own : (a d : ℕ) → a < count → get_or names a d ≡ a

own_next : (names : List ℕ) (count : ℕ) → Own names count → Own (names ++ (count ∷ [])) (suc count)
own_next names count o =
    record {
      long = length_snoc names count ∙ ap suc o.long;
      own = λ a d low. elim (below_or_not a count) [
        | inl p ↦ get_or-append names (count ∷ []) d a (let e = o.long in omega arith) ∙ o.own a d p
        | inr p ↦ let same : a ≡ count = omega arith in get_or_at names count [] d a (o.long ∙ sym same) ∙ sym same
      ];
    }

module _ (name : ℕ → ℕ) (before : List Line) (own : (a : ℕ) → a < length before → name a ≡ a) where
  renumber_own : {fs : List Holds} {ns : List ℤ} → Fields Held fs ns → T (every_usable before (operands_among fs ns)) → renumber name fs ns ≡ ns
  renumber_own no_field u = refl
  renumber_own (field {f = operand} {fs = fs} {ns = ns} (number a) hs) u =
      let usable = is_usable (kind_at before a) in
      let rest = every_usable before (operands_among fs ns) in
      let first = own a (usable_below before a (and_first usable rest u)) in
      λ i. pos (first i) ∷ renumber_own hs (and_second usable rest u) i
  renumber_own (field {f = ranged low high} {n = n} k hs) u = ap (λ (l : List ℤ). n ∷ l) (renumber_own hs u)
  renumber_own (field {f = up_to_top} {n = n} k hs) u = ap (λ (l : List ℤ). n ∷ l) (renumber_own hs u)
  renumber_own (field {f = amount high} {n = n} k hs) u = ap (λ (l : List ℤ). n ∷ l) (renumber_own hs u)

  renamed_own : (x : Line) → T (every_usable before (operands x)) → renamed name x ≡ x
  renamed_own x u = ap (line_of (word_of x)) (renumber_own (said_held x) u) ∙ line_said x

-- ---- a listing without `ds`
module _ (h : Header) where
  without_from : (scale : ℕ → ℕ) (names : List ℕ) (before : List Line) (xs : List Listed) → Own names (length before) → T (without_downscale xs)
      → T (lines_formed Schedule h before (as_lines h xs)) → convert_from h scale names (length before) xs ≡ as_lines h xs
  without_from scale names before [] o w t = refl
  without_from scale names before (line x ∷ xs) o w t =
      let y = turned h x in
      let count = length before in
      let first = line_formed Schedule h before y in
      let rest = lines_formed Schedule h (before ++ (y ∷ [])) (as_lines h xs) in
      let longer : length (before ++ (y ∷ [])) ≡ suc count = length_snoc before y in
      let here = renamed_own (λ a. get_or names a count) before (λ a p. o.own a count p) y (line_facts Schedule h before y (and_first first rest t)).usable in
      let next = subst (Own (names ++ (count ∷ []))) (sym longer) (own_next names count o) in
      let more = without_from scale (names ++ (count ∷ [])) (before ++ (y ∷ [])) xs next w (and_second first rest t) in
      λ i. here i ∷ (ap (λ (n : ℕ). convert_from h scale (names ++ (count ∷ [])) n xs) (sym longer) ∙ more) i
  without_from scale names before (downscale a ∷ xs) o w t = absurd w

  -- its lines turned twice
  without_back : {xs : List Listed} → T (without_downscale xs) → ListedInRange h xs → map (λ x. line (turned h x)) (as_lines h xs) ≡ xs
  without_back w nil = refl
  without_back w (cons {x = line x} t more) = λ i. line (turned_back h x t i) ∷ without_back w more i
  without_back w (cons {x = downscale a} t more) = absurd w

  -- what goes out has no `ds`, and is as a schedule's lines what it was
  rising_without : (xs : List Line) → T (without_downscale (map (λ x. line (turned h x)) xs))
  rising_without [] = tt
  rising_without (x ∷ xs) = rising_without xs

  rising_as : (before xs : List Line) → T (lines_formed Schedule h before xs) → as_lines h (map (λ x. line (turned h x)) xs) ≡ xs
  rising_as before [] t = refl
  rising_as before (x ∷ xs) t =
      let first = line_formed Schedule h before x in
      let rest = lines_formed Schedule h (before ++ (x ∷ [])) xs in
      let here = turned_twice h x (line_facts Schedule h before x (and_first first rest t)).range in
      λ i. here i ∷ rising_as (before ++ (x ∷ [])) xs (and_second first rest t) i

none_own : Own [] 0
none_own = record { long = refl; own = λ a d low. absurd (not-suc-le-zero low) }

-- ---- there and back
module _ (l : Listing) (facts : ListingFacts l) (without : T (without_downscale l.lines)) (scale : ℕ → ℕ) where
  -- one line for each, so that what holds of the listing's lines as a schedule's holds
  pub without_converted : converted l.header scale l.lines ≡ as_lines l.header l.lines
  without_converted =
      let formed = well_lines Schedule l.header (as_lines l.header l.lines) facts.formed in
      without_from l.header scale [] [] l.lines none_own without formed

  pub there_and_back : rising_file (converted_file scale l) ≡ l
  there_and_back =
      let h = l.header in
      let lines = ap (map (λ x. line (turned h x))) without_converted ∙ without_back h without (lines_in_range l facts) in
      λ i. record { header = h; lines = lines i }

-- ---- a schedule that goes out
module _ (s : File) (formed : T (well_formed Schedule s.header s.lines)) where
  pub going_out_as : as_lines s.header (rising_file s).lines ≡ s.lines
  going_out_as = rising_as s.header [] s.lines (well_lines Schedule s.header s.lines formed)

  pub going_out_formed : T (well_formed Schedule s.header (as_lines s.header (rising_file s).lines))
  going_out_formed = subst (λ (xs : List Line). T (well_formed Schedule s.header xs)) (sym going_out_as) formed

  pub going_out_back : (scale : ℕ → ℕ) → converted s.header scale (rising_file s).lines ≡ s.lines
  going_out_back scale =
      let h = s.header in
      let lines = well_lines Schedule h (as_lines h (rising_file s).lines) going_out_formed in
      without_from h scale [] [] (rising_file s).lines none_own (rising_without h s.lines) lines ∙ going_out_as

  pub going_out_reads : T (few_enough erase_context s.lines) → read_listing (listing_text (rising_file s)) ≡ read (rising_file s)
  going_out_reads few =
      listing_written_read (rising_file s) going_out_formed (subst (λ (xs : List Line). T (few_enough erase_context xs)) (sym going_out_as) few)

-- its text is that of a schedule's lines
pub going_out_text : (s : File) → listing_text (rising_file s) ≡ Rows.file_text rising_form line_form (turned_file s)
unfolding Rows.file_text
going_out_text s =
    let h = s.header in
    let texts = map-map listed_form.text (λ (x : Line). line (turned h x)) s.lines ∙ sym (map-map line_form.text (turned h) s.lines) in
    ap (λ (ps : List Bytes). text_of (rising_form.text h ∷ ps)) texts
