-- The worked cases hold: one test computed over the whole table, and one law that turns it into the equation at each row. Assumes nothing.
use Prim.Native.Nat.{ℕ, zero, suc, ◌<◌}
use native.Mathlib.Nat.{not-suc-le-zero, le_of_suc-le-suc}
use mathlib.Core.Path.{◌≡◌, refl, sym, ap, ◌∙◌}
use mathlib.Core.List.{List, [], ◌∷◌}
use lib.Dec.{T}
use lib.ListN.{length, get_or, drop}
use Rattle.fields.specs.Pieces.{split, join, same_bytes}
use Rattle.fields.specs.Numbers.{digits_of, number_of, amount_of, decimal_in}
use Rattle.model.specs.Scales.{headroom}
use Rattle.model.proofs.Tests.{and_first, and_second}
use Rattle.fields.proofs.PieceLaws.{same_bytes_lem}
use Rattle.rows.specs.Fields.{read_fields}
use Rattle.rows.specs.Forms.{named}
use Rattle.rows.specs.Lines.{lines_of, text_of}
use Rattle.rows.specs.Rows.{read_line, rows_from, ended, read_lines, read_file, file_text}
use Rattle.services.specs.Outcomes.{Outcome, writes, passes, tells, refuses}
use Rattle.services.specs.Calls.{converted_outcome}
use Rattle.services.specs.WorkedListings.{listing_rows, full_places, all_alike}
use Rattle.services.specs.WorkedHeadroom.{headroom_rows}
use Rattle.services.specs.WorkedReserves.{reserve_rows}
use Rattle.services.specs.Worked.{Finding, call_comes_to, gives, prints, scale_and_level, unscaled, leaves, Row, shown, finding_of, finding_code, row_holds, all_hold, table, no_row}

pub tested : T (all_hold table)
unfolding headroom split join same_bytes digits_of number_of amount_of decimal_in read_fields named lines_of text_of read_line rows_from ended read_lines read_file file_text
tested = tt

pub listings_tested : T (all_hold listing_rows)
unfolding converted_outcome headroom split join same_bytes digits_of number_of amount_of decimal_in read_fields named lines_of text_of read_line rows_from ended read_lines read_file file_text
listings_tested = tt

pub headroom_tested : T (all_hold headroom_rows)
unfolding converted_outcome headroom split join same_bytes digits_of number_of amount_of decimal_in read_fields named lines_of text_of read_line rows_from ended read_lines read_file file_text
headroom_tested = tt

pub reserves_tested : T (all_hold reserve_rows)
unfolding headroom split join same_bytes digits_of number_of amount_of decimal_in read_fields named lines_of text_of read_line rows_from ended read_lines read_file file_text
reserves_tested = tt

pub places_tested : T (all_alike full_places)
places_tested = tt

-- ---- a finding is known by its code
outcome_from : List ℕ → Outcome
outcome_from code =
    get_or (writes (drop 1 code) ∷ passes ∷ tells (get_or code 1 0) ∷ refuses (get_or code 1 0) (get_or code 2 0) (get_or code 3 0) ∷ []) (get_or code 0 0) passes

finding_from : List ℕ → Finding
finding_from code =
    get_or
    (call_comes_to (outcome_from code) ∷ call_comes_to (outcome_from code) ∷ call_comes_to (outcome_from code) ∷ call_comes_to (outcome_from code)
    ∷ prints (drop 1 code) ∷ scale_and_level (get_or code 1 0) (get_or code 2 0) ∷ unscaled
    ∷ gives (get_or code 1 0) (get_or code 2 0) (get_or code 3 0) (get_or code 4 0) ∷ leaves (drop 1 code) ∷ [])
    (get_or code 0 0) unscaled

finding_back : (f : Finding) → finding_from (finding_code f) ≡ f
unfolding finding_from outcome_from
finding_back (call_comes_to (writes text)) = refl
finding_back (call_comes_to passes) = refl
finding_back (call_comes_to (tells l)) = refl
finding_back (call_comes_to (refuses n f p)) = refl
finding_back (prints text) = refl
finding_back (scale_and_level s l) = refl
finding_back unscaled = refl
finding_back (gives n f p l) = refl
finding_back (leaves bits) = refl

holds : (r : Row) → T (row_holds r) → finding_of r.question (shown r.input) ≡ r.finding
holds r t =
    sym (finding_back (finding_of r.question (shown r.input)))
    ∙ ap finding_from (same_bytes_lem (finding_code (finding_of r.question (shown r.input))) (finding_code r.finding) t) ∙ finding_back r.finding

each : (rows : List Row) → T (all_hold rows) → (k : ℕ) → k < length rows → T (row_holds (get_or rows k no_row))
each [] t k h = absurd (not-suc-le-zero h)
each (r ∷ rows) t zero h = and_first (row_holds r) (all_hold rows) t
each (r ∷ rows) t (suc k) h = each rows (and_second (row_holds r) (all_hold rows) t) k (le_of_suc-le-suc h)

pub worked : (k : ℕ) → k < length table → finding_of (get_or table k no_row).question (shown (get_or table k no_row).input) ≡ (get_or table k no_row).finding
worked k h = holds (get_or table k no_row) (each table tested k h)
