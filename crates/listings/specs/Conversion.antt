-- Document 02, Job 2: "Give a converter each way." The schedule of a listing that was read.
use Rattle.std.specs.Prelude.{ℕ, suc, ◌+◌, ◌-◌, ◌<◌, ◌≤◌, ◌≡◌, List, [], ◌∷◌, ◌++◌, length, get_or, take}
use Rattle.rows.specs.Rows.{place_of}
use Rattle.model.specs.declared.Header.{Header}
use Rattle.model.specs.declared.Line.{Line}
use Rattle.model.specs.declared.Line.TheVariants.{Rs, Us}
use Rattle.model.specs.declared.Grammar.TheVariants.{Schedule}
use Rattle.model.specs.Files.{File, limit}
use Rattle.model.specs.Services.{renumbered}
use Rattle.listings.specs.Listings.{Listed, line, downscale, Listing, turned}

-- "In `enc`, level E becomes L − E", "A `ds` at scale s becomes `us` by W + F − s and `rs` by 1". names: for each line so far the
-- schedule's line that stands for it, of a `ds` its `rs`; count: the schedule's lines so far. Where the rules are kept s is below W + F.
abbrev pub convert_from : Header → (ℕ → ℕ) → List ℕ → ℕ → List Listed → List Line
convert_from h scale names count [] = []
convert_from h scale names count (line x ∷ xs) =
    renumbered names count (turned h x) ∷ convert_from h scale (names ++ (count ∷ [])) (suc count) xs
convert_from h scale names count (downscale a ∷ xs) =
    Us (get_or names a count) (h.waterline + h.factor - scale a)
    ∷ Rs count 1 ∷ convert_from h scale (names ++ (suc count ∷ [])) (suc (suc count)) xs

-- where the lines have these scales
abbrev pub converted : Header → (ℕ → ℕ) → List Listed → List Line
converted h scale lines = convert_from h scale [] 0 lines

abbrev pub converted_file : (ℕ → ℕ) → Listing → File
converted_file scale listing = record { header = listing.header; lines = converted listing.header scale listing.lines }

-- "too many lines after conversion is 3 at the first line that no longer fits"
pub record TooLong (h : Header) (scale : ℕ → ℕ) (lines : List Listed) (place : ℕ) : Type 0 where
  pub line_number : ℕ
  pub place_is : place ≡ place_of line_number
  pub before : length (converted h scale (take line_number lines)) ≤ limit Schedule
  pub with_it : limit Schedule < length (converted h scale (take (suc line_number) lines))
