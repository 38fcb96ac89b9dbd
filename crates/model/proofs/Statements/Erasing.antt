-- "Erasing keeps the lines with circuit words": what a well-formed schedule erases to is a well-formed circuit, whether or not the rules hold.
-- Its lines are the kept ones in order, and "an operand on a struck line becomes the kept line that it was made from, and values are counted anew".
use Prim.Native.Nat.{ℕ, suc, ◌<◌}
use mathlib.Core.Path.{◌≡◌}
use mathlib.Core.List.{List, [], ◌∷◌, ◌++◌}
use mathlib.Core.Option.{some}
use lib.Dec.{T}
use lib.ListN.{length, get_or, get_elem?}
use Rattle.model.specs.declared.Header.{Header}
use Rattle.model.specs.declared.Line.{Line}
use Rattle.model.specs.declared.Line.TheVariants.{Free}
use Rattle.model.specs.declared.Grammar.TheVariants.{Circuit, Schedule}
use Rattle.model.specs.Files.{well_formed}
use Rattle.model.specs.Services.{kept, made_from, fate_of, renamed, erase, kept_lines}

-- for each line the kept line that it is or was made from
abbrev pub origins_from : List ℕ → ℕ → List Line → List ℕ
origins_from origins count [] = origins
origins_from origins count (x ∷ xs) =
    elim (fate_of x) [
      | kept ↦ origins_from (origins ++ (count ∷ [])) (suc count) xs
      | made_from a ↦ origins_from (origins ++ (get_or origins a count ∷ [])) count xs
    ]

abbrev pub origins : List Line → List ℕ
origins schedule = origins_from [] 0 schedule

-- line j of the circuit is the j-th kept line, with each operand replaced by the kept line that it is or was made from
pub record IsKeptLine (schedule : List Line) (j : ℕ) : Type 0 where
  pub line : ℕ
  pub there : get_elem? (kept_lines schedule) j ≡ some line
  pub below : line < length schedule
  pub stays : fate_of (get_or schedule line Free) ≡ kept
  pub origin : get_elem? (origins schedule) line ≡ some j
  pub written : get_elem? (erase schedule) j ≡ some (renamed (λ a. get_or (origins schedule) a 0) (get_or schedule line Free))

-- the circuit has as many lines as are kept, and each line of the schedule comes from one
pub record AllKept (schedule : List Line) : Type 0 where
  pub kept_are : length (kept_lines schedule) ≡ length (erase schedule)
  pub traced : length (origins schedule) ≡ length schedule

pub record IsRight (h : Header) (schedule : List Line) : Type 0 where
  pub formed : T (well_formed Circuit h (erase schedule))
  pub lines : (j : ℕ) → j < length (erase schedule) → IsKeptLine schedule j
  -- a struck line comes from where its operand comes from
  pub made_from_lem : (i a : ℕ) → i < length schedule → fate_of (get_or schedule i Free) ≡ made_from a → get_elem? (origins schedule) i ≡ get_elem? (origins schedule) a
  pub all_kept : AllKept schedule

abbrev pub Statement : Type 0
Statement = (h : Header) (schedule : List Line) → T (well_formed Schedule h schedule) → IsRight h schedule
