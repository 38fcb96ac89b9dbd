-- The price worked by hand: a schedule's header and lines, and its price. The levels are those that the check finds.
use Rattle.std.specs.Prelude.{ℕ, Bool, true, false, ◌&&◌, List, [], ◌∷◌, eqb, pos, get_or, None}
use Rattle.model.specs.declared.Found.{Found}
use Rattle.model.specs.declared.Found.TheVariants as Founds
use Rattle.model.specs.declared.Header.{Header}
use Rattle.model.specs.declared.Line.{Line}
use Rattle.model.specs.declared.Line.TheVariants.{In, Const, Neg, Rot, Add, Mul, Out, Enc, Rs, Ms, Us}
use Rattle.model.specs.Machine.{Run, finished, stopped, run}
use Rattle.model.specs.Answers.{check_machine}
use Rattle.prices.specs.Prices.{price}

abbrev pub level_of : Found → ℕ
level_of Founds.Bare = 0
level_of (Founds.Encoded s l) = l
level_of (Founds.Ciphertext s l) = l

-- the level that the check found of line i
abbrev pub level_found : Run Found ℕ → ℕ → ℕ
level_found (finished found) i = level_of (get_or found i Founds.Bare)
level_found (stopped j n) i = 0

-- the price of lines that the check passes
abbrev pub checked_price : Header → List Line → ℕ
checked_price h lines = price lines (level_found (run (check_machine h) lines))

pub record Row : Type 0 where
  pub top : ℕ
  pub lines : List Line
  pub priced : ℕ

-- F = 60, W = 20 in all rows
abbrev pub header_of : ℕ → Header
header_of top = record { factor = 60; waterline = 20; top = top; headroom = None }

-- the check passes the lines, and this is their price
abbrev pub row_holds : Row → Bool
row_holds r =
    elim (run (check_machine (header_of r.top)) r.lines) [
      | finished found ↦ eqb (checked_price (header_of r.top) r.lines) r.priced
      | stopped i n ↦ false
    ]

abbrev pub all_hold : List Row → Bool
all_hold [] = true
all_hold (r ∷ rs) = row_holds r && all_hold rs

abbrev pub table : List Row
table =
    record { top = 1; lines = []; priced = 0 }
    -- document 01's listing: `enc` 2·2, `mul` with a constant 4·2, both again, `us` 4·2, `rs` 6·2, both again, `mul` 40·1; 104 in all
    ∷ record {
      top = 2;
      lines =
          In ∷ Const 7 ∷ Enc 1 20 2 ∷ Mul 0 2 ∷ Enc 1 20 2 ∷ Mul 3 4 ∷ Us 5 20 ∷ Rs 6 1 ∷ Us 5 20 ∷ Rs 8 1 ∷ Mul 7 9 ∷ Out 10 ∷ [];
      priced = 104;
    }
    -- each word below the top level, some of them by more than one: `rot` 32·4, `ms` 4 and 3 + 2, `enc` 2·1, `add` 1, `mul` with a constant 4·1, `us` 4·4,
    -- `rs` 6·(4 + 3), `neg` 2, `rot` by 0 32·2, `us` 4·2, `mul` 40·2, `enc` 2·2, `mul` with the constant first 4·2, `rs` 6·2, `add` 1; 381 in all
    ∷ record {
      top = 4;
      lines =
          In ∷ Rot 0 (pos 5) ∷ Ms 1 1 ∷ Ms 2 2 ∷ Const 7 ∷ Enc 4 20 1 ∷ Add 5 3 ∷ Mul 6 5 ∷ Us 0 120 ∷ Rs 8 2 ∷ Neg 9 ∷ Rot 10 (pos 0) ∷ Us 11 20 ∷ Mul 12 12
          ∷ Enc 4 30 2 ∷ Mul 14 11 ∷ Rs 13 1 ∷ Add 16 16 ∷ Out 17 ∷ [];
      priced = 381;
    }
    ∷ []
