-- One line of the walk over a circuit.
use Rattle.std.specs.Prelude.{ℕ, ◌+◌, ◌<◌, cond, List, [], ◌∷◌, ◌++◌, ◌≡◌, T, ℤ, pos, length, take, Result, Ok, Err}
use Rattle.std.specs.Int.Signed.{lt_z}
use Rattle.model.specs.declared.Fault.{Fault}
use Rattle.model.specs.declared.Grammar.TheVariants.{Circuit}
use Rattle.model.specs.declared.Header.{Header}
use Rattle.model.specs.Files.{well_formed}
use Rattle.model.specs.Machine.{Step, goes, stops, Run, finished, stopped}
use Rattle.model.specs.Refusals.{number_of}
use Rattle.model.specs.Scales.{headroom}
use Rattle.tables.specs.Bests.{reserves_run}
use Rattle.tables.specs.declared.Record.{Record}
use Rattle.tables.specs.Records.{lines_held}

-- what a line comes to, as a step. "6 too few levels"
abbrev pub step_of : Result ℤ Fault → Step ℤ ℕ
step_of (Ok r) = goes r
step_of (Err f) = stops (number_of f)

-- "The best reserve may come out below zero; then the circuit is refused at that line.", and below H where it is given
abbrev pub unless_too_low : Header → ℤ → Step ℤ ℕ
unless_too_low h r = cond (lt_z r (pos (headroom h))) (stops 6) (goes r)

-- one line more, the i-th
abbrev pub one_more : ℕ → List ℤ → Step ℤ ℕ → Run ℤ ℕ
one_more i held (goes r) = finished (held ++ (r ∷ []))
one_more i held (stops n) = stopped i n

-- The best reserves of the first i lines of a circuit are known, and it has a line more.
pub record KnownTo (h : Header) (records : List Record) (reserves : List ℤ) (i : ℕ) : Type 0 where
  pub some : i < length records
  pub room : i < length reserves
  pub formed : T (well_formed Circuit h (lines_held records (i + 1)))
  pub known : reserves_run h (lines_held records i) ≡ finished (take i reserves)
