-- Tables of records, which code and proofs use: no promise of a service rests on them.
use Rattle.std.specs.Prelude.{ℕ, ◌-◌, List, ◌++◌, ◌≡◌, T, leb, length, get_or, take, replicate}
use Rattle.model.specs.declared.Grammar.{Grammar}
use Rattle.model.specs.declared.Header.{Header}
use Rattle.model.specs.declared.Line.{Line}
use Rattle.model.specs.declared.Line.TheVariants.{Free}
use Rattle.model.specs.Files.{File, limit, well_formed}

-- "a table of 1,792 line records": a file that was read, with its lines in the first `count` records. A record that is free holds the line
-- Free.
pub record Table : Type 0 where
  pub header : Header
  pub lines : List Line
  pub count : ℕ

abbrev pub table_lines : Table → List Line
table_lines t = take t.count t.lines

-- the file that a table holds
abbrev pub file_of : Table → File
file_of t = record { header = t.header; lines = table_lines t }

-- "a table of 1,792 line records, all free", with the file's lines in the first
abbrev pub table_of : File → Table
table_of f =
    record { header = f.header; lines = f.lines ++ replicate (1792 - length f.lines) Free; count = length f.lines }

-- a table of 1,792 records, of which those at and past the count are free
pub record RestFree (t : Table) : Type 0 where
  pub room : length t.lines ≡ 1792
  pub rest : (i : ℕ) → T (leb t.count i) → get_or t.lines i Free ≡ Free

-- A table that holds a file of the grammar: no more lines than allowed, all else free.
pub record TableFormed (g : Grammar) (t : Table) : Type 0 where
  pub few : T (leb t.count (limit g))
  pub room : length t.lines ≡ 1792
  pub lines : T (well_formed g t.header (table_lines t))
  pub rest : (i : ℕ) → T (leb t.count i) → get_or t.lines i Free ≡ Free
