-- Lines written into the records of a schedule.
use Rattle.std.specs.Prelude.{ℕ, ◌+◌, ◌≤◌, List, ◌≡◌, length}
use Rattle.model.specs.declared.Line.{Line}
use Rattle.model.specs.Plan.{Draft, unless_zero}
use Rattle.tables.specs.declared.Record.{Record}
use Rattle.tables.specs.Records.{lines_held}
use Rattle.conversions.specs.declared.Drafted.{Drafted}

-- the schedule so far and the number to name, in these records
abbrev pub draft_of : List Record → Drafted → Draft
draft_of records d = record { lines = lines_held records d.count; number = d.number }

-- line x, unless what it takes is zero
unfoldable pub line_unless_zero : ℕ → Line → Draft → Draft
line_unless_zero n x d = unless_zero (λ number amount. x) n d

-- There is room for so many lines more.
pub record Room (records : List Record) (count more : ℕ) : Type 0 where
  pub long : length records ≡ 1792
  pub below : count + more ≤ 1792

-- A draft is written, and no record past `most`.
pub record Wrote (d : Draft) (most : ℕ) (r : Drafted) (after : List Record) : Type 0 where
  pub same : draft_of after r ≡ d
  pub few : r.count ≤ most
  pub long : length after ≡ 1792
