-- The worked cases hold, one test computed over the table; and tests as facts. Assumes nothing.
use native.Mathlib.Omega.{arith}
use mathlib.Core.Bool.{Bool, true, false, ◌&&◌}
use mathlib.Core.Path.{◌≡◌, refl}
use lib.Dec.{T}
use Rattle.fields.specs.Pieces.{split, join, same_bytes}
use Rattle.fields.specs.Numbers.{digits_of, number_of, amount_of, decimal_in}
use Rattle.rows.specs.Fields.{read_fields}
use Rattle.rows.specs.Forms.{named}
use Rattle.rows.specs.Lines.{lines_of, text_of}
use Rattle.rows.specs.Rows.{read_line, rows_from, ended, read_lines, read_file, file_text}
use Rattle.services.specs.Outcomes.{refuses}
use Rattle.services.specs.Worked.{shown}
use Rattle.liveness.specs.Live.{names, named_later, may_drop, entry_of, one_if, live_after, live_bytes}
use Rattle.liveness.specs.Kept.{peak_of}
use Rattle.dropping.specs.Calls.{drop_answer, count_after, live_after_outcome}
use Rattle.dropping.specs.Worked.{all_hold, two, table}

-- number, file and place where the schedule lacks a line
lacking_told : live_after_outcome (shown two) 2 ≡ refuses 4 0 0
unfolding split join same_bytes digits_of number_of amount_of decimal_in read_fields named lines_of text_of read_line rows_from ended read_lines read_file file_text names named_later may_drop entry_of live_after live_bytes peak_of drop_answer count_after
lacking_told = refl

pub tested : T (all_hold table)
unfolding split join same_bytes digits_of number_of amount_of decimal_in read_fields named lines_of text_of read_line rows_from ended read_lines read_file file_text names named_later may_drop entry_of live_after live_bytes peak_of drop_answer count_after
tested = tt

pub and_false : (b : Bool) → b && false ≡ false
and_false true = refl
and_false false = refl

pub one_is : (b : Bool) → one_if b ≡ 1 → b ≡ true
one_is true e = refl
one_is false e = absurd (omega (arith, e))
