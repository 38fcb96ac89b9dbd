-- The worked cases hold: one test computed over the table. Assumes nothing.
use lib.Dec.{T}
use Rattle.fields.specs.Pieces.{split, join, same_bytes}
use Rattle.fields.specs.Numbers.{digits_of, number_of, amount_of, decimal_in}
use Rattle.model.specs.Scales.{headroom}
use Rattle.rows.specs.Fields.{read_fields}
use Rattle.rows.specs.Forms.{named}
use Rattle.rows.specs.Lines.{lines_of, text_of}
use Rattle.rows.specs.Rows.{read_line, rows_from, ended, read_lines, read_file, file_text}
use Rattle.risingwriter.specs.Worked.{all_hold, table}

pub tested : T (all_hold table)
unfolding headroom split join same_bytes digits_of number_of amount_of decimal_in read_fields named lines_of text_of read_line rows_from ended read_lines read_file file_text
tested = tt
