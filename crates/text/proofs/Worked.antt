-- The worked cases hold: each is computed from the definitions. Assumes nothing.
use mathlib.Core.Path.{refl}
use Rattle.fields.specs.Pieces.{split, join, same_bytes}
use Rattle.fields.specs.Numbers.{digits_of, number_of, amount_of, decimal_in}
use Rattle.rows.specs.Fields.{read_fields}
use Rattle.rows.specs.Forms.{named}
use Rattle.rows.specs.Lines.{lines_of, text_of}
use Rattle.rows.specs.Rows.{read_line, rows_from, ended, read_lines, read_file, file_text}
use Rattle.text.proofs.Statements.WorkedCases.{Statement}

pub worked : Statement
unfolding split join same_bytes digits_of number_of amount_of decimal_in read_fields named lines_of text_of read_line rows_from ended read_lines read_file file_text
worked =
    record {
      bytes_read = refl;
      bytes_refused = refl;
      empty = refl;
      header_alone = refl;
      header_of_schedule = refl;
      header_unclosed = refl;
      header_least = refl;
      header_most = refl;
      factor_zero = refl;
      factor_over = refl;
      waterline_zero = refl;
      waterline_over = refl;
      top_zero = refl;
      top_over = refl;
      header_form_first = refl;
      header_two_numbers = refl;
      headroom_least = refl;
      headroom_most = refl;
      headroom_zero = refl;
      headroom_over = refl;
      headroom_empty = refl;
      headroom_zero_first = refl;
      headroom_form_first = refl;
      headroom_others_ranged = refl;
      headroom_schedule = refl;
      header_five_numbers = refl;
      headroom_written = refl;
      none_written = refl;
      header_then_line = refl;
      unclosed = refl;
      no_word = refl;
      carriage_return = refl;
      empty_line = refl;
      tab_after = refl;
      tab_doubled = refl;
      field_missing = refl;
      field_too_many = refl;
      zero_first = refl;
      plus_first = refl;
      minus_first = refl;
      twelve_digits = refl;
      eleven_digits = refl;
      twelve_with_minus = refl;
      eleven_with_minus = refl;
      minus_before_zero = refl;
      schedule_word = refl;
      constant_seventeen_bits = refl;
      constant_most = refl;
      constant_over = refl;
      constant_eleven_digits = refl;
      constant_twelve_digits = refl;
      turn_most = refl;
      turn_over = refl;
      turn_least = refl;
      turn_below = refl;
      encoded_least = refl;
      encoded_most = refl;
      scale_zero = refl;
      scale_over = refl;
      level_zero = refl;
      level_over = refl;
      rescales_none = refl;
      rescales_most = refl;
      rescales_over = refl;
      modswitches_none = refl;
      modswitches_most = refl;
      modswitches_over = refl;
      bits_none = refl;
      bits_most = refl;
      bits_over = refl;
      form_before_range = refl;
      range_before_operand = refl;
      operand_itself = refl;
      operand_out = refl;
      constant_negated = refl;
      two_constants = refl;
      constant_second = refl;
      operand_before_kind = refl;
      bare_constant = refl;
      ciphertext_encoded = refl;
      first_line_told = refl;
      lines_256 = refl;
      lines_257 = refl;
      lines_1792 = refl;
      lines_1793 = refl;
      erased_1792 = refl;
      erased_1793 = refl;
      kept_257 = refl;
      kept_not_of_form = refl;
      kept_unclosed = refl;
      struck_257 = refl;
      struck_unclosed = refl;
    }
