-- What the code's parts give: a refusal, and a table counted. No promise of a service rests on this.
use Rattle.std.specs.Prelude.{ℕ, suc, List, ◌≡◌, length}
use Rattle.model.specs.declared.Grammar.TheVariants.{Schedule}
use Rattle.model.specs.declared.Header.{Header}
use Rattle.text.specs.Files.{file_text}
use Rattle.text.specs.Tables.{file_of}
use Rattle.tables.specs.declared.Record.{Record}
use Rattle.tables.specs.Records.{lines_held, held}
use Rattle.prices.specs.Prices.{IsPrice}
use Rattle.quotes.specs.declared.QuoteReply.{QuoteReply}

abbrev pub refusal_reply : ℕ → ℕ → ℕ → QuoteReply
refusal_reply n f p = record { number = n; file = f; place = p; lines = 0; bytes = 0; price = 0 }

-- the schedule that a table holds
pub record CountsTable (h : Header) (records : List Record) (count : ℕ) (r : QuoteReply) : Type 0 where
  pub number_is : r.number ≡ 0
  pub file_is : r.file ≡ 0
  pub place_is : r.place ≡ 0
  pub lines_are : r.lines ≡ suc count
  pub bytes_are : r.bytes ≡ length (file_text Schedule (file_of (held h records count)))
  pub price_is : IsPrice h (lines_held records count) r.price
