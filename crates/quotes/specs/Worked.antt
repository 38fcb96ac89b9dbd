-- Quotes worked by hand: a circuit, and the six numbers of the reply. The price is taken at the levels that the check finds of the plan's text;
-- that a reply of which the promise holds is this one is proved.
use Rattle.std.specs.Prelude.{ℕ, Bool, true, ◌&&◌, List, [], ◌∷◌, length}
use Prim.Native.String.{String}
use Rattle.fields.specs.Pieces.{Bytes, same_bytes}
use Rattle.rows.specs.Rows.{Reading, read, refused}
use Rattle.model.specs.Files.{File}
use Rattle.text.specs.Files.{read_text, schedule_context}
use Rattle.services.specs.Outcomes.{Outcome, writes, passes, tells, refuses}
use Rattle.services.specs.Calls.{plan_outcome}
use Rattle.services.specs.Worked.{shown, example, fourth, with_lines, inputs257}
use Rattle.prices.specs.Worked.{checked_price}
use Rattle.quotes.specs.declared.QuoteReply.{QuoteReply}
use Rattle.quotes.specs.Quotes.{line_feeds}
use Rattle.quotes.specs.Counts.{refusal_reply}

abbrev pub priced_as : Reading File → ℕ
priced_as (read file) = checked_price file.header file.lines
priced_as (refused n p) = 0

abbrev pub reply_to : Outcome → QuoteReply
reply_to (writes text) =
    record { number = 0; file = 0; place = 0; lines = line_feeds text; bytes = length text; price = priced_as (read_text schedule_context text) }
reply_to passes = refusal_reply 0 0 0
reply_to (tells l) = refusal_reply 0 0 0
reply_to (refuses n f p) = refusal_reply n f p

abbrev pub quote_reply : Bytes → QuoteReply
quote_reply circuit = reply_to (plan_outcome circuit)

-- a circuit, shown with spaces for tabs, and the reply
pub record Row : Type 0 where
  pub input : String
  pub reply : QuoteReply

abbrev pub quotes : String → ℕ → ℕ → ℕ → Row
quotes input lines bytes price = record { input = input; reply = record { number = 0; file = 0; place = 0; lines = lines; bytes = bytes; price = price } }

abbrev pub refused_at : String → ℕ → ℕ → Row
refused_at input number place = record { input = input; reply = refusal_reply number 1 place }

abbrev pub numbers_of : QuoteReply → List ℕ
numbers_of r = r.number ∷ r.file ∷ r.place ∷ r.lines ∷ r.bytes ∷ r.price ∷ []

abbrev pub row_holds : Row → Bool
row_holds r = same_bytes (numbers_of (quote_reply (shown r.input))) (numbers_of r.reply)

abbrev pub all_hold : List Row → Bool
all_hold [] = true
all_hold (r ∷ rs) = row_holds r && all_hold rs

abbrev pub table : List Row
table =
    -- document 01's listing: twice `enc` 2·2, `mul` with a constant 4·2, `us` 4·2 and `rs` 6·2, then `mul` 40·1
    quotes example 13 111 104
    -- a bare header: "schedule 60 20 1" and its line feed; an H adds its tab and its digits
    ∷ quotes "circuit 60 20 1\n" 1 17 0
    ∷ quotes "circuit 60 20 1 5\n" 1 19 0
    -- in / mul 0 0 / rs 1 1 / rs 1 1 / mul 2 3 / rs 4 1 / ms 0 2 / add 5 6 / out 7: `mul` 40·3, `rs` 6·3 twice, `mul` 40·2, `rs` 6·2, `ms` 3 + 2, `add` 1
    ∷ quotes "circuit 60 60 3\nin\nmul 0 0\nmul 1 1\nadd 2 0\nout 3\n" 10 78 254
    -- in / const 7 / enc 1 60 9 / mul 0 2 / rs 3 3 / neg 4: `enc` 2·9, `mul` with a constant 4·9, `rs` 6·(9 + 8 + 7), `neg` 6
    ∷ quotes "circuit 20 60 9\nin\nconst 7\nmul 0 1\nneg 2\n" 7 60 204
    -- in / const 7 / mul 0 0 / rs 2 1 / enc 1 60 2 / mul 3 4 / rs 5 1 / rot 6 0 / enc 1 60 1 / add 8 7: `mul` 40·3, `rs` 6·3, `enc` 2·2, `mul` with a constant
    -- 4·2, `rs` 6·2, `rot` by 0 32·1, `enc` 2·1, `add` with a constant 1
    ∷ quotes "circuit 60 60 3\nin\nconst 7\nmul 0 0\nmul 2 1\nrot 3 0\nadd 1 4\n" 11 96 197
    -- in / mul 0 0 / rs 1 1 / neg 2 / mul 3 3 / rs 4 1 / ms 3 1 / add 5 6: `mul` 40·5, `rs` 6·5, `neg` 4, `mul` 40·4, `rs` 6·4, `ms` 4, `add` 3
    ∷ quotes "circuit 60 60 5\nin\nmul 0 0\nneg 1\nmul 2 2\nadd 3 2\n" 9 71 425
    -- `mul` 40·60, `rs` by 12 6·(60 + 59 + … + 49), `neg` 48
    ∷ quotes "circuit 5 60 60\nin\nmul 0 0\nneg 1\n" 5 42 6372
    -- the constant first: `enc` 2·2, `mul` 4·2; `rot` 32·2; `add` with a constant in either place, `enc` 2·2 and 1·2
    ∷ quotes "circuit 60 20 2\nin\nconst 7\nmul 1 0\n" 5 47 12
    ∷ quotes "circuit 60 20 2\nin\nrot 0 -5\n" 3 29 64
    ∷ quotes "circuit 60 20 2\nin\nrot 0 5\n" 3 28 64
    ∷ quotes "circuit 60 20 2\nin\nconst 7\nadd 0 1\n" 5 47 6
    ∷ quotes "circuit 60 20 2\nin\nconst 7\nadd 1 0\n" 5 47 6
    -- `in`, `const` and `out` cost nothing; a line that no other names costs as any
    ∷ quotes "circuit 60 20 2\nin\nconst 7\nout 0\n" 4 34 0
    ∷ quotes "circuit 60 20 2\nin\nneg 0\nneg 0\nout 1\n" 5 38 4
    -- a constant number of 32 bits; 28 products at level 60, more than 16 bits
    ∷ quotes "circuit 60 20 2\nin\nconst 4294967295\nmul 0 1\n" 5 56 12
    ∷ quotes (with_lines "circuit 60 1 60\nin\n" 28 "mul 0 0\n") 30 244 67200
    -- the best reserve of x² is 20
    ∷ quotes "circuit 60 20 1 20\nin\nmul 0 0\n" 3 31 40
    ∷ refused_at "circuit 60 20 1 21\nin\nmul 0 0\n" 6 3
    -- the planner's own refusals
    ∷ refused_at fourth 6 4
    ∷ refused_at "" 1 1
    ∷ refused_at "circuit 60 20 2\nin\nneg 0" 1 3
    ∷ refused_at "circuit 60 20 2 0\nin\n" 2 1
    ∷ refused_at inputs257 3 258
    ∷ refused_at "circuit 60 20 2\nin\nneg 1\n" 4 3
    ∷ refused_at "circuit 60 20 2\nconst 7\nneg 0\n" 5 3
    ∷ refused_at "circuit 60 20 2\nin\nrot 0 -32768\n" 11 3
    ∷ []
