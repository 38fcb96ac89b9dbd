-- Document 02, Job 4: "From a circuit, give the planned schedule's line count (header included), byte count and price without writing it."
-- What is promised, on bytes, beside what is promised of planning.
use Rattle.std.specs.Prelude.{ℕ, suc, ◌≤◌, ◌<◌, cond, ◌≡◌, [], ◌∷◌, ◌↔◌, eqb, length, take}
use Rattle.fields.specs.Pieces.{Bytes, line_feed}
use Rattle.rows.specs.Rows.{read}
use Rattle.model.specs.Files.{File}
use Rattle.model.specs.Demands.{Schedulable}
use Rattle.text.specs.Files.{read_text, circuit_context}
use Rattle.services.specs.declared.Reply.{Reply}
use Rattle.services.specs.Outcomes.{Outcome, writes, refuses}
use Rattle.services.specs.Promises.{TheOutcome, IsInverse, OnceRead, Plans, PlanComesTo, PlanPromise}
use Rattle.prices.specs.Prices.{IsPrice}
use Rattle.quotes.specs.declared.QuoteReply.{QuoteReply}

-- "line count (header included)": the line feeds of a text, since "every line closed by a line feed"
abbrev pub line_feeds : Bytes → ℕ
line_feeds [] = 0
line_feeds (b ∷ bs) = cond (eqb b line_feed) (suc (line_feeds bs)) (line_feeds bs)

-- "Each equals what counting over the written one gives.": a reply that quotes this plan
pub record Quotes (circuit written : Bytes) (r : QuoteReply) : Type 0 where
  pub plans : Plans circuit written
  pub number_is : r.number ≡ 0
  pub file_is : r.file ≡ 0
  pub place_is : r.place ≡ 0
  pub lines_are : r.lines ≡ line_feeds written
  pub bytes_are : r.bytes ≡ length written
  pub price_is : IsPrice plans.passed.files.schedule_file.header plans.passed.files.schedule_file.lines r.price

-- The reply where planning comes to this: "(A circuit that can't be planned gets the planner's own.)"
pub data QuoteComesTo (circuit : Bytes) : Outcome → QuoteReply → Type 0 where
  quoted : (written : Bytes) (r : QuoteReply) → Quotes circuit written r → QuoteComesTo circuit (writes written) r
  unplanned : (number file place : ℕ)
      → QuoteComesTo circuit (refuses number file place)
      (record { number = number; file = file; place = place; lines = 0; bytes = 0; price = 0 })

-- a reply of `gowashiru_plan` with so many bytes lent, which are then `after`, beside the quote: a buffer of as many bytes as are quoted is
-- the shortest that is taken, what is written in it is what was quoted, and a refusal is the same
pub record BesidePlan (circuit : Bytes) (quote : QuoteReply) (room : ℕ) (plan : Reply) (after : Bytes) : Type 0 where
  pub long_enough : quote.number ≡ 0 → quote.bytes ≤ room → (plan.number ≡ 0) × (plan.length ≡ quote.bytes)
  pub written : quote.number ≡ 0 → quote.bytes ≤ room → Quotes circuit (take quote.bytes after) quote
  pub too_short : quote.number ≡ 0 → room < quote.bytes → plan.number ≡ 13
  pub own_refusal : (quote.number ≡ 0 → ⊥) → (plan.number ≡ quote.number) × (plan.file ≡ quote.file) × (plan.place ≡ quote.place)

pub record QuotePromise (circuit : Bytes) (r : QuoteReply) : Type 0 where
  pub inverse : IsInverse circuit_context circuit
  -- what planning comes to, whatever buffer is lent
  pub call : TheOutcome (OnceRead (read_text circuit_context circuit) 1 (PlanComesTo circuit))
  pub quote : QuoteComesTo circuit call.outcome r
  pub only : (other : QuoteReply) → QuoteComesTo circuit call.outcome other → other ≡ r
  -- what follows
  pub beside_plan : (out after : Bytes) (plan : Reply) → PlanPromise circuit out plan after → BesidePlan circuit r (length out) plan after
  pub never_too_short : r.number ≡ 13 → ⊥
  pub too_few_iff : (file : File) → read_text circuit_context circuit ≡ read file
      → (r.number ≡ 6) ↔ (Schedulable file.header file.lines → ⊥)
