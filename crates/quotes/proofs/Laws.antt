-- The quote, step by step: what each return says, from the tests on the way and what the callees ensure. Assumes nothing.
use Prim.Native.Nat.{ℕ, suc, ◌≤◌}
use mathlib.Core.Path.{◌≡◌, refl, sym, ap, ◌∙◌, subst}
use mathlib.Core.List.{List, []}
use borrow.Author.Rules.{rules}
use lib.ListN.{length, length-map}
use Rattle.fields.specs.Pieces.{Bytes}
use Rattle.rows.specs.Rows.{read}
use Rattle.model.specs.declared.Grammar.TheVariants.{Schedule}
use Rattle.model.specs.declared.Header.{Header}
use Rattle.model.specs.Files.{File}
use Rattle.model.specs.Services.{scheduled, plan}
use Rattle.model.proofs.Theorems as Model
use Rattle.text.specs.Files.{read_text, circuit_context, file_text}
use Rattle.text.specs.Tables.{file_of}
use Rattle.text.proofs.Tables.{count_length}
use Rattle.text.proofs.FileLaws.{file_read_written}
use Rattle.tables.specs.declared.Record.{Record}
use Rattle.tables.specs.Records.{line_of, held}
use Rattle.tables.proofs.Records.{still_long}
use Rattle.std.specs.Prelude.{Result, Ok, Err, IfOk}
use Rattle.std.proofs.lemmas.Result.{IfOk-at_ok}
use Rattle.model.specs.declared.Refusal.{Refusal}
use Rattle.model.specs.Refusals.{number_of}
use Rattle.tables.specs.declared.files.CircuitTable.{CircuitTable}
use Rattle.tables.specs.Files.{circuit_held}
use Rattle.reader.specs.declared.FileTable.{FileTable}
use Rattle.reader.specs.Reads.{reading_of, circuit_told}
use Rattle.reader.proofs.Answers.{read_refused, read_file_lem}
use Rattle.plantable.specs.Plans.{planned_of}
use Rattle.services.specs.Outcomes.{Outcome, refuses}
use Rattle.services.specs.Calls.{planned, plan_outcome}
use Rattle.services.specs.Promises.{Plans}
use Rattle.services.proofs.Steps.{once_read_lem, once_refused}
use Rattle.services.proofs.Texts.{one_file}
use Rattle.services.proofs.Planning.{plans_text}
use Rattle.prices.specs.Prices.{IsPrice}
use Rattle.prices.specs.Levels.{RuledTable}
use Rattle.quotes.specs.declared.QuoteReply.{QuoteReply}
use Rattle.quotes.specs.Counts.{refusal_reply, CountsTable}
use Rattle.quotes.specs.Quotes.{Quotes, QuoteComesTo, quoted, unplanned, QuotePromise}
use Rattle.quotes.proofs.Counting.{text_feeds}
use Rattle.quotes.proofs.Promise.{quote_promise}

-- where planning is known to come to this
as_planned : (circuit : Bytes) (r : QuoteReply) {o : Outcome} → o ≡ plan_outcome circuit → QuoteComesTo circuit o r → QuotePromise circuit r
as_planned circuit r e c = quote_promise circuit r (subst (λ (o : Outcome). QuoteComesTo circuit o r) e c)

refused_as : (circuit : Bytes) (r : QuoteReply) (n f p : ℕ) → r ≡ refusal_reply n f p → QuoteComesTo circuit (refuses n f p) r
refused_as circuit r n f p e = subst (QuoteComesTo circuit (refuses n f p)) (sym e) (unplanned n f p)

module _
    (circuit : Bytes) (file : Result FileTable Refusal) (records : List Record) (q : reading_of file records ≡ read_text circuit_context circuit) where
  pub quote_unread : (r : QuoteReply) (x : Refusal) → file ≡ Err x → r ≡ refusal_reply (number_of x.fault) 1 x.place → QuotePromise circuit r
  quote_unread r x is e =
      as_planned circuit r (once_refused 1 (λ f. planned (plan f)) (number_of x.fault) x.place (read_refused circuit_context circuit file records q x is)) (refused_as circuit r (number_of x.fault) 1 x.place e)

  module _
      (h : Header) (count : ℕ) (is : file ≡ Ok (record { header = h; count = count })) (w : Result ℕ Refusal) (schedule : List Record)
      (k : planned_of h schedule w ≡ plan (file_of (held h records count))) where
    reads : read_text circuit_context circuit ≡ read (file_of (held h records count))
    reads = read_file_lem circuit_context circuit file records q h count is

    outcome_is : (v : Result ℕ Refusal) → w ≡ v → planned (planned_of h schedule v) ≡ plan_outcome circuit
    outcome_is v e =
        ap planned (ap (planned_of h schedule) (sym e) ∙ k) ∙ once_read_lem 1 (λ f. planned (plan f)) (file_of (held h records count)) reads

    pub quote_too_few : (r : QuoteReply) (x : Refusal) → w ≡ Err x → r ≡ refusal_reply (number_of x.fault) 1 x.place → QuotePromise circuit r
    quote_too_few r x n e = as_planned circuit r (outcome_is (Err x) n) (refused_as circuit r (number_of x.fault) 1 x.place e)

    module _ (size : ℕ) (n : w ≡ Ok size) (room : length schedule ≡ 1792) (few : size ≤ 1792) where
      abbrev written : File
      written = file_of (held h schedule size)

      is_plan : plan (file_of (held h records count)) ≡ scheduled written
      is_plan = sym k ∙ ap (planned_of h schedule) n

      pub ruled : RuledTable h schedule size
      ruled =
          let passed = (Model.the_plan (file_of (held h records count)) (file_read_written circuit_context circuit reads).formed written is_plan).passed in
          record { room = room; few = few; formed = passed.schedule_formed; keeps = passed.keeps }

      -- the file that the plan's text reads to is the table's
      same_file : (p : Plans circuit (file_text Schedule written)) → written ≡ p.passed.files.schedule_file
      same_file p =
          let own = p.is_plan in
          let table : plan p.passed.files.circuit_file ≡ scheduled written = ap plan (one_file p.passed.files.circuit_reads reads) ∙ is_plan in
          cc

      module _ (r : QuoteReply) (c : CountsTable h schedule size r) where
        counted_quote : Quotes circuit (file_text Schedule written) r
        counted_quote =
            let p = plans_text circuit reads is_plan in
            record {
              plans = p;
              number_is = c.number_is;
              file_is = c.file_is;
              place_is = c.place_is;
              lines_are = c.lines_are ∙ ap suc (sym (count_length (held h schedule size) (length-map schedule line_of ∙ room) few)) ∙ sym (text_feeds written);
              bytes_are = c.bytes_are;
              price_is = subst (λ (f : File). IsPrice f.header f.lines r.price) (same_file p) c.price_is;
            }

        pub quote_lines : QuotePromise circuit r
        quote_lines = as_planned circuit r (outcome_is (Ok size) n) (quoted (file_text Schedule written) r counted_quote)

-- ---- the same of a circuit whose table lends the records, as the code has it
module _ (circuit : Bytes) (file : Result CircuitTable Refusal) (q : circuit_told file ≡ read_text circuit_context circuit) where
  pub lent_unread : (r : QuoteReply) (x : Refusal) → file ≡ Err x → r ≡ refusal_reply (number_of x.fault) 1 x.place → QuotePromise circuit r
  lent_unread r x is e = quote_unread circuit (Err x) [] (sym (ap circuit_told is) ∙ q) r x refl e

  module _
      (t : CircuitTable) (is : file ≡ Ok t) (w : Result ℕ Refusal) (schedule : List Record)
      (k : planned_of t.header schedule w ≡ plan (file_of (circuit_held t))) where
    -- the table without what it says of its lines
    abbrev answer : Result FileTable Refusal
    answer = Ok (record { header = t.header; count = t.count })

    answer_reads : reading_of answer t.records.now ≡ read_text circuit_context circuit
    answer_reads = sym (ap circuit_told is) ∙ q

    pub lent_too_few : (r : QuoteReply) (x : Refusal) → w ≡ Err x → r ≡ refusal_reply (number_of x.fault) 1 x.place → QuotePromise circuit r
    lent_too_few = quote_too_few circuit answer t.records.now answer_reads t.header t.count refl w schedule k

    module _ (size : ℕ) (n : w ≡ Ok size) (room : length schedule ≡ 1792) (few : size ≤ 1792) where
      pub lent_ruled : RuledTable t.header schedule size
      lent_ruled = ruled circuit answer t.records.now answer_reads t.header t.count refl w schedule k size n room few

      pub lent_lines : (r : QuoteReply) → CountsTable t.header schedule size r → QuotePromise circuit r
      lent_lines = quote_lines circuit answer t.records.now answer_reads t.header t.count refl w schedule k size n room few

pub lines_few : (w : Result ℕ Refusal) → IfOk w (λ n. n ≤ 1792) → (n : ℕ) → w ≡ Ok n → n ≤ 1792
lines_few w few n e = IfOk-at_ok (λ (k : ℕ). k ≤ 1792) e few

-- what is asked on the way, and what is returned, refused or counted
pub ruleset quote_needs = (rules, still_long, lines_few, lent_ruled)

pub ruleset quote_refusals = (lent_unread, lent_too_few)

pub ruleset quote_counts = (rules, still_long, lines_few, lent_lines)
