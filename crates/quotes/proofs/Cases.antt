-- The worked quotes hold: one test computed over the whole table; and what is promised of a reply is what the rows say of it. Assumes nothing.
use Prim.Native.Nat.{ℕ}
use mathlib.Core.Path.{◌≡◌, refl, sym, ap, ◌∙◌}
use mathlib.Core.List.{List}
use lib.Dec.{T}
use lib.ListN.{get_or}
use Rattle.fields.specs.Pieces.{Bytes, split, join, same_bytes}
use Rattle.fields.specs.Numbers.{digits_of, number_of, amount_of, decimal_in}
use Rattle.rows.specs.Fields.{read_fields}
use Rattle.rows.specs.Forms.{named}
use Rattle.rows.specs.Lines.{lines_of, text_of}
use Rattle.rows.specs.Rows.{read_line, rows_from, ended, read_lines, read_file, file_text}
use Rattle.model.specs.declared.Found.{Found}
use Rattle.model.specs.declared.Found.TheVariants as Founds
use Rattle.model.specs.declared.Grammar.TheVariants.{Schedule}
use Rattle.model.specs.declared.Header.{Header}
use Rattle.model.specs.declared.Line.{Line}
use Rattle.model.specs.Scales.{headroom}
use Rattle.model.specs.Files.{well_formed}
use Rattle.model.specs.Machine.{Run}
use Rattle.model.specs.Rules.{KeepsRules}
use Rattle.model.proofs.Checked as Checked
use Rattle.model.proofs.Checked.{scale_in, level_in, checked_rule, checked_bounds, keeps_checked}
use Rattle.model.proofs.Formed.{well_header}
use Rattle.text.specs.Files.{read_text, schedule_context}
use Rattle.text.proofs.FileLaws.{file_read_written}
use Rattle.services.specs.Outcomes.{Outcome}
use Rattle.services.specs.Calls.{plan_outcome}
use Rattle.services.proofs.Planning.{plan_comes_to}
use Rattle.prices.specs.Prices.{price, IsPrice}
use Rattle.prices.specs.Worked.{level_of, level_found, checked_price}
use Rattle.quotes.specs.declared.QuoteReply.{QuoteReply}
use Rattle.quotes.specs.Quotes.{QuoteComesTo, quoted, unplanned, QuotePromise}
use Rattle.quotes.specs.Worked.{priced_as, reply_to, quote_reply, all_hold, table}

pub tested : T (all_hold table)
unfolding headroom split join same_bytes digits_of number_of amount_of decimal_in read_fields named lines_of text_of read_line rows_from ended read_lines read_file file_text
tested = tt

-- ---- the levels that the check finds keep the rules, so the price at those is the price
same_level : (v : Found) → Checked.level_of v ≡ level_of v
same_level Founds.Bare = refl
same_level (Founds.Encoded s l) = refl
same_level (Founds.Ciphertext s l) = refl

checked_price_lem :
    (h : Header) (lines : List Line) (n : ℕ) → T (well_formed Schedule h lines) → KeepsRules h lines → IsPrice h lines n → n ≡ checked_price h lines
checked_price_lem h lines n t keeps p =
    let found = (keeps_checked h lines t keeps).0 in
    let runs = (keeps_checked h lines t keeps).1 in
    let range_held = well_header Schedule h lines t in
    let own : KeepsRules h lines =
    record { scale = scale_in found; level = level_in found; rules = checked_rule h lines range_held runs; bounds = checked_bounds h lines range_held runs } in
    p.price_is own ∙ (λ i. price lines (λ a. same_level (get_or found a Founds.Bare) i)) ∙ ap (λ (r : Run Found ℕ). price lines (level_found r)) (sym runs)

module _ (circuit : Bytes) where
  reply_is : {o : Outcome} {r : QuoteReply} → QuoteComesTo circuit o r → r ≡ reply_to o
  reply_is (unplanned n f p) = refl
  reply_is (quoted w r x) =
      let files = x.plans.passed.files in
      let s = files.schedule_file in
      let formed = (file_read_written schedule_context w files.schedule_reads).formed in
      let costs : r.price ≡ priced_as (read_text schedule_context w) =
      checked_price_lem s.header s.lines r.price formed x.plans.passed.keeps x.price_is ∙ ap priced_as (sym files.schedule_reads) in
      λ i.
      record { number = x.number_is i; file = x.file_is i; place = x.place_is i; lines = x.lines_are i; bytes = x.bytes_are i; price = costs i }

  -- what is promised of a reply is the reply of the rows
  pub quote_worked : (r : QuoteReply) → QuotePromise circuit r → r ≡ quote_reply circuit
  quote_worked r p = reply_is p.quote ∙ ap reply_to (sym (p.call.only (plan_outcome circuit) (plan_comes_to circuit)))
