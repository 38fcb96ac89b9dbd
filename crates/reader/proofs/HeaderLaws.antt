-- A whole text by its header line: one law for each return of the code, its premises what the callees ensure. Assumes nothing.
use Prim.Native.Nat.{ℕ, suc, ◌+◌, ◌≤◌}
use native.Mathlib.Omega.{arith}
use mathlib.Core.Path.{◌≡◌, refl, sym, ap, ◌∙◌}
use mathlib.Core.Bool.{Bool, true, false, cond}
use mathlib.Core.List.{List, [], ◌∷◌}
use borrow.Author.Rules.{rules}
use lib.Dec.{T}
use lib.ListN.{length, drop}
use Rattle.fields.specs.Pieces.{Bytes}
use Rattle.rows.specs.Lines.{lines_of}
use Rattle.rows.specs.Rows as Rows
use Rattle.rows.specs.Rows.{Judgement, good, bad, read, refused, formed}
use Rattle.rows.proofs.RowLaws.{read_is, formed_good}
use Rattle.model.specs.declared.Header.{Header}
use Rattle.model.specs.Scales.{header_in_range}
use Rattle.text.specs.declared.Context.{Context}
use Rattle.listings.specs.declared.Levels.{Levels}
use Rattle.forms.specs.Along.{line_in, is_closed, after_line}
use Rattle.forms.proofs.TextLaws.{Past, past_line}
use Rattle.std.specs.Prelude.{Result, Ok, Err}
use Rattle.model.specs.declared.Refusal.{Refusal}
use Rattle.model.specs.Refusals.{number_of, told}
use Rattle.reader.specs.declared.FileTable.{FileTable}
use Rattle.headers.specs.Headers.{header_form_of, header_to, header_judged}
use Rattle.reader.specs.Reads.{rest_from, reading_held, read_by, reading_of}
use Rattle.reader.proofs.LineLaws.{header_line, read_by_lem}
use Rattle.reader.proofs.Filling.{filled_refused}
use Rattle.tables.specs.declared.Record.{Record}

-- ---- what an answer says of the header line
record RefusedHeader (n p : ℕ) (j : Judgement Header) : Type 0 where
  judged : j ≡ bad n
  where_it_is : p ≡ 1

refused_header : (end : ℕ) (j : Judgement Header) {n p : ℕ} → refused n p ≡ header_to end j → RefusedHeader n p j
refused_header end (good x) e = absurd (let z : ◌≡◌ {A = ℕ} 0 1 = cc in omega arith)
refused_header end (bad m) e = record { judged = cc; where_it_is = cc }

record TakenHeader (end m : ℕ) (h : Header) (j : Judgement Header) : Type 0 where
  judged : j ≡ good h
  where_it_ends : m ≡ end

taken_header : (end : ℕ) (j : Judgement Header) {h : Header} {m : ℕ} → read (h, m) ≡ header_to end j → TakenHeader end m h j
taken_header end (good y) e =
    record { judged = ap (λ (q : Header × ℕ). good q.0) (sym (read_is e)); where_it_ends = ap (λ (q : Header × ℕ). q.1) (read_is e) }
taken_header end (bad n) e = absurd (let z : ◌≡◌ {A = ℕ} 0 1 = cc in omega arith)

-- a header that is read is in range, and its line closed
record HeaderTaken (t : Bytes) (h : Header) : Type 0 where
  closes : is_closed t ≡ true
  ranged : T (header_in_range h)

header_taken : (levels : Levels) (c : Context) (t : Bytes) {h : Header} → header_judged levels c.grammar t ≡ good h → HeaderTaken t h
unfolding header_judged
header_taken levels c t {h} e = go (is_closed t) refl e
  where
    go : (b : Bool) → is_closed t ≡ b → cond b (formed ((header_form_of levels c.grammar).reads (line_in t)) (λ k. (2, header_in_range k) ∷ [])) (bad 1) ≡ good h → HeaderTaken t h
    go true q v =
        record {
          closes = q;
          ranged = (formed_good (header_form_of levels c.grammar) (λ k. (2, header_in_range k) ∷ []) (line_in t) v).passes.0;
        }
    go false q v = absurd (let z : ◌≡◌ {A = ℕ} 0 1 = cc in omega arith)

module _ (levels : Levels) (c : Context) (t : Bytes) (records : List Record) (got : Result (Header × ℕ) Refusal)
    (said : told got ≡ header_to (length (line_in t) + 1) (header_judged levels c.grammar t)) where
  comes_to : (j : Judgement Header) → header_judged levels c.grammar t ≡ j
      → read_by levels c t ≡ reading_held levels (Rows.at 1 j (λ h. rest_from levels c h [] (lines_of (after_line t))))
  comes_to j e =
      sym (read_by_lem levels c t)
      ∙ ap (reading_held levels) (header_line levels c t ∙ ap (λ (k : Judgement Header). Rows.at 1 k (λ h. rest_from levels c h [] (lines_of (after_line t)))) e)

  pub header_refused : (x : Refusal) → got ≡ Err x → reading_of (Err x) records ≡ read_by levels c t
  header_refused x e =
      let header = refused_header (length (line_in t) + 1) (header_judged levels c.grammar t) (sym (ap told e) ∙ said) in
      sym (comes_to (bad (number_of x.fault)) header.judged ∙ ap (refused (number_of x.fault)) (sym header.where_it_is))

  module _ (h : Header) (end : ℕ) (e : got ≡ Ok (h, end)) where
    header : TakenHeader (length (line_in t) + 1) end h (header_judged levels c.grammar t)
    header = taken_header (length (line_in t) + 1) (header_judged levels c.grammar t) (sym (ap told e) ∙ said)

    past : Past t
    past = past_line t (header_taken levels c t header.judged).closes

    pub header_ranged : T (header_in_range h)
    header_ranged = (header_taken levels c t header.judged).ranged

    pub header_within : end ≤ length t
    header_within = omega (arith, header.where_it_ends, past.within)

    pub lines_read : (r : Result FileTable Refusal) (filled : List Record) → reading_of r filled ≡ reading_held levels (rest_from levels c h [] (lines_of (drop end t)))
        → reading_of r filled ≡ read_by levels c t
    lines_read r filled q =
        let same : suc (length (line_in t)) ≡ end = omega (arith, header.where_it_ends) in
        let there : after_line t ≡ drop end t = past.after ∙ ap (λ (n : ℕ). drop n t) same in
        q ∙ sym (comes_to (good h) header.judged ∙ ap (λ (u : Bytes). reading_held levels (rest_from levels c h [] (lines_of u))) there)

pub ruleset file_laws = (rules, header_refused, header_ranged, header_within, lines_read, filled_refused)
