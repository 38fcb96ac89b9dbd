-- The theorems, each at its statement. Assumes nothing.
use Prim.Native.Nat.{◌≤◌}
use Prim.{Unit}
use native.Mathlib.Omega.{arith}
use mathlib.Core.Path.{◌≡◌, refl, sym, ap, ◌∙◌}
use lib.Dec.{T, leb, leb→le, le→leb}
use lib.ListN.{length}
use Rattle.fields.specs.Pieces.{Bytes}
use Rattle.model.specs.declared.Grammar.{Grammar}
use Rattle.text.specs.Tables.{Table, table_lines, TableFormed, file_of, table_of, RestFree}
use Rattle.model.specs.Files.{File, limit}
use Rattle.model.proofs.Tests.{and_first, and_second, and_both}
use Rattle.text.specs.declared.Context.{Context}
use Rattle.rows.specs.Rows.{read}
use Rattle.text.specs.Files.{kept_count, read_text, circuit_context, schedule_context, erase_context}
use Rattle.text.proofs.Statements.Inverse as InverseStatement
use Rattle.text.proofs.Statements.Inverse.{IsWritten, Inverse}
use Rattle.text.proofs.Statements.Refusals as RefusalsStatement
use Rattle.text.proofs.Statements.Deciding as DecidingStatement
use Rattle.text.proofs.Statements.WorkedCases as WorkedCases
use Rattle.text.proofs.FileLaws.{kept_most, file_written_read, file_read_written}
use Rattle.text.proofs.Tables.{limit_most, count_length, table_length, file_table, table_formed, table_same}
use Rattle.text.proofs.Refusals.{refusal, stays}
use Rattle.text.proofs.Deciding.{decided}
use Rattle.text.proofs.Worked.{worked}

-- the inverse for a reading that allows a grammar's lines, and of them few enough to keep
module _ (c : Context) (Allowed : Table → Type 0) (limit_is : c.limit ≡ limit c.grammar)
    (kept_few : (t : Table) → TableFormed c.grammar t → Allowed t → kept_count (table_lines t) ≤ c.keptlimit)
    (few_allowed : (t : Table) → kept_count (table_lines t) ≤ c.keptlimit → Allowed t) where
  abbrev g : Grammar
  g = c.grammar

  pub written_read : (text : Bytes) (t : Table) → IsWritten c Allowed text t → read_text c text ≡ read (file_of t)
  written_read text t w =
      let most = limit_most g in
      let count = table_length g t w.formed in
      let few = leb→le t.count (limit g) w.formed.few in
      ap (read_text c) (sym w.text_is)
      ∙ file_written_read c (file_of t) (omega arith) w.formed.lines
      (and_both (leb (length (table_lines t)) c.limit) (leb (kept_count (table_lines t)) c.keptlimit) (le→leb (length (table_lines t)) c.limit (omega arith))
      (le→leb (kept_count (table_lines t)) c.keptlimit (kept_few t w.formed w.allowed)))

  pub read_written : (text : Bytes) (t : Table) → TableFormed g t → read_text c text ≡ read (file_of t) → IsWritten c Allowed text t
  read_written text t f e =
      let b = file_read_written c text e in
      let kept = and_second (leb (length (table_lines t)) c.limit) (leb (kept_count (table_lines t)) c.keptlimit) b.few in
      record { formed = f; allowed = few_allowed t (leb→le (kept_count (table_lines t)) c.keptlimit kept); text_is = b.written }

  pub table_read : (text : Bytes) (t : Table) → RestFree t → t.count ≤ 1792 → read_text c text ≡ read (file_of t) → TableFormed g t
  table_read text t free most e =
      let b = file_read_written c text e in
      let few = leb→le (length (table_lines t)) c.limit (and_first (leb (length (table_lines t)) c.limit) (leb (kept_count (table_lines t)) c.keptlimit) b.few) in
      let count = count_length t free.room most in
      record { few = le→leb t.count (limit g) (omega arith); room = free.room; lines = b.formed; rest = free.rest }

  -- a file that was read is held by a table
  file_held : (text : Bytes) (f : File) → read_text c text ≡ read f → TableFormed g (table_of f)
  file_held text f e =
      let b = file_read_written c text e in
      let few = leb→le (length f.lines) c.limit (and_first (leb (length f.lines) c.limit) (leb (kept_count f.lines) c.keptlimit) b.few) in
      table_formed g f b.formed (omega arith)

  pub inverse : Inverse c Allowed
  inverse =
      record {
        written_read = written_read;
        read_written = read_written;
        table_read = table_read;
        accepted_written = λ text a. record {
          table = table_of a.file;
          is = read_written text (table_of a.file) (file_held text a.file a.reads) (a.reads ∙ ap read (sym (file_table a.file)));
        };
        written_accepted = λ text w. record { file = file_of w.table; reads = written_read text w.table w.is };
        one_table = table_same g;
      }

-- a table of the grammar keeps no more lines than it has
kept_within : (g : Grammar) (t : Table) → TableFormed g t → kept_count (table_lines t) ≤ limit g
kept_within g t f =
    let count = table_length g t f in
    let few = leb→le t.count (limit g) f.few in
    let most = kept_most (table_lines t) in
    omega arith

pub text_and_table : InverseStatement.Statement
text_and_table =
    record {
      circuits = inverse circuit_context (λ t. Unit) refl (λ t f a. kept_within circuit_context.grammar t f) (λ t k. tt);
      schedules = inverse schedule_context (λ t. Unit) refl (λ t f a. kept_within schedule_context.grammar t f) (λ t k. tt);
      erasing = inverse erase_context (λ t. T (leb (kept_count (table_lines t)) 256)) refl
          (λ t f a. let few = leb→le (kept_count (table_lines t)) 256 a in omega arith) (λ t k. le→leb (kept_count (table_lines t)) 256 (omega arith));
    }

pub refusals : RefusalsStatement.Statement
refusals = record { refusal = refusal; stays = stays }

pub first_bytes : DecidingStatement.Statement
first_bytes = decided

pub worked_cases : WorkedCases.Statement
worked_cases = worked
