-- "Text to table and table to text are inverse": reading what is written gives the same table, a text that reads to a table is what that table writes to, byte for byte,
-- and a text is accepted if and only if some well-formed table writes to it.
use Prim.{Unit}
use Prim.Native.Nat.{◌≤◌}
use mathlib.Core.Path.{◌≡◌}
use lib.Dec.{T, leb}
use Rattle.fields.specs.Pieces.{Bytes}
use Rattle.text.specs.Tables.{Table, table_lines, TableFormed, file_of, RestFree}
use Rattle.model.specs.Files.{File}
use Rattle.text.specs.declared.Context.{Context}
use Rattle.rows.specs.Rows.{read}
use Rattle.text.specs.Files.{kept_count, read_text, circuit_context, schedule_context, erase_context, file_text}

-- Allowed says which well-formed tables a reading takes.
module _ (c : Context) (Allowed : Table → Type 0) where
  -- a table that is written as this text
  pub record IsWritten (text : Bytes) (t : Table) : Type 0 where
    pub formed : TableFormed c.grammar t
    pub allowed : Allowed t
    pub text_is : file_text c.grammar (file_of t) ≡ text

  pub record Written (text : Bytes) : Type 0 where
    pub table : Table
    pub is : IsWritten text table

  pub record Accepted (text : Bytes) : Type 0 where
    pub file : File
    pub reads : read_text c text ≡ read file

  pub record Inverse : Type 0 where
    pub written_read : (text : Bytes) (t : Table) → IsWritten text t → read_text c text ≡ read (file_of t)
    pub read_written : (text : Bytes) (t : Table) → TableFormed c.grammar t → read_text c text ≡ read (file_of t) → IsWritten text t
    -- a table that is free past its count and holds what was read is well formed
    pub table_read : (text : Bytes) (t : Table) → RestFree t → t.count ≤ 1792 → read_text c text ≡ read (file_of t) → TableFormed c.grammar t
    pub accepted_written : (text : Bytes) → Accepted text → Written text
    pub written_accepted : (text : Bytes) → Written text → Accepted text
    -- no two tables hold the same file, so the table that is read is the one that was written
    pub one_table : (t u : Table) → TableFormed c.grammar t → TableFormed c.grammar u → file_of t ≡ file_of u → t ≡ u

-- Circuits, schedules, and schedules for erasing: there at most 256 lines are kept.
pub record Statement : Type 0 where
  pub circuits : Inverse circuit_context (λ t. Unit)
  pub schedules : Inverse schedule_context (λ t. Unit)
  pub erasing : Inverse erase_context (λ t. T (leb (kept_count (table_lines t)) 256))
