-- The records of a table past its lines: all are free before the first line is stored, and stay so. Assumes nothing.
use Prim.Native.Nat.{ℕ, zero, suc, ◌+◌}
use native.Mathlib.Omega.{arith}
use mathlib.Core.Path.{◌≡◌, refl, ap, ◌∙◌}
use mathlib.Core.List.{List}
use lib.Dec.{leb→le, le→leb}
use lib.ListN.{length, get_or, set, replicate, length-map, length-set, length-replicate}
use lib.Seq.{get_or-set_other}
use Rattle.model.specs.declared.Header.{Header}
use Rattle.model.specs.declared.Line.{Line}
use Rattle.model.specs.declared.Line.TheVariants.{Free}
use Rattle.text.specs.Tables.{RestFree}
use Rattle.tables.specs.declared.Record.{Record}
use Rattle.tables.specs.Records.{free_record, line_of, lines_of, free_records, held}
use Rattle.tables.proofs.HeldLines.{lines_set}

all_free : (n i : ℕ) → get_or (lines_of (replicate n free_record)) i Free ≡ Free
unfolding line_of
all_free zero i = refl
all_free (suc n) zero = refl
all_free (suc n) (suc i) = all_free n i

pub free_long : (records : List Record) → records ≡ free_records → length records ≡ 1792
free_long records e = ap (length {A = Record}) e ∙ length-replicate {A = Record} 1792 free_record

-- records that were free are as many as before
pub still_long : (records given : List Record) → length records ≡ length given → given ≡ free_records → length records ≡ 1792
still_long records given same free = same ∙ free_long given free

pub none_stored : (h : Header) (records : List Record) → records ≡ free_records → RestFree (held h records 0)
none_stored h records e =
    record {
      room = length-map records line_of ∙ free_long records e;
      rest = λ i l. ap (λ (r : List Record). get_or (lines_of r) i Free) e ∙ all_free 1792 i;
    }

-- where the next record is set, those after it stay free
pub stored_free : (h : Header) (records : List Record) (n : ℕ) (r : Record) → RestFree (held h records n) → RestFree (held h (set records n r) (n + 1))
stored_free h records n r free =
    record {
      room = ap length (lines_set records n r) ∙ length-set (lines_of records) n (line_of r) ∙ free.room;
      rest = λ i l.
          let far = leb→le (n + 1) i l in
          ap (λ (ls : List Line). get_or ls i Free) (lines_set records n r)
          ∙ get_or-set_other (lines_of records) n i (line_of r) Free (λ same. omega arith)
          ∙ free.rest i (le→leb n i (omega arith));
    }
