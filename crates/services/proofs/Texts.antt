-- A text and the file that it reads to pass together.
-- Assumes nothing.
use Prim.Native.Nat.{ℕ, ◌≤◌}
use native.Mathlib.Omega.{arith}
use mathlib.Core.Path.{◌≡◌, refl, sym, ap, ◌∙◌}
use lib.Dec.{T, leb, leb→le, le→leb}
use lib.ListN.{length}
use Rattle.fields.specs.Pieces.{Bytes}
use Rattle.model.specs.declared.Grammar.TheVariants.{Circuit, Schedule}
use Rattle.model.specs.Files.{File, well_formed, limit}
use Rattle.model.specs.Services.{erase_file}
use Rattle.model.proofs.Statements.Check.{PassedFiles}
use Rattle.model.proofs.Tests.{and_first, and_both}
use Rattle.model.proofs.Theorems as Model
use Rattle.text.specs.declared.Context.{Context}
use Rattle.rows.specs.Rows.{Reading, read, refused}
use Rattle.text.specs.Files.{kept_count, read_text, few_enough, circuit_context, schedule_context, file_text}
use Rattle.text.proofs.Statements.Refusals as Numbers
use Rattle.text.proofs.FileLaws.{FileBack, kept_most, file_written_read, file_read_written}
use Rattle.text.proofs.Unique.{text_of_one}
use Rattle.text.proofs.Theorems as Text
use Rattle.services.specs.Promises.{IsInverse, Unread, Passed, IsExact}

-- ---- readings
-- a text is read or refused, and to one file
pub not_both : {A P : Type 0} {x : Reading A} {f : A} {n p : ℕ} → x ≡ read f → x ≡ refused n p → P
not_both e q = absurd (let z : ◌≡◌ {A = ℕ} 0 1 = cc in omega arith)

pub one_file : {A : Type 0} {x : Reading A} {f k : A} → x ≡ read f → x ≡ read k → f ≡ k
one_file e q = cc

-- the numbers with which reading refuses
told : {n : ℕ} → Numbers.IsNumber n → (n ≡ 11 → ⊥) → (1 ≤ n) × (n ≤ 5)
told Numbers.form f = (omega arith, omega arith)
told Numbers.header f = (omega arith, omega arith)
told Numbers.many f = (omega arith, omega arith)
told Numbers.operand f = (omega arith, omega arith)
told Numbers.kind f = (omega arith, omega arith)
told Numbers.range f = absurd (f refl)

pub number_told_lem : (c : Context) (text : Bytes) (n p : ℕ) → read_text c text ≡ refused n p → Numbers.IsNumber n
number_told_lem c text n p e = ((Text.refusals).refusal c text n p e).number

pub is_unread : (c : Context) (text : Bytes) (n p : ℕ) → read_text c text ≡ refused n p → Unread (read_text c text) n p
is_unread c text n p e = record { is_refused = e; by_reading = told (number_told_lem c text n p e) }

pub few_lines : (c : Context) {text : Bytes} {f : File} → FileBack c text f → length f.lines ≤ c.limit
few_lines c {text} {f} b = leb→le (length f.lines) c.limit (and_first (leb (length f.lines) c.limit) (leb (kept_count f.lines) c.keptlimit) b.few)

pub fits_context : (c : Context) (f : File) → length f.lines ≤ c.limit → c.limit ≤ c.keptlimit → T (few_enough c f.lines)
fits_context c f few low =
    let kept = kept_most f.lines in
    and_both (leb (length f.lines) c.limit) (leb (kept_count f.lines) c.keptlimit) (le→leb (length f.lines) c.limit few)
    (le→leb (kept_count f.lines) c.keptlimit (omega arith))

-- a circuit's text, and a schedule's, are read back
pub circuit_back : (f : File) → T (well_formed Circuit f.header f.lines) → length f.lines ≤ limit Circuit → read_text circuit_context (file_text Circuit f) ≡ read f
circuit_back f t few = file_written_read circuit_context f (omega arith) t (fits_context circuit_context f few (omega arith))

pub schedule_back : (f : File) → T (well_formed Schedule f.header f.lines) → length f.lines ≤ limit Schedule → read_text schedule_context (file_text Schedule f) ≡ read f
schedule_back f t few = file_written_read schedule_context f (omega arith) t (fits_context schedule_context f few (omega arith))

-- a text and the file that it reads to are inverse
pub text_inverse : (c : Context) → c.limit ≤ 1792 → (text : Bytes) → IsInverse c text
text_inverse c most text file = (
  λ e. let b = file_read_written c text e in record { formed = b.formed; few = b.few; text_is = b.written },
  λ w. ap (read_text c) (sym w.text_is) ∙ file_written_read c file most w.formed w.few,
)

-- ---- passing
module _ (circuit schedule : Bytes) where
  pub passed_files : (p : Passed circuit schedule) → PassedFiles p.files.circuit_file p.files.schedule_file
  passed_files p =
      let c = file_read_written circuit_context circuit p.files.circuit_reads in
      let s = file_read_written schedule_context schedule p.files.schedule_reads in
      let e = Model.erasing p.files.schedule_file.header p.files.schedule_file.lines s.formed in
      record {
        circuit_formed = c.formed;
        schedule_formed = s.formed;
        keeps = p.keeps;
        erases = text_of_one circuit_context (omega arith) (omega arith) circuit p.files.circuit_reads (erase_file p.files.schedule_file) e.formed p.erases;
      }

  pub passed_texts : {c s : File} → read_text circuit_context circuit ≡ read c → read_text schedule_context schedule ≡ read s → PassedFiles c s → Passed circuit schedule
  passed_texts {c} {s} reads reads' p =
      let b = file_read_written circuit_context circuit reads in
      record {
        files = record { circuit_file = c; schedule_file = s; circuit_reads = reads; schedule_reads = reads' };
        keeps = p.keeps;
        erases = ap (file_text Circuit) p.erases ∙ b.written;
      }

  pub passed_exact : (p : Passed circuit schedule) → IsExact p.files
  passed_exact p H = Model.exactness p.files.circuit_file p.files.schedule_file (passed_files p) H
