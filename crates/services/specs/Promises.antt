-- The demands as promises about bytes, one record for each exported service. What a call comes to is defined by cases, each with what is
-- then known of the files; they lead to exactly one outcome, and the reply and the lent bytes are that outcome's.
use Rattle.std.specs.Prelude.{ℕ, suc, ◌≤◌, ◌<◌, ◌≡◌, ◌↔◌, List, T, length, get_or, take, drop}
use Rattle.fields.specs.Pieces.{Bytes, line_feed, split}
use Rattle.model.specs.declared.Header.{Header}
use Rattle.model.specs.declared.Line.{Line}
use Rattle.model.specs.declared.Line.TheVariants.{Free}
use Rattle.model.specs.declared.Grammar.TheVariants.{Circuit, Schedule}
use Rattle.model.specs.Scales.{with_top}
use Rattle.rows.specs.Rows.{place_of, Reading, read, refused}
use Rattle.model.specs.Files.{File, well_formed}
use Rattle.model.specs.Machine.{stopped, run}
use Rattle.model.specs.Rules.{KeepsRules}
use Rattle.model.specs.Machines.{Handed}
use Rattle.model.specs.Plan.{best_machine}
use Rattle.model.specs.Services.{scheduled, plan, erase_file}
use Rattle.model.specs.Broken.{FirstBroken}
use Rattle.model.specs.Demands.{Schedulable, Exact, is_ciphertext_line, BestAt}
use Rattle.text.specs.declared.Context.{Context}
use Rattle.text.specs.Files.{read_text, few_enough, circuit_context, schedule_context, erase_context, file_text}
use Rattle.services.specs.declared.Reply.{Reply}
use Rattle.services.specs.Outcomes.{Outcome, writes, passes, tells, refuses, reply_of, Replied}

-- the one outcome to which the cases lead
pub record TheOutcome (ComesTo : Outcome → Type 0) : Type 0 where
  pub outcome : Outcome
  pub comes_to : ComesTo outcome
  pub only : (other : Outcome) → ComesTo other → other ≡ outcome

-- ---- what is promised of the bytes that are lent, for a call that comes to this outcome. Demand 1: "gets one reply", "a refused call has
-- written no byte into the buffers lent to it"
pub record Lent (outcome : Outcome) (out : Bytes) (r : Reply) (after : Bytes) : Type 0 where
  pub replied : Replied outcome out r after
  -- what this says
  pub refused_unchanged : (r.number ≡ 0 → ⊥) → after ≡ out
  pub rest_unchanged : r.number ≡ 0 → drop r.length after ≡ drop r.length out
  pub length_fits : r.number ≡ 0 → r.length ≤ length out
  pub length_stays : length after ≡ length out

-- ---- demand 2
-- "Text to table and table to text are inverse": a text is read as a file if and only if the file is well formed, has no more lines than
-- allowed, and is written so.
pub record WrittenAs (c : Context) (text : Bytes) (file : File) : Type 0 where
  pub formed : T (well_formed c.grammar file.header file.lines)
  pub few : T (few_enough c file.lines)
  pub text_is : file_text c.grammar file ≡ text

abbrev pub IsInverse : Context → Bytes → Type 0
IsInverse c text = (file : File) → (read_text c text ≡ read file) ↔ WrittenAs c text file

-- a text is refused where it is read
pub record Unread {A : Type 0} (reading : Reading A) (number place : ℕ) : Type 0 where
  pub is_refused : reading ≡ refused number place
  -- what follows: by 1 to 5, or 11
  pub by_reading : (number ≡ 11 → ⊥) → (1 ≤ number) × (number ≤ 5)

-- what a call comes to that reads a text so, and "which of them, counted from 1 in the order read": the refusal of the text, or what
-- follows of its file
pub data OnceRead {A : Type 0} (reading : Reading A) (which : ℕ) (Then : A → Outcome → Type 0) : Outcome → Type 0 where
  unread : (number place : ℕ) → Unread reading number place → OnceRead reading which Then (refuses number which place)
  is_read : (file : A) (outcome : Outcome) → reading ≡ read file → Then file outcome → OnceRead reading which Then outcome

-- both files are read
pub record BothRead (circuit schedule : Bytes) : Type 0 where
  pub circuit_file : File
  pub schedule_file : File
  pub circuit_reads : read_text circuit_context circuit ≡ read circuit_file
  pub schedule_reads : read_text schedule_context schedule ≡ read schedule_file

-- "A schedule is passed against a circuit if, and only if, each of its lines keeps the published RNS-CKKS rules …, and striking out the
-- encode, rescale, modswitch and upscale lines leaves that circuit byte for byte."
pub record Passed (circuit schedule : Bytes) : Type 0 where
  pub files : BothRead circuit schedule
  pub keeps : KeepsRules files.schedule_file.header files.schedule_file.lines
  pub erases : file_text Circuit (erase_file files.schedule_file) ≡ circuit

-- ---- demand 3
-- "whatever whole numbers its inputs and constants are, …": the two machines on the files of these bytes
abbrev pub IsExact : {circuit schedule : Bytes} → BothRead circuit schedule → Type 0
IsExact files = (handed : Handed) → Exact handed files.schedule_file.header files.circuit_file.lines files.schedule_file.lines

-- 6 at this place, of the lines of a circuit under a header: no schedule exists, and it is told "at the first line with best reserve below
-- zero", or below H where it is given: the lines before it have a schedule, and with it they have none
pub record TooFew (h : Header) (lines : List Line) (place : ℕ) : Type 0 where
  pub line : ℕ
  pub place_is : place ≡ place_of line
  pub stops : run (best_machine h) lines ≡ stopped line 6
  -- what follows
  pub no_schedule : Schedulable h lines → ⊥
  pub below : line < length lines
  pub before : Schedulable h (take line lines)
  pub with_it : Schedulable h (take (suc line) lines) → ⊥

-- Document 02, Job 6: "for each ciphertext line of a planned circuit the plan's reserve is the greatest that the line has in any legal schedule
-- of that circuit, at the same header", which has its own H
abbrev pub IsBest : {circuit schedule : Bytes} → BothRead circuit schedule → Type 0
IsBest files =
    let file = files.circuit_file in
    (j : ℕ) → j < length file.lines → T (is_ciphertext_line (get_or file.lines j Free))
    → BestAt file.header file.lines files.schedule_file.lines j

-- ---- plan
-- "What our planner writes is the plan that document 01 defines, and it passes"; so there is a schedule. It is exact, and each ciphertext
-- line has the greatest reserve.
pub record Plans (circuit written : Bytes) : Type 0 where
  pub passed : Passed circuit written
  pub is_plan : plan passed.files.circuit_file ≡ scheduled passed.files.schedule_file
  pub text_is : written ≡ file_text Schedule passed.files.schedule_file
  -- what follows
  pub exists : Schedulable passed.files.circuit_file.header passed.files.circuit_file.lines
  pub exact : IsExact passed.files
  pub best : IsBest passed.files

-- the circuit with another top level in its header
abbrev pub with_level : File → ℕ → File
with_level file l = record { header = with_top file.header l; lines = file.lines }

abbrev pub Fits : File → ℕ → Type 0
Fits file l = Schedulable (with_top file.header l) file.lines

-- with this level in its header the circuit fits, is read and is planned, for whatever buffer holds the plan
pub record PlannedAt (file : File) (l : ℕ) : Type 0 where
  pub fits : Fits file l
  pub written : Bytes
  pub reads : read_text circuit_context (file_text Circuit (with_level file l)) ≡ read (with_level file l)
  pub plans : Plans (file_text Circuit (with_level file l)) written

-- Document 02, Job 6: "fits at every higher one up to 60", from this level on
abbrev pub PlannedFrom : File → ℕ → Type 0
PlannedFrom file l = (k : ℕ) → l ≤ k → k ≤ 60 → PlannedAt file k

-- "planning, once all is read without a refusal, says it exactly when there is none, and otherwise writes the plan of 2 if the buffer
-- holds it"; document 02, Job 6: "a circuit which fits at one top level", here the header's, "fits at every higher one up to 60"
pub data PlanComesTo (circuit : Bytes) (file : File) : Outcome → Type 0 where
  too_few : (place : ℕ) → TooFew file.header file.lines place → PlanComesTo circuit file (refuses 6 1 place)
  plans : (written : Bytes) → Plans circuit written → PlannedFrom file file.header.top → PlanComesTo circuit file (writes written)

-- what a call comes to
abbrev pub PlanCall : Bytes → Type 0
PlanCall circuit = TheOutcome (OnceRead (read_text circuit_context circuit) 1 (PlanComesTo circuit))

-- no call with this circuit says 6, whatever is lent
abbrev pub NeverTooFew : Bytes → Type 0
NeverTooFew circuit = (call : PlanCall circuit) (out after : Bytes) (r : Reply) → Lent call.outcome out r after → r.number ≡ 6 → ⊥

pub record PlanPromise (circuit out : Bytes) (r : Reply) (after : Bytes) : Type 0 where
  pub inverse : IsInverse circuit_context circuit
  pub call : PlanCall circuit
  pub replies : Lent call.outcome out r after
  -- "exactly when there is none"
  pub too_few_iff : (file : File) → read_text circuit_context circuit ≡ read file
      → (r.number ≡ 6) ↔ (Schedulable file.header file.lines → ⊥)
  -- what follows for replies, document 02, Job 6: where the circuit is read and this call does not say 6, no call with the same or a higher
  -- top level up to 60 does
  pub higher : (file : File) → read_text circuit_context circuit ≡ read file → (r.number ≡ 6 → ⊥)
      → (l : ℕ) → file.header.top ≤ l → l ≤ 60 → NeverTooFew (file_text Circuit (with_level file l))

-- ---- check
-- "place of the first circuit line that differs, or one past the shorter file": the first of the texts between line feeds that differs,
-- counted from 1. After the last line feed stands an empty one, and no line is empty.
pub record TextsDifferAt (xs ys : List Bytes) (place : ℕ) : Type 0 where
  pub line : ℕ
  pub place_is : place ≡ suc line
  pub before : take line xs ≡ take line ys
  pub with_it : take (suc line) xs ≡ take (suc line) ys → ⊥

-- a circuit and a schedule that both read. "12 erases to another circuit", "(12: the circuit)"; "12, then per line 7, 8, 10, 9"
pub data Verdict (circuit : Bytes) (schedule : File) : Outcome → Type 0 where
  keeps_rules : file_text Circuit (erase_file schedule) ≡ circuit → KeepsRules schedule.header schedule.lines
      → Verdict circuit schedule passes
  other_circuit : (place : ℕ) → TextsDifferAt (split line_feed circuit) (split line_feed (file_text Circuit (erase_file schedule))) place
      → Verdict circuit schedule (refuses 12 1 place)
  breaks_rule : (number place : ℕ) → file_text Circuit (erase_file schedule) ≡ circuit
      → FirstBroken schedule.header schedule.lines number place → Verdict circuit schedule (refuses number 2 place)

pub record CheckPromise (circuit schedule : Bytes) (r : Reply) : Type 0 where
  pub inverse_circuit : IsInverse circuit_context circuit
  pub inverse_schedule : IsInverse schedule_context schedule
  -- "Files are read top to bottom, circuit first"
  pub call : TheOutcome (OnceRead (read_text circuit_context circuit) 1
      (λ file. OnceRead (read_text schedule_context schedule) 2 (Verdict circuit)))
  pub reply : r ≡ reply_of call.outcome
  pub zero_is_passed : (r.number ≡ 0) ↔ Passed circuit schedule
  pub exact : (p : Passed circuit schedule) → IsExact p.files

-- ---- erase: the erasure's text, which is a circuit
pub data EraseComesTo (file : File) : Outcome → Type 0 where
  erases : (written : Bytes) → written ≡ file_text Circuit (erase_file file) → read_text circuit_context written ≡ read (erase_file file)
      → EraseComesTo file (writes written)

pub record ErasePromise (schedule out : Bytes) (r : Reply) (after : Bytes) : Type 0 where
  pub inverse : IsInverse erase_context schedule
  pub call : TheOutcome (OnceRead (read_text erase_context schedule) 1 EraseComesTo)
  pub replies : Lent call.outcome out r after

-- ---- least level
-- "it must fit, and the level below must not"
pub record Least (file : File) (l : ℕ) : Type 0 where
  pub low : 1 ≤ l
  pub high : l ≤ 60
  -- it fits, and "the whole of demand 3 is owed"; document 02, Job 6: at this level and "at every higher one up to 60"
  pub planned : PlannedFrom file l
  pub least : (k : ℕ) → 1 ≤ k → k < l → Fits file k → ⊥

-- 6: "(least level: at L = 60)"; then no lower level fits either
pub record NoneFits (file : File) (place : ℕ) : Type 0 where
  pub none_fits : (k : ℕ) → 1 ≤ k → k ≤ 60 → Fits file k → ⊥
  pub at_sixty : TooFew (with_top file.header 60) file.lines place

pub data LeastComesTo (file : File) : Outcome → Type 0 where
  fits_from : (l : ℕ) → Least file l → LeastComesTo file (tells l)
  too_few : (place : ℕ) → NoneFits file place → LeastComesTo file (refuses 6 1 place)

pub record LeastPromise (circuit : Bytes) (r : Reply) : Type 0 where
  pub inverse : IsInverse circuit_context circuit
  pub call : TheOutcome (OnceRead (read_text circuit_context circuit) 1 LeastComesTo)
  pub reply : r ≡ reply_of call.outcome
  pub too_few_iff : (file : File) → read_text circuit_context circuit ≡ read file → (r.number ≡ 6) ↔ (Fits file 60 → ⊥)
