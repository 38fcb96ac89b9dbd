-- Document 02, Job 7, as promises about bytes, one record for each of its four services. A schedule only has to be read: no line rules are
-- asked, and no limit on the lines that erasing keeps.
use Rattle.std.specs.Prelude.{ℕ, ◌+◌, ◌*◌, ◌≤◌, ◌<◌, ◌≡◌, ◌↔◌, List, T, leb, length, get_or}
use Rattle.fields.specs.Pieces.{Bytes}
use Rattle.model.specs.declared.Line.{Line}
use Rattle.model.specs.declared.Line.TheVariants.{Free}
use Rattle.model.specs.Files.{File}
use Rattle.text.specs.Files.{read_text, schedule_context}
use Rattle.services.specs.declared.Reply.{Reply}
use Rattle.services.specs.Outcomes.{Outcome, writes, tells, refuses, reply_of}
use Rattle.services.specs.Promises.{TheOutcome, Lent, IsInverse, OnceRead}
use Rattle.liveness.specs.Live.{names, may_drop, entry_of, one_if, live_after, answered_no, IsPeak, live_bytes}

-- the line of this number names the value
abbrev pub NamedAt : List Line → ℕ → ℕ → Type 0
NamedAt lines value line = T (names (get_or lines line Free) value)

-- "the last line that names it"; where none does, its own
pub record IsEntry (lines : List Line) (value entry : ℕ) : Type 0 where
  pub there : entry < length lines
  pub not_before : value ≤ entry
  pub names_it : (entry ≡ value → ⊥) → NamedAt lines value entry
  pub none_later : (l : ℕ) → entry < l → l < length lines → NamedAt lines value l → ⊥

-- ---- may drop
-- "Whether a value may be dropped after a given line is answered from the value's one entry, and the answer equals a scan of all later
-- lines." 1 is yes and 0 is no.
pub record Answers (lines : List Line) (value line answer : ℕ) : Type 0 where
  pub scan : answer ≡ one_if (may_drop lines value line)
  pub from_entry : answer ≡ one_if (leb (entry_of lines value) line)
  -- what follows
  pub entry_is : IsEntry lines value (entry_of lines value)
  pub yes_iff : (answer ≡ 1) ↔ ((entry_of lines value ≤ line) × (value ≤ line))
  -- "A value never named may be dropped after its own line; for a line before its own the answer is no."
  pub named_never : ((l : ℕ) → l < length lines → NamedAt lines value l → ⊥) → value ≤ line → answer ≡ 1
  pub before_own : line < value → answer ≡ 0

-- the schedule has a value, and a line, of this number: "Lines are numbered as values."
abbrev pub Has : File → ℕ → Type 0
Has file n = n < length file.lines

-- "A line or value number that the schedule lacks is 4 with place 0, after the file's refusals."
pub data DropComesTo (value line : ℕ) (file : File) : Outcome → Type 0 where
  lacks : (Has file value → Has file line → ⊥) → DropComesTo value line file (refuses 4 0 0)
  answers : Has file value → Has file line → (answer : ℕ) → Answers file.lines value line answer → DropComesTo value line file (tells answer)

pub record MayDropPromise (schedule : Bytes) (value line : ℕ) (r : Reply) : Type 0 where
  pub inverse : IsInverse schedule_context schedule
  pub call : TheOutcome (OnceRead (read_text schedule_context schedule) 1 (DropComesTo value line))
  pub reply : r ≡ reply_of call.outcome

-- ---- live after
-- "for each line how many ciphertexts up to it are still named later"; what follows: so many "have the answer no"
pub record Counts (lines : List Line) (line count : ℕ) : Type 0 where
  pub count_is : count ≡ live_after lines line
  pub answer_no : count ≡ answered_no lines line

pub data AfterComesTo (line : ℕ) (file : File) : Outcome → Type 0 where
  lacks : (Has file line → ⊥) → AfterComesTo line file (refuses 4 0 0)
  counts : Has file line → (count : ℕ) → Counts file.lines line count → AfterComesTo line file (tells count)

pub record LiveAfterPromise (schedule : Bytes) (line : ℕ) (r : Reply) : Type 0 where
  pub inverse : IsInverse schedule_context schedule
  pub call : TheOutcome (OnceRead (read_text schedule_context schedule) 1 (AfterComesTo line))
  pub reply : r ≡ reply_of call.outcome

-- ---- live peak
pub data PeakComesTo (file : File) : Outcome → Type 0 where
  peaks : (most : ℕ) → IsPeak file.lines most → PeakComesTo file (tells most)

pub record LivePeakPromise (schedule : Bytes) (r : Reply) : Type 0 where
  pub inverse : IsInverse schedule_context schedule
  pub call : TheOutcome (OnceRead (read_text schedule_context schedule) 1 PeakComesTo)
  pub reply : r ≡ reply_of call.outcome

-- ---- live: all of it at once
-- what a host reads back of a value: its entry, by which it may be dropped after a line or not, and the count after its own line
pub record ReadsBack (lines : List Line) (written : Bytes) (value : ℕ) : Type 0 where
  pub entry : get_or written (4 * value) 0 + 256 * get_or written (4 * value + 1) 0 ≡ entry_of lines value
  pub count : get_or written (4 * value + 2) 0 + 256 * get_or written (4 * value + 3) 0 ≡ live_after lines value
  pub entry_is : IsEntry lines value (entry_of lines value)
  pub drops : (line : ℕ) → line < length lines → T (may_drop lines value line) ↔ (entry_of lines value ≤ line)
  pub answer_no : live_after lines value ≡ answered_no lines value

pub data LiveComesTo (file : File) : Outcome → Type 0 where
  lists : (written : Bytes) → written ≡ live_bytes file.lines → length written ≡ 4 * length file.lines
      → ((value : ℕ) → Has file value → ReadsBack file.lines written value) → LiveComesTo file (writes written)

pub record LivePromise (schedule out : Bytes) (r : Reply) (after : Bytes) : Type 0 where
  pub inverse : IsInverse schedule_context schedule
  pub call : TheOutcome (OnceRead (read_text schedule_context schedule) 1 LiveComesTo)
  pub replies : Lent call.outcome out r after
