-- Document 01, "Services" and "Refused", on the bytes of files: what a call can come to, its reply, and the lent bytes afterwards.
use Rattle.std.specs.Prelude.{ℕ, ◌≡◌, cond, ◌++◌, leb, length, drop}
use Rattle.fields.specs.Pieces.{Bytes}
use Rattle.services.specs.declared.Reply.{Reply}

-- "the finished result, or a refusal by the numbers in document 01 with the text line that caused it"
pub data Outcome : Type 0 where
  -- a text to be written
  writes : Bytes → Outcome
  -- a schedule that is passed
  passes : Outcome
  -- a number: a least top level; document 02, Job 7: an answer or a count
  tells : ℕ → Outcome
  -- number, file and place
  refuses : ℕ → ℕ → ℕ → Outcome

-- "13 buffer too short, place 0, after all else": with so much room
abbrev pub lent : ℕ → Outcome → Outcome
lent room (writes text) = cond (leb (length text) room) (writes text) (refuses 13 0 0)
lent room passes = passes
lent room (tells n) = tells n
lent room (refuses n f p) = refuses n f p

-- the reply
abbrev pub reply_of : Outcome → Reply
reply_of (writes text) = record { number = 0; file = 0; place = 0; length = length text }
reply_of passes = record { number = 0; file = 0; place = 0; length = 0 }
reply_of (tells n) = record { number = 0; file = 0; place = 0; length = n }
reply_of (refuses n f p) = record { number = n; file = f; place = p; length = 0 }

-- the lent bytes: a refused call "has written no byte into the buffers lent to it"; "On success the bytes past the result's length are as
-- at entry too."
abbrev pub bytes_after : Outcome → Bytes → Bytes
bytes_after (writes text) out = text ++ drop (length text) out
bytes_after passes out = out
bytes_after (tells n) out = out
bytes_after (refuses n f p) out = out

-- a call that comes to this outcome with the bytes `out` lent to it replies r and leaves the bytes `after`
pub record Replied (outcome : Outcome) (out : Bytes) (r : Reply) (after : Bytes) : Type 0 where
  pub reply : r ≡ reply_of (lent (length out) outcome)
  pub bytes : after ≡ bytes_after (lent (length out) outcome) out
