-- What each call comes to, as the code has it. No promise of a service rests on this.
use Rattle.std.specs.Prelude.{ℕ, cond, ◌&&◌, List, ltb, length}
use Rattle.fields.specs.Pieces.{Bytes}
use Rattle.model.specs.declared.Line.{Line}
use Rattle.text.specs.Files.{read_text, schedule_context}
use Rattle.services.specs.Outcomes.{Outcome, writes, tells, refuses}
use Rattle.services.specs.Calls.{once_read}
use Rattle.liveness.specs.Live.{may_drop, one_if, live_after, live_bytes}
use Rattle.liveness.specs.Kept.{peak_of}

-- of the lines of a schedule
unfoldable pub drop_answer : ℕ → ℕ → List Line → Outcome
drop_answer value line lines =
    cond (ltb value (length lines) && ltb line (length lines)) (tells (one_if (may_drop lines value line))) (refuses 4 0 0)

unfoldable pub count_after : ℕ → List Line → Outcome
count_after line lines = cond (ltb line (length lines)) (tells (live_after lines line)) (refuses 4 0 0)

-- of a schedule's text
abbrev pub may_drop_outcome : Bytes → ℕ → ℕ → Outcome
may_drop_outcome schedule value line = once_read 1 (read_text schedule_context schedule) (λ f. drop_answer value line f.lines)

abbrev pub live_after_outcome : Bytes → ℕ → Outcome
live_after_outcome schedule line = once_read 1 (read_text schedule_context schedule) (λ f. count_after line f.lines)

abbrev pub live_peak_outcome : Bytes → Outcome
live_peak_outcome schedule = once_read 1 (read_text schedule_context schedule) (λ f. tells (peak_of f.lines))

abbrev pub live_outcome : Bytes → Outcome
live_outcome schedule = once_read 1 (read_text schedule_context schedule) (λ f. writes (live_bytes f.lines))
