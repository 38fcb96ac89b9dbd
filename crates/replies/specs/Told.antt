-- What a call comes to that tells a number, or how many bytes it has written, or is refused; and its reply.
use Rattle.std.specs.Prelude.{ℕ, Result, Ok, Err}
use Rattle.model.specs.Refusals.{number_of}
use Rattle.services.specs.declared.Reply.{Reply}
use Rattle.services.specs.Outcomes.{Outcome, tells, refuses, reply_of}
use Rattle.replies.specs.declared.FileRefusal.{FileRefusal}

abbrev pub refused_by : FileRefusal → Outcome
refused_by r = refuses (number_of r.refusal.fault) r.file r.refusal.place

abbrev pub reply_to : Result ℕ FileRefusal → Reply
reply_to (Ok n) = reply_of (tells n)
reply_to (Err r) = reply_of (refused_by r)
