-- What the code's answer to planning says.
use Rattle.std.specs.Prelude.{ℕ, List, Result, Ok, Err}
use Rattle.model.specs.declared.Header.{Header}
use Rattle.model.specs.declared.Refusal.{Refusal}
use Rattle.model.specs.Refusals.{number_of}
use Rattle.model.specs.Services as Services
use Rattle.tables.specs.declared.Record.{Record}
use Rattle.tables.specs.Records.{lines_held}

-- with the records of the schedule
abbrev pub planned_of : Header → List Record → Result ℕ Refusal → Services.Planned
planned_of h schedule (Ok count) = Services.scheduled (record { header = h; lines = lines_held schedule count })
planned_of h schedule (Err r) = Services.unplanned (number_of r.fault) r.place
