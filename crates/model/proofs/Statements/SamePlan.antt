-- Document 02, Job 3: the headroom decides whether a circuit is planned, and no line of its plan. Where it is planned with H, it is planned
-- without, by the same lines.
use Rattle.std.specs.Prelude.{None}
use mathlib.Core.Path.{◌≡◌}
use mathlib.Core.List.{List}
use Rattle.model.specs.declared.Header.{Header}
use Rattle.model.specs.declared.Line.{Line}
use Rattle.model.specs.Services.{scheduled, plan}

abbrev pub without_headroom : Header → Header
without_headroom h = record { factor = h.factor; waterline = h.waterline; top = h.top; headroom = None }

abbrev pub Statement : Type 0
Statement =
    (h : Header) (circuit schedule : List Line) → plan (record { header = h; lines = circuit }) ≡ scheduled (record { header = h; lines = schedule })
    → plan (record { header = without_headroom h; lines = circuit }) ≡ scheduled (record { header = without_headroom h; lines = schedule })
