-- `output::print_plan` meets its contract: the plan, or the line of the refusal. Assumes nothing.
use Rattle.output.proofs.Laws.{output_laws}
use Rattle.output.proofs.print_plan.Statement.{statement}
use Rattle.output.proofs.print_plan.Tie as tie

pub print_plan_spec : {M : Type 1} → statement M
print_plan_spec =
    tie.close
    (tie.spec
    (λ c κs. search output_laws)
    (λ c. search output_laws)
    (λ c. search output_laws)
    (λ c. search output_laws)
    (λ c κs. search output_laws)
    (λ c. search output_laws)
    (λ c. search output_laws))
