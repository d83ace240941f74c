use Rattle.std.proofs.Common.{ap, ◌∙◌, subst}
use Rattle.up_canon.specs.Refusals.{Gives}
use Rattle.up_columns.specs.PlanColumns.{plan_in}
use Rattle.up_columns.proofs.PlansRead.{plan-there}
use Rattle.up_columns.proofs.plans.read_plan.Goals as goal

pub returns-clause-again : goal.returns-clause-again
returns-clause-again c = λ xs typed is. subst (Gives c.plan_in_column.result) (ap plan_in is ∙ plan-there c.canonical_laws.ensures.read xs typed) c.plan_in_column.ensures
