use Rattle.up_plan.proofs.PlanLaws as law
use Rattle.up_plan.proofs.laws.assigned_is_due.Goals as goal

pub returns : goal.returns
returns c = law.assigned_is_due
