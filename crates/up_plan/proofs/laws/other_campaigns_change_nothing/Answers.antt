use Rattle.up_plan.proofs.PlanLaws as law
use Rattle.up_plan.proofs.laws.other_campaigns_change_nothing.Goals as goal

pub returns : goal.returns
returns c = law.others_change_nothing
