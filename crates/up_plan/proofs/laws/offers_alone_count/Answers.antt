use Rattle.up_plan.proofs.PlanLaws as law
use Rattle.up_plan.proofs.laws.offers_alone_count.Goals as goal

pub returns : goal.returns
returns c = law.offers_alone_count
