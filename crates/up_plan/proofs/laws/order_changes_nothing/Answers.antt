use Rattle.up_plan.proofs.PlanLaws as law
use Rattle.up_plan.proofs.laws.order_changes_nothing.Goals as goal

pub returns-clause-campaigns : goal.returns-clause-campaigns
returns-clause-campaigns c = law.campaigns_in_any_order

pub returns-clause-images : goal.returns-clause-images
returns-clause-images c = law.images_in_any_order
