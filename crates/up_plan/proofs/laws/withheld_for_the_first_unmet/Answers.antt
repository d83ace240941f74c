use Rattle.up_plan.proofs.PlanLaws as law
use Rattle.up_plan.proofs.laws.withheld_for_the_first_unmet.Goals as goal

pub returns-clause-first : goal.returns-clause-first
returns-clause-first c = law.withheld_is_first

pub returns-clause-named : goal.returns-clause-named
returns-clause-named c = law.withheld_has_cause
