use Rattle.up_plan.proofs.PlanLaws as law
use Rattle.up_plan.proofs.laws.all_or_none.Goals as goal

pub returns-clause-all_or_none : goal.returns-clause-all_or_none
returns-clause-all_or_none c = law.all_or_none

pub returns-clause-none_wanted : goal.returns-clause-none_wanted
returns-clause-none_wanted c = law.nothing_wanted
