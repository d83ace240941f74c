use Rattle.std.proofs.Common.{ap, ◌∙◌, subst}
use Rattle.up_canon.specs.Refusals.{Gives}
use Rattle.up_columns.specs.CampaignColumns.{reach_in}
use Rattle.up_columns.proofs.CampaignsRead.{reach-there}
use Rattle.up_columns.proofs.campaigns.read_reach.Goals as goal

pub returns-clause-again : goal.returns-clause-again
returns-clause-again c = λ xs typed is. subst (Gives c.reach_in_column.result) (ap reach_in is ∙ reach-there c.canonical_laws.ensures.read xs typed) c.reach_in_column.ensures
