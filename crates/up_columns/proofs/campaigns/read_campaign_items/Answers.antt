use Rattle.std.proofs.Common.{ap, ◌∙◌, subst}
use Rattle.up_canon.specs.Refusals.{Gives}
use Rattle.up_columns.specs.CampaignColumns.{campaign_items_in}
use Rattle.up_columns.proofs.CampaignsRead.{campaign_items-there}
use Rattle.up_columns.proofs.campaigns.read_campaign_items.Goals as goal

pub returns-clause-again : goal.returns-clause-again
returns-clause-again c = λ xs typed is. subst (Gives c.read_items.result) (ap campaign_items_in is ∙ campaign_items-there c.canonical_laws.ensures.read xs typed) c.read_items.ensures
