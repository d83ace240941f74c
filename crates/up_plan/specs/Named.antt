-- The vehicles that running campaigns name.
use Rattle.std.specs.Prelude.{List, [], if◌then◌else◌}
use Rattle.up_canon.specs.Names.{Name}
use Rattle.up_plan.specs.declared.campaign.Reach.{Reach}
use Rattle.up_plan.specs.declared.campaign.Reach.TheVariants.{All, Named}
use Rattle.up_plan.specs.Campaigns.{CampaignData}

abbrev pub names_in : Reach → List Name
names_in All = []
names_in (Named vehicles) = vehicles

-- the vehicles that the campaign names, none where it doesn't run
abbrev pub vehicles_named : CampaignData → List Name
vehicles_named c = if c.running then names_in c.reach else []
