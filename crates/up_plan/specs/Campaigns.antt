-- Campaigns, and their limits.
use Rattle.std.specs.Prelude.{List, Bool, true, not, length, is_none, Option, Some, None, codes, if◌then◌else◌}
use Rattle.up_canon.specs.Names.{Name, is_from_to}
use Rattle.up_plan.specs.declared.campaign.Reach.{Reach}
use Rattle.up_plan.specs.declared.campaign.Reach.TheVariants.{All, Named}
use Rattle.up_plan.specs.declared.campaign.Item.{Item}

-- what contracts see of a campaign
pub record CampaignData : Type 0 where
  pub name : Name
  pub reach : Reach
  pub items : List Item
  pub running : Bool

-- all vehicles, or 1 to 1,000 of them by name
abbrev pub reach_fits : Reach → Bool
reach_fits All = true
reach_fits (Named vehicles) = is_from_to 1 1000 (length vehicles)

abbrev pub items_fit : List Item → Bool
items_fit items = is_from_to 1 16 (length items)

-- the first member that breaks its limit
abbrev pub campaign_fault : CampaignData → Option Name
campaign_fault campaign =
    if not (reach_fits campaign.reach) then Some (codes "vehicles")
    else if not (items_fit campaign.items) then Some (codes "items")
    else None

abbrev pub campaign_fits : CampaignData → Bool
campaign_fits campaign = is_none (campaign_fault campaign)
