-- The members of a line that opens a campaign.
use Rattle.std.specs.Prelude.{true, Result, codes}
use Rattle.serde_json.specs.Data.{Data}
use Rattle.up_canon.specs.Members.{member_in, list_in}
use Rattle.up_canon.specs.Readers.{ident_in}
use Rattle.up_canon.specs.Steps.{◌>>=◌, each}
use Rattle.up_canon.specs.declared.refusal.Refusal.{Refusal}
use Rattle.up_columns.specs.CampaignColumns.{item_of, reach_of}
use Rattle.up_plan.specs.Campaigns.{CampaignData, campaign_fault}
use Rattle.up_plan.specs.declared.campaign.Reach.{Reach}
use Rattle.up_script.specs.ImageLines.{checked}

-- `"all"`, or the names of vehicles
unfoldable pub reach_in : Data → Result Reach Refusal
reach_in d = do
  value ← member_in (codes "vehicles") d
  reach_of (codes "vehicles") value

unfoldable pub campaign_in : Data → Result CampaignData Refusal
campaign_in d = do
  name ← ident_in (codes "campaign") d
  reach ← reach_in d
  item_values ← list_in (codes "items") d
  items ← each (item_of (codes "items")) item_values
  checked campaign_fault (record { name = name; reach = reach; items = items; running = true })
