-- What a command may be. The limits of names, counts and bytes are those of their own types.
use Rattle.std.specs.Prelude.{◌&&◌, Bool, true, nat_le, is_none}
use Rattle.up_canon.specs.Canon.{max_count}
use Rattle.up_plan.specs.Campaigns.{campaign_fits}
use Rattle.up_plan.specs.Images.{image_fits}
use Rattle.up_machine.specs.Vehicles.{new_vehicle_fault}
use Rattle.up_machine.specs.declared.command.Command.{Command}
use Rattle.up_machine.specs.declared.command.Command.TheVariants.{AddImage, Refresh, AddVehicle, OpenCampaign}

-- images, vehicles and campaigns are within their limits, a campaign that is opened is running, and a version is at most 2^53-1
abbrev pub is_command : Command → Bool
is_command (AddImage image) = image_fits image
is_command (Refresh version) = nat_le version max_count
is_command (AddVehicle new) = is_none (new_vehicle_fault new)
is_command (OpenCampaign campaign) = campaign_fits campaign && campaign.running
is_command _ = true

-- a campaign that is opened is running
abbrev pub opens_running : Command → Bool
opens_running (OpenCampaign campaign) = campaign.running
opens_running _ = true
