-- What the types of a column's values say of them: only what they say is read again.
use Rattle.std.specs.Prelude.{◌&&◌, Bool, true, nat_le, Option, Some, None}
use Rattle.std.specs.List.{list_all}
use Rattle.up_canon.specs.Canon.{max_count}
use Rattle.up_canon.specs.Names.{is_ident, is_file_name}
use Rattle.up_plan.specs.declared.image.Need.{Need}
use Rattle.up_plan.specs.declared.campaign.Item.{Item}
use Rattle.up_plan.specs.declared.campaign.Reach.{Reach}
use Rattle.up_plan.specs.declared.campaign.Reach.TheVariants.{All, Named}
use Rattle.up_plan.specs.declared.assigned.Assigned.{Assigned}
use Rattle.up_plan.specs.declared.assigned.Cause.{Cause}
use Rattle.up_plan.specs.declared.assigned.Cause.TheVariants.{Need as Needed, Conflict}
use Rattle.up_plan.specs.declared.assigned.Plan.{Plan}

abbrev pub is_typed_need : Need → Bool
is_typed_need need = is_ident need.hardware && nat_le need.release max_count

abbrev pub is_typed_item : Item → Bool
is_typed_item item = is_ident item.hardware && is_file_name item.file

abbrev pub is_typed_reach : Reach → Bool
is_typed_reach All = true
is_typed_reach (Named vehicles) = list_all is_ident vehicles

abbrev pub is_typed_assigned : Assigned → Bool
is_typed_assigned a = is_ident a.ecu && is_file_name a.file

abbrev pub is_typed_cause : Option Cause → Bool
is_typed_cause None = true
is_typed_cause (Some (Needed ecu hardware)) = is_ident ecu && is_ident hardware
is_typed_cause (Some (Conflict ecu file)) = is_ident ecu && is_file_name file

abbrev pub is_typed_plan : Plan → Bool
is_typed_plan plan = list_all is_typed_assigned plan.assigned && is_typed_cause plan.withheld
