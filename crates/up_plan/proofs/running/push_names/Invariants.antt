use Rattle.std.proofs.Common.{◌≡◌, ◌+◌, ◌-◌, ◌≤◌, ◌&&◌, ◌||◌, Bool, List, Some, bytes_eq, length, take, vec_len}
use Rattle.std.specs.Prelude.{slice_get, vec_capacity}
use Rattle.std.specs.List.{list_any}
use Rattle.up_canon.specs.Names.{Name}
use Rattle.up_plan.specs.Campaigns.{CampaignData}
use Rattle.up_plan.specs.Named.{vehicles_named}
use Rattle.up_plan.specs.Running.{passes_named}
use Rattle.up_plan.proofs.running.push_names.Given as goal

-- the names before this one were added, and there is room for the others
abbrev pub invariant-loop-name : goal.invariant-loop-name
invariant-loop-name l = record {
  found : (campaigns : List CampaignData) (vehicle : Name) (test : CampaignData → Bool) → slice_get campaigns l.place ≡ Some l.campaign
      → list_any (passes_named campaigns vehicle test) l.names.items ≡ (list_any (passes_named campaigns vehicle test) l.fn.names.items || (list_any (bytes_eq vehicle) (take l.name (vehicles_named l.campaign)) && test l.campaign));
  end : l.name-end ≡ length (vehicles_named l.campaign);
  len : vec_len l.names ≡ vec_len l.fn.names + l.name;
  room : vec_len l.names + (l.name-end - l.name) ≤ vec_capacity l.names;
  capacity : vec_capacity l.fn.names ≤ vec_capacity l.names;
}
