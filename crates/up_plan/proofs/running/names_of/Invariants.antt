use Rattle.std.proofs.Common.{◌≡◌, ◌≤◌, ◌&&◌, Bool, length, take, vec_len}
use Rattle.std.specs.Prelude.{vec_capacity}
use Rattle.std.specs.List.{list_any, sum_by}
use Rattle.up_canon.specs.Names.{Name}
use Rattle.up_plan.specs.Campaigns.{CampaignData}
use Rattle.up_plan.specs.Named.{vehicles_named}
use Rattle.up_plan.specs.Running.{passes_named, reaches_by_name}
use Rattle.up_plan.proofs.running.names_of.Given as goal

-- those of the campaigns so far are there, and there is room for all
abbrev pub invariant-loop-place : goal.invariant-loop-place
invariant-loop-place l = record {
  found : (vehicle : Name) (test : CampaignData → Bool)
      → list_any (passes_named l.campaigns vehicle test) l.names.items ≡ list_any (λ c. reaches_by_name vehicle c && test c) (take l.place l.campaigns);
  len : vec_len l.names ≡ sum_by (λ c. length (vehicles_named c)) (take l.place l.campaigns);
  room : sum_by (λ c. length (vehicles_named c)) l.campaigns ≤ vec_capacity l.names;
}
