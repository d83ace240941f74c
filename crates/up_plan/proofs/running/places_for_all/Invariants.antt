use Rattle.std.proofs.Common.{◌≡◌, ◌≤◌, ◌&&◌, Bool, take, vec_len}
use Rattle.std.specs.Prelude.{count_by, vec_capacity}
use Rattle.std.specs.List.{list_any}
use Rattle.up_plan.specs.Campaigns.{CampaignData}
use Rattle.up_plan.specs.Running.{passes_at, reaches_all}
use Rattle.up_plan.proofs.running.places_for_all.Given as goal

-- the places so far are there, and there is room for all
abbrev pub invariant-loop-place : goal.invariant-loop-place
invariant-loop-place l = record {
  found : (test : CampaignData → Bool) → list_any (passes_at l.campaigns test) l.places.items ≡ list_any (λ c. reaches_all c && test c) (take l.place l.campaigns);
  len : vec_len l.places ≡ count_by reaches_all (take l.place l.campaigns);
  room : count_by reaches_all l.campaigns ≤ vec_capacity l.places;
}
