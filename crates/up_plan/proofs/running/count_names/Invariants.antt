use Rattle.std.proofs.Common.{◌≡◌, ◌^◌, ◌<◌, length, take}
use Rattle.std.specs.List.{sum_by}
use Rattle.up_plan.specs.Named.{vehicles_named}
use Rattle.up_plan.proofs.running.count_names.Given as goal

abbrev pub invariant-loop-campaign : goal.invariant-loop-campaign
invariant-loop-campaign l = record {
  sum : l.count ≡ sum_by (λ c. length (vehicles_named c)) (take l.campaign-index l.campaigns);
  fits : l.count < 2 ^ 64;
}
