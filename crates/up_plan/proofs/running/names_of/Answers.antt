use Rattle.std.proofs.Common.{◌≡◌, ℕ, ◌+◌, ◌&&◌, ◌||◌, length, take, sym, ap, ◌∙◌, arith}
use Rattle.std.specs.List.{sum_by}
use Rattle.std.proofs.lemmas.List.Sums.{sum_by_more}
use Rattle.up_plan.specs.Campaigns.{CampaignData}
use Rattle.up_plan.specs.Named.{vehicles_named}
use Rattle.up_plan.specs.Running.{reaches_by_name}
use Rattle.up_plan.proofs.Reaching.{one_more, stands}
use Rattle.up_plan.proofs.running.names_of.Goals as goal

pub loop-place-preserved : goal.loop-place-preserved
loop-place-preserved c =
    let cs = c.args.campaigns.now in
    let d = c.index-campaigns-place.result in
    let i = c.loop-place.place in
    let kept = c.loop-place.invariant in
    let count : CampaignData → ℕ = λ e. length (vehicles_named e) in
    let more : sum_by count (take (i + 1) cs) ≡ sum_by count (take i cs) + count d =
    sum_by_more count cs i d c.loop-place-test.true ∙ ap (λ e. sum_by count (take i cs) + count e) (sym c.index-campaigns-place.is) in
    record {
      found = λ vehicle test.
          c.push_names.ensures.found cs vehicle test (stands cs i d c.loop-place-test.true c.index-campaigns-place.is)
          ∙ ap (λ b. b || (reaches_by_name vehicle d && test d)) (kept.found vehicle test)
          ∙ sym (one_more cs i d c.loop-place-test.true c.index-campaigns-place.is (λ e. reaches_by_name vehicle e && test e));
      len = omega arith;
      room = omega arith;
    }
