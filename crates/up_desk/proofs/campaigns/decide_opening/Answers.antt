use Rattle.std.proofs.Common.{◌≡◌, ℕ, subst, ◌∙◌}
use Rattle.up_plan.specs.Campaigns.{CampaignData}
use Rattle.up_machine.specs.Decisions.{GivesDecision}
use Rattle.up_machine.specs.Inventory.{decide_open, with_campaign}
use Rattle.up_records.proofs.NeverStore.{never_open}
use Rattle.up_records.proofs.Sessions.{decides_on, fails_on, none_on, then_on}
use Rattle.up_desk.proofs.LookedUp.{images_known}
use Rattle.up_desk.proofs.campaigns.decide_opening.Goals as goal

pub returns-in-Ok : goal.returns-in-Ok
returns-in-Ok g c k inside =
    decides_on g.D.Store (then_on g.D.Store (none_on g.D.Store inside) c.in-Ok.ensures) k tt c.decide_open.result (λ s. never_open s c.args.at c.args.campaign.now) (λ s r h. h) (λ s sound _ found.
    let rows = found.1 in
    subst (λ (at : ℕ). GivesDecision (λ (r : CampaignData). r ≡ c.args.campaign.now) s (with_campaign s c.args.campaign.now) c.decide_open.result (decide_open s at c.args.campaign.now)) c.moment.ensures.value
    (c.decide_open.ensures.decided s rows.founded (c.as_ref.ensures.value ∙ rows.old) (record {
      of_vehicles = c.as_slice.ensures.value ∙ rows.known;
      of_images = images_known s.images _ c.args.campaign.now.items rows.images;
    })))

pub returns-in-Err : goal.returns-in-Err
returns-in-Err g c k inside = fails_on g.D.Store (none_on g.D.Store inside) k tt c.refusal_of.ensures c.in-Err.ensures
