use Rattle.std.proofs.Common.{◌≡◌, refl, subst, sym}
use Rattle.up_machine.specs.declared.answer.Answer.TheVariants.{Already, Done}
use Rattle.up_machine.specs.Inventory.{decide_open, with_campaign}
use Rattle.up_plan.specs.Campaigns.{CampaignData}
use Rattle.up_rows.specs.Changes.{with_campaign_row}
use Rattle.up_store.specs.Fitting.{IsNewCampaign}
use Rattle.up_store.specs.Writes.{campaign_writes}
use Rattle.up_store.proofs.Ended.{of_made}
use Rattle.up_records.proofs.Fitting.{opening_fits}
use Rattle.up_desk.proofs.Carrying.{put_on, refused_on, unchanged_on}
use Rattle.up_desk.proofs.Decided.{when_already, when_new}
use Rattle.up_desk.proofs.campaigns.open.Goals as goal

pub returns-in-Ok-Already : goal.returns-in-Ok-Already
returns-in-Ok-Already g c k inside =
    unchanged_on g.D.Store k c.args.catalog.now Already (c.in-Ok-Already.ensures k inside) refl (λ s commit. commit)
    (λ s gives. when_already (λ (r : CampaignData). r ≡ c.args.campaign.now) s (with_campaign s c.args.campaign.now) c.in-Ok-Already.field-0 _ c.in-Ok-Already.field-0-is gives)

pub returns-in-Ok-New : goal.returns-in-Ok-New
returns-in-Ok-New g c k inside =
    let campaign = c.args.campaign.now in
    let row = c.in-Ok-New.row in
    put_on g.D.Store k c.args.catalog.now (campaign_writes row) (λ _. Rattle.std.specs.Prelude.⊤) (IsNewCampaign row) (λ rows. with_campaign_row rows row) Done (c.in-Ok-New.ensures k inside) refl c.forget.ensures
    (λ s sound gives.
    let new = when_new (λ (r : CampaignData). r ≡ campaign) s (with_campaign s campaign) c.in-Ok-New.field-0 row (decide_open s c.args.at campaign) c.in-Ok-New.field-0-is gives in
    record {
      next = with_campaign s row;
      computed_is = subst (λ (r : CampaignData). decide_open s c.args.at campaign ≡ Rattle.std.proofs.Common.Ok (Rattle.up_machine.specs.Deciding.done (with_campaign s r))) (sym new.1) new.0;
      commit = tt;
      write = opening_fits k s c.args.at row c.campaigns_are_written.ensures.campaigns c.campaigns_are_written.ensures.new
          (subst (λ (r : CampaignData). decide_open s c.args.at r ≡ Rattle.std.proofs.Common.Ok (Rattle.up_machine.specs.Deciding.done (with_campaign s r))) (sym new.1) new.0);
    })
    c.put_campaign.result c.put_of.ensures inside (λ within. of_made g.D.Store (c.put_campaign.ensures within)) (λ rows lists fits. tt)

pub returns-in-Err : goal.returns-in-Err
returns-in-Err g c k inside = refused_on g.D.Store k c.args.catalog.now (c.in-Err.ensures k inside)
