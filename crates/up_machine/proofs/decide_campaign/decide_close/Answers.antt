use Rattle.std.proofs.Common.{sym, ap, ◌∙◌}
use Rattle.std.specs.Prelude.{option_copied}
use Rattle.up_plan.specs.Campaigns.{CampaignData}
use Rattle.up_machine.proofs.decide_campaign.decide_close.Goals as goal

pub returns-in_err-closed-clause-memory : goal.returns-in_err-closed-clause-memory
returns-in_err-closed-clause-memory c = λ memory.
    let running = ap (λ (x : CampaignData). x.running) (sym c.campaign.view_is) ∙ c.if-not-campaign.false in
    (c.in_ok-check_founded.ensures.ok, (c.in-Some.campaign.now, ap option_copied c.in-Some.is, running))
