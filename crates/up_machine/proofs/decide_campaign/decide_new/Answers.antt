use Rattle.std.proofs.Common.{sym, ◌∙◌}
use Rattle.up_machine.specs.Inventory.{with_campaign, decide_new_campaign}
use Rattle.up_machine.proofs.OpenedCampaigns.{checked_rows, checks_outright}
use Rattle.up_machine.proofs.Passing.{surely, decision_refused}
use Rattle.up_canon.proofs.Steps.{bind-ok, bind-err}
use Rattle.up_machine.proofs.decide_campaign.decide_new.Goals as goal

pub returns-in_err-check_new-clause-decided : goal.returns-in_err-check_new-clause-decided
returns-in_err-check_new-clause-decided c = λ s knows.
    decision_refused _ s (with_campaign s c.args.campaign.now) c.from_residual.result c.in_err-check_new.field-0.0 (decide_new_campaign s c.args.campaign.now) c.from_residual.ensures.1
    (surely (decide_new_campaign s c.args.campaign.now) c.in_err-check_new.field-0.0
    (checked_rows s c.args.campaign.now c.args.known.now c.args.images.now knows ∙ bind-err _ _ _ (sym c.in_err-check_new.ensures)))

pub returns-clause-decided : goal.returns-clause-decided
returns-clause-decided c = λ s knows.
    (checked_rows s c.args.campaign.now c.args.known.now c.args.images.now knows ∙ bind-ok _ _ _ (sym c.in_ok-check_new.ensures), c.in_ok-copy.ensures)

pub returns-in_err-check_new-clause-memory : goal.returns-in_err-check_new-clause-memory
returns-in_err-check_new-clause-memory c = λ memory.
    checks_outright c.from_residual.result c.in_err-check_new.field-0.0 c.args.campaign.now c.args.known.now c.args.images.now c.from_residual.ensures.1 memory (sym c.in_err-check_new.ensures)
