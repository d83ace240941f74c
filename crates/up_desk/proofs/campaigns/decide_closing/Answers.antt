use Rattle.std.proofs.Common.{◌∙◌, ℕ, subst}
use Rattle.std.specs.Prelude.{⊤}
use Rattle.up_machine.specs.Decisions.{GivesClosed}
use Rattle.up_machine.specs.Inventory.{decide_close}
use Rattle.up_records.proofs.NeverStore.{never_close}
use Rattle.up_records.proofs.Sessions.{decides_on, fails_on, none_on, rows_on, then_on}
use Rattle.up_desk.proofs.campaigns.decide_closing.Goals as goal

pub returns : goal.returns
returns g c k inside =
    let G = g.D.Store in
    decides_on G (then_on G (then_on G (none_on G {rules = λ _. ⊤} inside) (rows_on G _ (λ j s x is. is) c.in-Ok.ensures)) (rows_on G _ (λ j s x is. is) c.in-Ok-find_campaign.ensures)) k tt c.decide_close.result (λ s. never_close s c.args.at c.args.name.now) (λ s r h. h)
    (λ s sound _ found. subst (λ (at : ℕ). GivesClosed s c.args.name.now c.decide_close.result (decide_close s at c.args.name.now)) c.moment.ensures.value (c.decide_close.ensures.decided s found.0.1 (c.as_ref.ensures.value ∙ found.1)))

pub returns-in-Err : goal.returns-in-Err
returns-in-Err g c k inside = let G = g.D.Store in fails_on G (none_on G {rules = λ _. ⊤} inside) k tt c.refusal_of.ensures (rows_on G _ (λ j s x is. is) c.in-Err.ensures)

pub returns-in-Err-find_campaign : goal.returns-in-Err-find_campaign
returns-in-Err-find_campaign g c k inside =
    let G = g.D.Store in
    fails_on G (then_on G (none_on G {rules = λ _. ⊤} inside) (rows_on G _ (λ j s x is. is) c.in-Ok.ensures)) k tt c.refusal_of-in-Err-find_campaign.ensures (rows_on G _ (λ j s x is. is) c.in-Err-find_campaign.ensures)
