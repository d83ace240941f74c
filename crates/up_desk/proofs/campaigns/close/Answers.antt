use Rattle.std.proofs.Common.{refl}
use Rattle.std.specs.Prelude.{⊤}
use Rattle.up_machine.specs.declared.answer.Answer.TheVariants.{Already, Done}
use Rattle.up_machine.specs.Inventory.{decide_close, with_campaign}
use Rattle.up_rows.specs.Changes.{with_campaign_row}
use Rattle.up_store.specs.Fitting.{IsClosing}
use Rattle.up_store.specs.Writes.{close_writes}
use Rattle.up_store.proofs.Ended.{of_put}
use Rattle.up_records.proofs.Fitting.{closing_fits}
use Rattle.up_desk.proofs.Carrying.{put_on, refused_on, unchanged_on}
use Rattle.up_desk.proofs.Decided.{when_closed, when_closing}
use Rattle.up_desk.proofs.campaigns.close.Goals as goal

pub returns-in-Ok-Already : goal.returns-in-Ok-Already
returns-in-Ok-Already g c k inside =
    unchanged_on g.D.Store k c.args.catalog.now Already (c.in-Ok-Already.ensures k inside) refl (λ s commit. commit)
    (λ s gives. when_closed s c.args.name.now c.in-Ok-Already.field-0 _ c.in-Ok-Already.field-0-is gives)

pub returns-in-Ok-New : goal.returns-in-Ok-New
returns-in-Ok-New g c k inside =
    let row = c.in-Ok-New.row in
    put_on g.D.Store k c.args.catalog.now (close_writes row) (λ _. ⊤) (IsClosing row) (λ rows. with_campaign_row rows row) Done (c.in-Ok-New.ensures k inside) refl c.forget.ensures
    (λ s sound gives.
    let it = when_closing s c.args.name.now c.in-Ok-New.field-0 row (decide_close s c.args.at c.args.name.now) c.in-Ok-New.field-0-is gives in
    record { next = with_campaign s row; computed_is = it.decided; commit = tt; write = closing_fits k s c.args.name.now row it.was sound c.campaigns_are_written.ensures.campaigns it.there it.is })
    c.put_closed.result c.put_of.ensures inside (λ within. of_put g.D.Store (c.put_closed.ensures within)) (λ rows lists fits. tt)

pub returns-in-Err : goal.returns-in-Err
returns-in-Err g c k inside = refused_on g.D.Store k c.args.catalog.now (c.in-Err.ensures k inside)
