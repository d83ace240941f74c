use Rattle.std.proofs.Common.{refl}
use Rattle.std.specs.Prelude.{⊤}
use Rattle.up_machine.specs.declared.answer.Answer.TheVariants.{Done}
use Rattle.up_machine.specs.Inventory.{with_replacement}
use Rattle.up_rows.specs.Changes.{with_replaced_rows}
use Rattle.up_store.specs.Fitting.{IsReplacement}
use Rattle.up_store.specs.Writes.{replace_writes}
use Rattle.up_store.proofs.Ended.{of_put}
use Rattle.up_records.proofs.Fitting.{replacement_fits}
use Rattle.up_desk.proofs.Carrying.{put_on, refused_on}
use Rattle.up_desk.proofs.replacements.replace_ecu.Goals as goal

pub returns-in-Ok : goal.returns-in-Ok
returns-in-Ok g c inside =
    let k = g.K.Scheme.rules c.args.scheme.now in
    let new = c.args.new.now in
    put_on g.D.Store k c.args.catalog.now (replace_writes new) (λ _. ⊤) (IsReplacement new) (λ rows. with_replaced_rows rows new) Done (c.in-Ok.ensures inside) refl c.forget.ensures
    (λ s sound gives. record {
      next = with_replacement s new gives.0;
      computed_is = gives.2;
      commit = tt;
      write = replacement_fits k s c.args.at new gives.0 sound c.rows_are_found.ensures.vehicles c.ecus_are_replaced.ensures.replaced c.ecus_are_replaced.ensures.fits gives.1 gives.2;
    })
    c.put_replaced.result c.put_of.ensures inside (λ within. of_put g.D.Store (c.put_replaced.ensures within)) (λ rows lists fits. tt)

pub returns-in-Err : goal.returns-in-Err
returns-in-Err g c inside = refused_on g.D.Store (g.K.Scheme.rules c.args.scheme.now) c.args.catalog.now (c.in-Err.ensures inside)
