use Rattle.std.proofs.Common.{refl}
use Rattle.up_machine.specs.declared.answer.Answer.TheVariants.{Done}
use Rattle.up_machine.specs.Repositories.{stamped}
use Rattle.up_rows.specs.Changes.{with_register_rows}
use Rattle.up_store.specs.Fitting.{IsSameRoot}
use Rattle.up_store.specs.Writes.{FitsFounding, register_writes}
use Rattle.up_store.proofs.Ended.{of_put}
use Rattle.up_records.proofs.Fitting.{refreshing_fits}
use Rattle.up_desk.proofs.Carrying.{put_on, refused_on}
use Rattle.up_desk.proofs.register.refresh.Goals as goal

pub returns-in-Ok : goal.returns-in-Ok
returns-in-Ok g c inside =
    let k = g.K.Scheme.rules c.args.scheme.now in
    let rows = c.in-Ok.rows in
    put_on g.D.Store k c.args.catalog.now (register_writes rows) (λ _. FitsFounding rows.founding) (IsSameRoot rows) (λ all. with_register_rows all rows) Done (c.in-Ok.ensures inside) refl c.forget.ensures
    (λ s sound gives. record {
      next = stamped k s c.args.at c.args.version;
      computed_is = gives.0;
      commit = tt;
      write = refreshing_fits k s c.args.at c.args.version rows sound c.images_are_added.ensures.files gives;
    })
    c.put_register.result c.put_of.ensures inside (λ within. of_put g.D.Store (c.put_register.ensures within)) (λ all lists fits. fits)

pub returns-in-Err : goal.returns-in-Err
returns-in-Err g c inside = refused_on g.D.Store (g.K.Scheme.rules c.args.scheme.now) c.args.catalog.now (c.in-Err.ensures inside)
