use Rattle.std.proofs.Common.{refl}
use Rattle.up_machine.specs.declared.answer.Answer.TheVariants.{Done}
use Rattle.up_machine.specs.Repositories.{stamped, with_root}
use Rattle.up_rows.specs.Changes.{with_root_rows}
use Rattle.up_store.specs.Fitting.{IsNextRoot}
use Rattle.up_store.specs.Writes.{FitsFounding, root_writes}
use Rattle.up_store.proofs.Ended.{of_made}
use Rattle.up_records.proofs.Fitting.{founding_fits}
use Rattle.up_desk.proofs.Carrying.{put_on, refused_on}
use Rattle.up_desk.proofs.roots.found.Goals as goal

pub returns-in-Ok : goal.returns-in-Ok
returns-in-Ok g c inside =
    let k = g.K.Scheme.rules c.args.scheme.now in
    let keys = c.args.keys.now in
    let rows = c.in-Ok.rows in
    put_on g.D.Store k c.args.catalog.now (root_writes rows) (λ _. FitsFounding rows.founding) (IsNextRoot rows) (λ all. with_root_rows all rows) Done (c.in-Ok.ensures inside) refl c.forget.ensures
    (λ s sound gives. record {
      next = stamped k (with_root k s c.args.at keys) c.args.at 1;
      computed_is = gives.0;
      commit = tt;
      write = founding_fits k s c.args.at keys rows sound c.roots_are_added.ensures gives;
    })
    c.put_root.result c.put_of.ensures inside (λ within. of_made g.D.Store (c.put_root.ensures within)) (λ all lists fits. fits)

pub returns-in-Err : goal.returns-in-Err
returns-in-Err g c inside = refused_on g.D.Store (g.K.Scheme.rules c.args.scheme.now) c.args.catalog.now (c.in-Err.ensures inside)
