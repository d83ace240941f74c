use Rattle.std.proofs.Common.{◌+◌, refl}
use Rattle.up_machine.specs.declared.answer.Answer.TheVariants.{Already, Done}
use Rattle.up_machine.specs.Decisions.{HasRegisterRows}
use Rattle.up_machine.specs.Repositories.{decide_image, stamped, with_image}
use Rattle.up_rows.specs.Changes.{with_image_rows}
use Rattle.up_store.specs.Fitting.{IsNewImage}
use Rattle.up_store.specs.Writes.{FitsFounding, image_writes}
use Rattle.up_store.proofs.Ended.{of_made}
use Rattle.up_records.proofs.Fitting.{image_fits}
use Rattle.up_desk.proofs.Carrying.{put_on, refused_on, unchanged_on}
use Rattle.up_desk.proofs.Decided.{when_already, when_new}
use Rattle.up_desk.proofs.register.add_image.Goals as goal

pub returns-in-Ok-Already : goal.returns-in-Ok-Already
returns-in-Ok-Already g c inside =
    let k = g.K.Scheme.rules c.args.scheme.now in
    unchanged_on g.D.Store k c.args.catalog.now Already (c.in-Ok-Already.ensures inside) refl (λ s commit. commit)
    (λ s gives.
    let next = stamped k (with_image s c.args.image.now) c.args.at (s.image_version + 1) in
    when_already (HasRegisterRows next) s next c.in-Ok-Already.field-0 _ c.in-Ok-Already.field-0-is gives)

pub returns-in-Ok-New : goal.returns-in-Ok-New
returns-in-Ok-New g c inside =
    let k = g.K.Scheme.rules c.args.scheme.now in
    let image = c.args.image.now in
    let rows = c.in-Ok-New.rows in
    put_on g.D.Store k c.args.catalog.now (image_writes image rows) (λ _. FitsFounding rows.founding) (IsNewImage image rows) (λ all. with_image_rows all image rows) Done (c.in-Ok-New.ensures inside) refl c.forget.ensures
    (λ s sound gives.
    let next = stamped k (with_image s image) c.args.at (s.image_version + 1) in
    let it = when_new (HasRegisterRows next) s next c.in-Ok-New.field-0 rows (decide_image k s c.args.at image) c.in-Ok-New.field-0-is gives in
    record { next = next; computed_is = it.0; commit = tt; write = image_fits k s c.args.at image rows sound c.images_are_added.ensures.images c.images_are_added.ensures.new it })
    c.put_image.result c.put_of.ensures inside (λ within. of_made g.D.Store (c.put_image.ensures within)) (λ all lists fits. fits)

pub returns-in-Err : goal.returns-in-Err
returns-in-Err g c inside = refused_on g.D.Store (g.K.Scheme.rules c.args.scheme.now) c.args.catalog.now (c.in-Err.ensures inside)
