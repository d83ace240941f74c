use Rattle.std.proofs.Common.{ap, ap₂, ◌∙◌}
use Rattle.std.specs.FinMap as table
use Rattle.up_store.proofs.Common.{ImageData}
use Rattle.up_store.proofs.MemoryAlone.{memory_on}
use Rattle.up_store.proofs.image_rows.add_image.Goals as goal

pub returns-clause-same : goal.returns-clause-same
returns-clause-same c = λ file image typed is told.
    let second = c.hash_named-sha512.ensures ∙ ap (table.get c.args.hashes.now) (c.text.ensures.value ∙ is.file) ∙ told in
    let same = c.in_ok-image.ensures.same file image typed is second in
    c.in_ok-insert.ensures.ok ∙ ap₂ (λ name x. table.insert c.args.images.now name x) (c.in_ok-name.ensures ∙ c.text-2.ensures.value ∙ ap (λ (i : ImageData). i.file) (c.image.view_is ∙ same)) same

pub returns-in_err-image-clause-fault : goal.returns-in_err-image-clause-fault
returns-in_err-image-clause-fault c = λ file image typed is. memory_on c.from_residual.result c.in_err-image.field-0.0 c.from_residual.ensures.1 (c.in_err-image.ensures.fault file image typed is)
