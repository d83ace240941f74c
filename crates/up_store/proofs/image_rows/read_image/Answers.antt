use Rattle.std.proofs.Common.{◌≡◌, true, false, refl, sym, ap, ◌∙◌}
use Rattle.up_store.proofs.Common.{image_fits, ok_then}
use Rattle.up_store.proofs.ColumnReads.{same_image}
use Rattle.up_store.proofs.MemoryAlone.{memory_on, fits_alone}
use Rattle.up_store.proofs.image_rows.read_image.Goals as goal

pub returns-clause-same : goal.returns-clause-same
returns-clause-same c = ok_then _ _ c.image_of.result
    (λ read made file image typed is second.
    let lists = c.in_ok-lists.ensures.same file image typed is in
    made ∙ same_image image _ _ _ _ _ _ _ _ is.file is.length is.sha256 second
    lists.0 is.release lists.1 lists.2)
    c.image_of.ensures.ok

pub returns-in_err-lists-clause-fault : goal.returns-in_err-lists-clause-fault
returns-in_err-lists-clause-fault c = λ file image typed is.
    memory_on c.from_residual.result c.in_err-lists.field-0.0 c.from_residual.ensures.1 (c.in_err-lists.ensures.fault file image typed is)

pub returns-clause-fault : goal.returns-clause-fault
returns-clause-fault c = λ file image typed is.
    let lists = c.in_ok-lists.ensures.same file image typed is in
    let same = same_image (record image { sha512 = c.args.sha512 }) _ _ _ _ _ _ _ _ is.file is.length is.sha256 refl
    lists.0 is.release lists.1 lists.2 in
    fits_alone _ c.image_of.result c.image_of.ensures.fault (λ bad. let e : true ≡ false = sym typed.fits ∙ (sym (ap image_fits same) ∙ bad) in cc)
