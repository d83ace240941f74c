use Rattle.std.proofs.Common.{Err, ◌∙◌}
use Rattle.up_store.proofs.MemoryAlone.{memory_on, of_column}
use Rattle.up_store.proofs.image_rows.read_lists.Goals as goal

pub returns-in_err-hardware-clause-fault : goal.returns-in_err-hardware-clause-fault
returns-in_err-hardware-clause-fault c = λ file image typed is.
    memory_on c.from_residual.result c.in_err-hardware.field-0.0 c.from_residual.ensures.1
    (of_column c.read_names.result (Err c.in_err-hardware.field-0.0) image.hardware (c.read_names.ensures.again image.hardware typed.hardware (c.as_str.ensures ∙ is.hardware)) c.in_err-hardware.ensures.went c.in_err-hardware.ensures.fault)

pub returns-in_err-needs-clause-fault : goal.returns-in_err-needs-clause-fault
returns-in_err-needs-clause-fault c = λ file image typed is.
    memory_on c.from_residual-in_err-needs.result c.in_err-needs.field-0.0 c.from_residual-in_err-needs.ensures.1
    (of_column c.read_needs.result (Err c.in_err-needs.field-0.0) image.needs (c.read_needs.ensures.again image.needs typed.needs (c.as_str-2.ensures ∙ is.needs)) c.in_err-needs.ensures.went c.in_err-needs.ensures.fault)

pub returns-in_err-conflicts-clause-fault : goal.returns-in_err-conflicts-clause-fault
returns-in_err-conflicts-clause-fault c = λ file image typed is.
    memory_on c.from_residual-in_err-conflicts.result c.in_err-conflicts.field-0.0 c.from_residual-in_err-conflicts.ensures.1
    (of_column c.read_file_names.result (Err c.in_err-conflicts.field-0.0) image.conflicts (c.read_file_names.ensures.again image.conflicts typed.conflicts (c.as_str-3.ensures ∙ is.conflicts)) c.in_err-conflicts.ensures.went c.in_err-conflicts.ensures.fault)
