use Rattle.std.proofs.Common.{ap, arith}
use Rattle.up_store.proofs.Common.{MetaRow}
use Rattle.up_store.proofs.MemoryAlone.{memory_on}
use Rattle.up_store.proofs.roots.read_founding.Goals as goal

pub returns-in_err-read_keys-clause-fault : goal.returns-in_err-read_keys-clause-fault
returns-in_err-read_keys-clause-fault c = λ told is valid.
    memory_on c.from_residual-in_err-read_keys.result c.in_err-read_keys.field-0.0 c.from_residual-in_err-read_keys.ensures.1 (c.in_err-read_keys.ensures.fault is.founding.keys is.director is.image valid.director valid.image)

pub returns-in_err-moment_in-clause-fault : goal.returns-in_err-moment_in-clause-fault
returns-in_err-moment_in-clause-fault c = λ told is valid. absurd (omega (arith, c.in_err-moment_in.ensures.fault.1, ap (λ (m : MetaRow). m.stamp) is.numbers, valid.stamp))
