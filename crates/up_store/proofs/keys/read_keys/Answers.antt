use Rattle.up_store.proofs.MemoryAlone.{memory_on}
use Rattle.up_store.proofs.keys.read_keys.Goals as goal

pub returns-in_err-read_repository-clause-fault : goal.returns-in_err-read_repository-clause-fault
returns-in_err-read_repository-clause-fault c = λ keys director image well fits. memory_on c.from_residual.result c.in_err-read_repository.field-0.0 c.from_residual.ensures.1 (c.in_err-read_repository.ensures.fault keys.director director well)

pub returns-in_err-read_repository-2-clause-fault : goal.returns-in_err-read_repository-2-clause-fault
returns-in_err-read_repository-2-clause-fault c = λ keys director image well fits. memory_on c.from_residual-in_err-read_repository-2.result c.in_err-read_repository-2.field-0.0 c.from_residual-in_err-read_repository-2.ensures.1 (c.in_err-read_repository-2.ensures.fault keys.image image fits)
