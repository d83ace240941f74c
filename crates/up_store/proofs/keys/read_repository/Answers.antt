use Rattle.up_store.proofs.MemoryAlone.{memory_on}
use Rattle.up_store.proofs.keys.read_repository.Goals as goal

pub returns-in_err-read_role-clause-fault : goal.returns-in_err-read_role-clause-fault
returns-in_err-read_role-clause-fault c = λ keys are valid. memory_on c.from_residual.result c.in_err-read_role.field-0.0 c.from_residual.ensures.1 (c.in_err-read_role.ensures.fault keys.root are.root valid.root)

pub returns-in_err-read_role-2-clause-fault : goal.returns-in_err-read_role-2-clause-fault
returns-in_err-read_role-2-clause-fault c = λ keys are valid. memory_on c.from_residual-in_err-read_role-2.result c.in_err-read_role-2.field-0.0 c.from_residual-in_err-read_role-2.ensures.1 (c.in_err-read_role-2.ensures.fault keys.targets are.targets valid.targets)

pub returns-in_err-read_role-3-clause-fault : goal.returns-in_err-read_role-3-clause-fault
returns-in_err-read_role-3-clause-fault c = λ keys are valid. memory_on c.from_residual-in_err-read_role-3.result c.in_err-read_role-3.field-0.0 c.from_residual-in_err-read_role-3.ensures.1 (c.in_err-read_role-3.ensures.fault keys.snapshot are.snapshot valid.snapshot)

pub returns-in_err-read_role-4-clause-fault : goal.returns-in_err-read_role-4-clause-fault
returns-in_err-read_role-4-clause-fault c = λ keys are valid. memory_on c.from_residual-in_err-read_role-4.result c.in_err-read_role-4.field-0.0 c.from_residual-in_err-read_role-4.ensures.1 (c.in_err-read_role-4.ensures.fault keys.timestamp are.timestamp valid.timestamp)
