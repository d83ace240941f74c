use Rattle.up_store.proofs.Common.{handed_on}
use Rattle.up_store.proofs.LineSays.{key_says}
use Rattle.up_store.proofs.keys.KeyReadingRowReading.read.Goals as goal

pub returns-in_err-number_at-clause-fault : goal.returns-in_err-number_at-clause-fault
returns-in_err-number_at-clause-fault c = handed_on c.from_residual.result c.in_err-number_at.field-0.0 _ c.from_residual.ensures.1 (λ is y fit same. c.in_err-number_at.ensures.fault.1 y.root (key_says c.args.row.now y fit same).root)

pub returns-in_err-number_at-clause-damaged : goal.returns-in_err-number_at-clause-damaged
returns-in_err-number_at-clause-damaged c = handed_on c.from_residual.result c.in_err-number_at.field-0.0 _ c.from_residual.ensures.1 (λ is y fit says. c.in_err-number_at.ensures.fault.1 y.root says.root)

pub returns-in_err-number_at-2-clause-fault : goal.returns-in_err-number_at-2-clause-fault
returns-in_err-number_at-2-clause-fault c = handed_on c.from_residual-in_err-number_at-2.result c.in_err-number_at-2.field-0.0 _ c.from_residual-in_err-number_at-2.ensures.1 (λ is y fit same. c.in_err-number_at-2.ensures.fault.1 y.place (key_says c.args.row.now y fit same).place)

pub returns-in_err-number_at-2-clause-damaged : goal.returns-in_err-number_at-2-clause-damaged
returns-in_err-number_at-2-clause-damaged c = handed_on c.from_residual-in_err-number_at-2.result c.in_err-number_at-2.field-0.0 _ c.from_residual-in_err-number_at-2.ensures.1 (λ is y fit says. c.in_err-number_at-2.ensures.fault.1 y.place says.place)

pub returns-in_err-number_at-3-clause-fault : goal.returns-in_err-number_at-3-clause-fault
returns-in_err-number_at-3-clause-fault c = handed_on c.from_residual-in_err-number_at-3.result c.in_err-number_at-3.field-0.0 _ c.from_residual-in_err-number_at-3.ensures.1 (λ is y fit same. c.in_err-number_at-3.ensures.fault.1 y.threshold (key_says c.args.row.now y fit same).threshold)

pub returns-in_err-number_at-3-clause-damaged : goal.returns-in_err-number_at-3-clause-damaged
returns-in_err-number_at-3-clause-damaged c = handed_on c.from_residual-in_err-number_at-3.result c.in_err-number_at-3.field-0.0 _ c.from_residual-in_err-number_at-3.ensures.1 (λ is y fit says. c.in_err-number_at-3.ensures.fault.1 y.threshold says.threshold)

pub returns-in_err-words_at-clause-fault : goal.returns-in_err-words_at-clause-fault
returns-in_err-words_at-clause-fault c = handed_on c.from_residual-in_err-words_at.result c.in_err-words_at.field-0.0 _ c.from_residual-in_err-words_at.ensures.1 (λ is y fit same. c.in_err-words_at.ensures.fault is y.repository fit.repository (key_says c.args.row.now y fit same).repository.0)

pub returns-in_err-words_at-clause-damaged : goal.returns-in_err-words_at-clause-damaged
returns-in_err-words_at-clause-damaged c = handed_on c.from_residual-in_err-words_at.result c.in_err-words_at.field-0.0 _ c.from_residual-in_err-words_at.ensures.1 (λ is y fit says. c.in_err-words_at.ensures.fault is y.repository fit.repository says.repository.0)

pub returns-in_err-words_at-2-clause-fault : goal.returns-in_err-words_at-2-clause-fault
returns-in_err-words_at-2-clause-fault c = handed_on c.from_residual-in_err-words_at-2.result c.in_err-words_at-2.field-0.0 _ c.from_residual-in_err-words_at-2.ensures.1 (λ is y fit same. c.in_err-words_at-2.ensures.fault is y.role fit.role (key_says c.args.row.now y fit same).role.0)

pub returns-in_err-words_at-2-clause-damaged : goal.returns-in_err-words_at-2-clause-damaged
returns-in_err-words_at-2-clause-damaged c = handed_on c.from_residual-in_err-words_at-2.result c.in_err-words_at-2.field-0.0 _ c.from_residual-in_err-words_at-2.ensures.1 (λ is y fit says. c.in_err-words_at-2.ensures.fault is y.role fit.role says.role.0)

pub returns-in_err-bytes_at-clause-fault : goal.returns-in_err-bytes_at-clause-fault
returns-in_err-bytes_at-clause-fault c = handed_on c.from_residual-in_err-bytes_at.result c.in_err-bytes_at.field-0.0 _ c.from_residual-in_err-bytes_at.ensures.1 (λ is y fit same. c.in_err-bytes_at.ensures.fault is y.secret (key_says c.args.row.now y fit same).secret)

pub returns-in_err-bytes_at-clause-damaged : goal.returns-in_err-bytes_at-clause-damaged
returns-in_err-bytes_at-clause-damaged c = handed_on c.from_residual-in_err-bytes_at.result c.in_err-bytes_at.field-0.0 _ c.from_residual-in_err-bytes_at.ensures.1 (λ is y fit says. c.in_err-bytes_at.ensures.fault is y.secret says.secret)
