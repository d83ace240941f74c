use Rattle.up_store.proofs.Common.{handed_on}
use Rattle.up_store.proofs.LineSays.{file_says}
use Rattle.up_store.proofs.files.FileReadingRowReading.read.Goals as goal

pub returns-in_err-words_at-clause-fault : goal.returns-in_err-words_at-clause-fault
returns-in_err-words_at-clause-fault c = handed_on c.from_residual.result c.in_err-words_at.field-0.0 _ c.from_residual.ensures.1 (λ is y fit same. c.in_err-words_at.ensures.fault is y.repository fit.repository (file_says c.args.row.now y fit same).repository.0)

pub returns-in_err-words_at-clause-damaged : goal.returns-in_err-words_at-clause-damaged
returns-in_err-words_at-clause-damaged c = handed_on c.from_residual.result c.in_err-words_at.field-0.0 _ c.from_residual.ensures.1 (λ is y fit says. c.in_err-words_at.ensures.fault is y.repository fit.repository says.repository.0)

pub returns-in_err-words_at-2-clause-fault : goal.returns-in_err-words_at-2-clause-fault
returns-in_err-words_at-2-clause-fault c = handed_on c.from_residual-in_err-words_at-2.result c.in_err-words_at-2.field-0.0 _ c.from_residual-in_err-words_at-2.ensures.1 (λ is y fit same. c.in_err-words_at-2.ensures.fault is y.name fit.name (file_says c.args.row.now y fit same).name.0)

pub returns-in_err-words_at-2-clause-damaged : goal.returns-in_err-words_at-2-clause-damaged
returns-in_err-words_at-2-clause-damaged c = handed_on c.from_residual-in_err-words_at-2.result c.in_err-words_at-2.field-0.0 _ c.from_residual-in_err-words_at-2.ensures.1 (λ is y fit says. c.in_err-words_at-2.ensures.fault is y.name fit.name says.name.0)

pub returns-in_err-words_at-3-clause-fault : goal.returns-in_err-words_at-3-clause-fault
returns-in_err-words_at-3-clause-fault c = handed_on c.from_residual-in_err-words_at-3.result c.in_err-words_at-3.field-0.0 _ c.from_residual-in_err-words_at-3.ensures.1 (λ is y fit same. c.in_err-words_at-3.ensures.fault is y.body fit.body (file_says c.args.row.now y fit same).body.0)

pub returns-in_err-words_at-3-clause-damaged : goal.returns-in_err-words_at-3-clause-damaged
returns-in_err-words_at-3-clause-damaged c = handed_on c.from_residual-in_err-words_at-3.result c.in_err-words_at-3.field-0.0 _ c.from_residual-in_err-words_at-3.ensures.1 (λ is y fit says. c.in_err-words_at-3.ensures.fault is y.body fit.body says.body.0)
