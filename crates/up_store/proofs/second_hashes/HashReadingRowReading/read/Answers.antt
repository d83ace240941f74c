use Rattle.up_store.proofs.Common.{handed_on}
use Rattle.up_store.proofs.LineSays.{hash_says}
use Rattle.up_store.proofs.second_hashes.HashReadingRowReading.read.Goals as goal

pub returns-in_err-words_at-clause-fault : goal.returns-in_err-words_at-clause-fault
returns-in_err-words_at-clause-fault c = handed_on c.from_residual.result c.in_err-words_at.field-0.0 _ c.from_residual.ensures.1 (λ is y fit same. c.in_err-words_at.ensures.fault is y.file fit.file (hash_says c.args.row.now y fit same).file.0)

pub returns-in_err-words_at-clause-damaged : goal.returns-in_err-words_at-clause-damaged
returns-in_err-words_at-clause-damaged c = handed_on c.from_residual.result c.in_err-words_at.field-0.0 _ c.from_residual.ensures.1 (λ is y fit says. c.in_err-words_at.ensures.fault is y.file fit.file says.file.0)

pub returns-in_err-sha512_at-clause-fault : goal.returns-in_err-sha512_at-clause-fault
returns-in_err-sha512_at-clause-fault c = handed_on c.from_residual-in_err-sha512_at.result c.in_err-sha512_at.field-0.0 _ c.from_residual-in_err-sha512_at.ensures.1 (λ is y fit same. c.in_err-sha512_at.ensures.fault.1 y.sha512 fit.whole (hash_says c.args.row.now y fit same).sha512)

pub returns-in_err-sha512_at-clause-damaged : goal.returns-in_err-sha512_at-clause-damaged
returns-in_err-sha512_at-clause-damaged c = handed_on c.from_residual-in_err-sha512_at.result c.in_err-sha512_at.field-0.0 _ c.from_residual-in_err-sha512_at.ensures.1 (λ is y fit says. c.in_err-sha512_at.ensures.fault.1 y.sha512 fit.whole says.sha512)
