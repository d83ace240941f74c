use Rattle.up_store.proofs.Common.{handed_on}
use Rattle.up_store.proofs.LineSays.{image_says}
use Rattle.up_store.proofs.image_rows.ImageReadingRowReading.read.Goals as goal

pub returns-in_err-count_at-clause-fault : goal.returns-in_err-count_at-clause-fault
returns-in_err-count_at-clause-fault c = handed_on c.from_residual.result c.in_err-count_at.field-0.0 _ c.from_residual.ensures.1 (λ is y fit same. c.in_err-count_at.ensures.fault.1 y.length fit.size (image_says c.args.row.now y fit same).length)

pub returns-in_err-count_at-clause-damaged : goal.returns-in_err-count_at-clause-damaged
returns-in_err-count_at-clause-damaged c = handed_on c.from_residual.result c.in_err-count_at.field-0.0 _ c.from_residual.ensures.1 (λ is y fit says. c.in_err-count_at.ensures.fault.1 y.length fit.size says.length)

pub returns-in_err-sha256_at-clause-fault : goal.returns-in_err-sha256_at-clause-fault
returns-in_err-sha256_at-clause-fault c = handed_on c.from_residual-in_err-sha256_at.result c.in_err-sha256_at.field-0.0 _ c.from_residual-in_err-sha256_at.ensures.1 (λ is y fit same. c.in_err-sha256_at.ensures.fault.1 y.sha256 fit.sha256 (image_says c.args.row.now y fit same).sha256)

pub returns-in_err-sha256_at-clause-damaged : goal.returns-in_err-sha256_at-clause-damaged
returns-in_err-sha256_at-clause-damaged c = handed_on c.from_residual-in_err-sha256_at.result c.in_err-sha256_at.field-0.0 _ c.from_residual-in_err-sha256_at.ensures.1 (λ is y fit says. c.in_err-sha256_at.ensures.fault.1 y.sha256 fit.sha256 says.sha256)

pub returns-in_err-count_at-2-clause-fault : goal.returns-in_err-count_at-2-clause-fault
returns-in_err-count_at-2-clause-fault c = handed_on c.from_residual-in_err-count_at-2.result c.in_err-count_at-2.field-0.0 _ c.from_residual-in_err-count_at-2.ensures.1 (λ is y fit same. c.in_err-count_at-2.ensures.fault.1 y.release fit.release (image_says c.args.row.now y fit same).release)

pub returns-in_err-count_at-2-clause-damaged : goal.returns-in_err-count_at-2-clause-damaged
returns-in_err-count_at-2-clause-damaged c = handed_on c.from_residual-in_err-count_at-2.result c.in_err-count_at-2.field-0.0 _ c.from_residual-in_err-count_at-2.ensures.1 (λ is y fit says. c.in_err-count_at-2.ensures.fault.1 y.release fit.release says.release)

pub returns-in_err-file_name_at-clause-fault : goal.returns-in_err-file_name_at-clause-fault
returns-in_err-file_name_at-clause-fault c = handed_on c.from_residual-in_err-file_name_at.result c.in_err-file_name_at.field-0.0 _ c.from_residual-in_err-file_name_at.ensures.1 (λ is y fit same. c.in_err-file_name_at.ensures.fault is y.file fit.file (image_says c.args.row.now y fit same).file.0)

pub returns-in_err-file_name_at-clause-damaged : goal.returns-in_err-file_name_at-clause-damaged
returns-in_err-file_name_at-clause-damaged c = handed_on c.from_residual-in_err-file_name_at.result c.in_err-file_name_at.field-0.0 _ c.from_residual-in_err-file_name_at.ensures.1 (λ is y fit says. c.in_err-file_name_at.ensures.fault is y.file fit.file says.file.0)

pub returns-in_err-words_at-clause-fault : goal.returns-in_err-words_at-clause-fault
returns-in_err-words_at-clause-fault c = handed_on c.from_residual-in_err-words_at.result c.in_err-words_at.field-0.0 _ c.from_residual-in_err-words_at.ensures.1 (λ is y fit same. c.in_err-words_at.ensures.fault is y.hardware fit.hardware (image_says c.args.row.now y fit same).hardware.0)

pub returns-in_err-words_at-clause-damaged : goal.returns-in_err-words_at-clause-damaged
returns-in_err-words_at-clause-damaged c = handed_on c.from_residual-in_err-words_at.result c.in_err-words_at.field-0.0 _ c.from_residual-in_err-words_at.ensures.1 (λ is y fit says. c.in_err-words_at.ensures.fault is y.hardware fit.hardware says.hardware.0)

pub returns-in_err-words_at-2-clause-fault : goal.returns-in_err-words_at-2-clause-fault
returns-in_err-words_at-2-clause-fault c = handed_on c.from_residual-in_err-words_at-2.result c.in_err-words_at-2.field-0.0 _ c.from_residual-in_err-words_at-2.ensures.1 (λ is y fit same. c.in_err-words_at-2.ensures.fault is y.needs fit.needs (image_says c.args.row.now y fit same).needs.0)

pub returns-in_err-words_at-2-clause-damaged : goal.returns-in_err-words_at-2-clause-damaged
returns-in_err-words_at-2-clause-damaged c = handed_on c.from_residual-in_err-words_at-2.result c.in_err-words_at-2.field-0.0 _ c.from_residual-in_err-words_at-2.ensures.1 (λ is y fit says. c.in_err-words_at-2.ensures.fault is y.needs fit.needs says.needs.0)

pub returns-in_err-words_at-3-clause-fault : goal.returns-in_err-words_at-3-clause-fault
returns-in_err-words_at-3-clause-fault c = handed_on c.from_residual-in_err-words_at-3.result c.in_err-words_at-3.field-0.0 _ c.from_residual-in_err-words_at-3.ensures.1 (λ is y fit same. c.in_err-words_at-3.ensures.fault is y.conflicts fit.conflicts (image_says c.args.row.now y fit same).conflicts.0)

pub returns-in_err-words_at-3-clause-damaged : goal.returns-in_err-words_at-3-clause-damaged
returns-in_err-words_at-3-clause-damaged c = handed_on c.from_residual-in_err-words_at-3.result c.in_err-words_at-3.field-0.0 _ c.from_residual-in_err-words_at-3.ensures.1 (λ is y fit says. c.in_err-words_at-3.ensures.fault is y.conflicts fit.conflicts says.conflicts.0)
