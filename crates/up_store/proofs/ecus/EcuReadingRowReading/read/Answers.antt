use Rattle.up_store.proofs.Common.{handed_on}
use Rattle.up_store.proofs.EcuSays.{line_says}
use Rattle.up_store.proofs.ecus.EcuReadingRowReading.read.Goals as goal

pub returns-in_err-counter-clause-fault : goal.returns-in_err-counter-clause-fault
returns-in_err-counter-clause-fault c = handed_on c.from_residual.result c.in_err-counter.field-0.0 _ c.from_residual.ensures.1 (λ is y fit same. c.in_err-counter.ensures.fault.1 y.counter fit.0.counter (line_says c.args.row.now y fit same).counter)

pub returns-in_err-counter-clause-damaged : goal.returns-in_err-counter-clause-damaged
returns-in_err-counter-clause-damaged c = handed_on c.from_residual.result c.in_err-counter.field-0.0 _ c.from_residual.ensures.1 (λ is y fit says. c.in_err-counter.ensures.fault.1 y.counter fit.0.counter says.counter)

pub returns-in_err-report-clause-fault : goal.returns-in_err-report-clause-fault
returns-in_err-report-clause-fault c = handed_on c.from_residual-in_err-report.result c.in_err-report.field-0.0 _ c.from_residual-in_err-report.ensures.1 (λ is y fit same. c.in_err-report.ensures.fault is y.report (line_says c.args.row.now y fit same).report)

pub returns-in_err-report-clause-damaged : goal.returns-in_err-report-clause-damaged
returns-in_err-report-clause-damaged c = handed_on c.from_residual-in_err-report.result c.in_err-report.field-0.0 _ c.from_residual-in_err-report.ensures.1 (λ is y fit says. c.in_err-report.ensures.fault is y.report says.report)

pub returns-in_err-installed-clause-fault : goal.returns-in_err-installed-clause-fault
returns-in_err-installed-clause-fault c = handed_on c.from_residual-in_err-installed.result c.in_err-installed.field-0.0 _ c.from_residual-in_err-installed.ensures.1 (λ is y fit same. c.in_err-installed.ensures.fault is y.installed fit.0.installed (line_says c.args.row.now y fit same).installed)

pub returns-in_err-installed-clause-damaged : goal.returns-in_err-installed-clause-damaged
returns-in_err-installed-clause-damaged c = handed_on c.from_residual-in_err-installed.result c.in_err-installed.field-0.0 _ c.from_residual-in_err-installed.ensures.1 (λ is y fit says. c.in_err-installed.ensures.fault is y.installed fit.0.installed says.installed)

pub returns-in_err-ident_at-clause-fault : goal.returns-in_err-ident_at-clause-fault
returns-in_err-ident_at-clause-fault c = handed_on c.from_residual-in_err-ident_at.result c.in_err-ident_at.field-0.0 _ c.from_residual-in_err-ident_at.ensures.1 (λ is y fit same. c.in_err-ident_at.ensures.fault is y.ecu fit.0.ecu (line_says c.args.row.now y fit same).ecu.0)

pub returns-in_err-ident_at-clause-damaged : goal.returns-in_err-ident_at-clause-damaged
returns-in_err-ident_at-clause-damaged c = handed_on c.from_residual-in_err-ident_at.result c.in_err-ident_at.field-0.0 _ c.from_residual-in_err-ident_at.ensures.1 (λ is y fit says. c.in_err-ident_at.ensures.fault is y.ecu fit.0.ecu says.ecu.0)

pub returns-in_err-ident_at-2-clause-fault : goal.returns-in_err-ident_at-2-clause-fault
returns-in_err-ident_at-2-clause-fault c = handed_on c.from_residual-in_err-ident_at-2.result c.in_err-ident_at-2.field-0.0 _ c.from_residual-in_err-ident_at-2.ensures.1 (λ is y fit same. c.in_err-ident_at-2.ensures.fault is y.hardware fit.0.hardware (line_says c.args.row.now y fit same).hardware.0)

pub returns-in_err-ident_at-2-clause-damaged : goal.returns-in_err-ident_at-2-clause-damaged
returns-in_err-ident_at-2-clause-damaged c = handed_on c.from_residual-in_err-ident_at-2.result c.in_err-ident_at-2.field-0.0 _ c.from_residual-in_err-ident_at-2.ensures.1 (λ is y fit says. c.in_err-ident_at-2.ensures.fault is y.hardware fit.0.hardware says.hardware.0)

pub returns-in_err-bytes_at-clause-fault : goal.returns-in_err-bytes_at-clause-fault
returns-in_err-bytes_at-clause-fault c = handed_on c.from_residual-in_err-bytes_at.result c.in_err-bytes_at.field-0.0 _ c.from_residual-in_err-bytes_at.ensures.1 (λ is y fit same. c.in_err-bytes_at.ensures.fault is y.public (line_says c.args.row.now y fit same).public)

pub returns-in_err-bytes_at-clause-damaged : goal.returns-in_err-bytes_at-clause-damaged
returns-in_err-bytes_at-clause-damaged c = handed_on c.from_residual-in_err-bytes_at.result c.in_err-bytes_at.field-0.0 _ c.from_residual-in_err-bytes_at.ensures.1 (λ is y fit says. c.in_err-bytes_at.ensures.fault is y.public says.public)
