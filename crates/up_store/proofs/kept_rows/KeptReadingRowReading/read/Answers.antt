use Rattle.up_store.proofs.Common.{handed_on}
use Rattle.up_store.proofs.LineSays.{kept_says}
use Rattle.up_store.proofs.kept_rows.KeptReadingRowReading.read.Goals as goal

pub returns-in_err-count_at-clause-fault : goal.returns-in_err-count_at-clause-fault
returns-in_err-count_at-clause-fault c = handed_on c.from_residual.result c.in_err-count_at.field-0.0 _ c.from_residual.ensures.1 (λ is y fit same. c.in_err-count_at.ensures.fault.1 y.counter fit.counter (kept_says c.args.row.now y fit same).counter)

pub returns-in_err-count_at-clause-damaged : goal.returns-in_err-count_at-clause-damaged
returns-in_err-count_at-clause-damaged c = handed_on c.from_residual.result c.in_err-count_at.field-0.0 _ c.from_residual.ensures.1 (λ is y fit says. c.in_err-count_at.ensures.fault.1 y.counter fit.counter says.counter)

pub returns-in_err-number_at-clause-fault : goal.returns-in_err-number_at-clause-fault
returns-in_err-number_at-clause-fault c = handed_on c.from_residual-in_err-number_at.result c.in_err-number_at.field-0.0 _ c.from_residual-in_err-number_at.ensures.1 (λ is y fit same. c.in_err-number_at.ensures.fault.1 y.version (kept_says c.args.row.now y fit same).version)

pub returns-in_err-number_at-clause-damaged : goal.returns-in_err-number_at-clause-damaged
returns-in_err-number_at-clause-damaged c = handed_on c.from_residual-in_err-number_at.result c.in_err-number_at.field-0.0 _ c.from_residual-in_err-number_at.ensures.1 (λ is y fit says. c.in_err-number_at.ensures.fault.1 y.version says.version)

pub returns-in_err-moment_at-clause-fault : goal.returns-in_err-moment_at-clause-fault
returns-in_err-moment_at-clause-fault c = handed_on c.from_residual-in_err-moment_at.result c.in_err-moment_at.field-0.0 _ c.from_residual-in_err-moment_at.ensures.1 (λ is y fit same. c.in_err-moment_at.ensures.fault.1 y.at fit.moment (kept_says c.args.row.now y fit same).moment)

pub returns-in_err-moment_at-clause-damaged : goal.returns-in_err-moment_at-clause-damaged
returns-in_err-moment_at-clause-damaged c = handed_on c.from_residual-in_err-moment_at.result c.in_err-moment_at.field-0.0 _ c.from_residual-in_err-moment_at.ensures.1 (λ is y fit says. c.in_err-moment_at.ensures.fault.1 y.at fit.moment says.moment)

pub returns-in_err-number_at-2-clause-fault : goal.returns-in_err-number_at-2-clause-fault
returns-in_err-number_at-2-clause-fault c = handed_on c.from_residual-in_err-number_at-2.result c.in_err-number_at-2.field-0.0 _ c.from_residual-in_err-number_at-2.ensures.1 (λ is y fit same. c.in_err-number_at-2.ensures.fault.1 y.root (kept_says c.args.row.now y fit same).root)

pub returns-in_err-number_at-2-clause-damaged : goal.returns-in_err-number_at-2-clause-damaged
returns-in_err-number_at-2-clause-damaged c = handed_on c.from_residual-in_err-number_at-2.result c.in_err-number_at-2.field-0.0 _ c.from_residual-in_err-number_at-2.ensures.1 (λ is y fit says. c.in_err-number_at-2.ensures.fault.1 y.root says.root)

pub returns-in_err-ident_at-clause-fault : goal.returns-in_err-ident_at-clause-fault
returns-in_err-ident_at-clause-fault c = handed_on c.from_residual-in_err-ident_at.result c.in_err-ident_at.field-0.0 _ c.from_residual-in_err-ident_at.ensures.1 (λ is y fit same. c.in_err-ident_at.ensures.fault is y.vehicle fit.ident (kept_says c.args.row.now y fit same).vehicle.0)

pub returns-in_err-ident_at-clause-damaged : goal.returns-in_err-ident_at-clause-damaged
returns-in_err-ident_at-clause-damaged c = handed_on c.from_residual-in_err-ident_at.result c.in_err-ident_at.field-0.0 _ c.from_residual-in_err-ident_at.ensures.1 (λ is y fit says. c.in_err-ident_at.ensures.fault is y.vehicle fit.ident says.vehicle.0)

pub returns-in_err-words_at-clause-fault : goal.returns-in_err-words_at-clause-fault
returns-in_err-words_at-clause-fault c = handed_on c.from_residual-in_err-words_at.result c.in_err-words_at.field-0.0 _ c.from_residual-in_err-words_at.ensures.1 (λ is y fit same. c.in_err-words_at.ensures.fault is y.signed fit.signed (kept_says c.args.row.now y fit same).signed.0)

pub returns-in_err-words_at-clause-damaged : goal.returns-in_err-words_at-clause-damaged
returns-in_err-words_at-clause-damaged c = handed_on c.from_residual-in_err-words_at.result c.in_err-words_at.field-0.0 _ c.from_residual-in_err-words_at.ensures.1 (λ is y fit says. c.in_err-words_at.ensures.fault is y.signed fit.signed says.signed.0)

pub returns-in_err-words_at-2-clause-fault : goal.returns-in_err-words_at-2-clause-fault
returns-in_err-words_at-2-clause-fault c = handed_on c.from_residual-in_err-words_at-2.result c.in_err-words_at-2.field-0.0 _ c.from_residual-in_err-words_at-2.ensures.1 (λ is y fit same. c.in_err-words_at-2.ensures.fault is y.reply fit.reply (kept_says c.args.row.now y fit same).reply.0)

pub returns-in_err-words_at-2-clause-damaged : goal.returns-in_err-words_at-2-clause-damaged
returns-in_err-words_at-2-clause-damaged c = handed_on c.from_residual-in_err-words_at-2.result c.in_err-words_at-2.field-0.0 _ c.from_residual-in_err-words_at-2.ensures.1 (λ is y fit says. c.in_err-words_at-2.ensures.fault is y.reply fit.reply says.reply.0)

pub returns-in_err-plan_at-clause-fault : goal.returns-in_err-plan_at-clause-fault
returns-in_err-plan_at-clause-fault c = handed_on c.from_residual-in_err-plan_at.result c.in_err-plan_at.field-0.0 _ c.from_residual-in_err-plan_at.ensures.1 (λ is y fit same. c.in_err-plan_at.ensures.damaged is y.plan (kept_says c.args.row.now y fit same).plan)

pub returns-in_err-plan_at-clause-damaged : goal.returns-in_err-plan_at-clause-damaged
returns-in_err-plan_at-clause-damaged c = handed_on c.from_residual-in_err-plan_at.result c.in_err-plan_at.field-0.0 _ c.from_residual-in_err-plan_at.ensures.1 (λ is y fit says. c.in_err-plan_at.ensures.damaged is y.plan says.plan)
