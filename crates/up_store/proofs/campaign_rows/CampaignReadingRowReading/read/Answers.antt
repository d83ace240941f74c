use Rattle.up_store.proofs.Common.{handed_on}
use Rattle.up_store.proofs.LineSays.{campaign_says}
use Rattle.up_store.proofs.campaign_rows.CampaignReadingRowReading.read.Goals as goal

pub returns-in_err-flag_at-clause-fault : goal.returns-in_err-flag_at-clause-fault
returns-in_err-flag_at-clause-fault c = handed_on c.from_residual.result c.in_err-flag_at.field-0.0 _ c.from_residual.ensures.1 (λ is y fit same. c.in_err-flag_at.ensures.fault.1 y.running (campaign_says c.args.row.now y fit same).running)

pub returns-in_err-flag_at-clause-damaged : goal.returns-in_err-flag_at-clause-damaged
returns-in_err-flag_at-clause-damaged c = handed_on c.from_residual.result c.in_err-flag_at.field-0.0 _ c.from_residual.ensures.1 (λ is y fit says. c.in_err-flag_at.ensures.fault.1 y.running says.running)

pub returns-in_err-ident_at-clause-fault : goal.returns-in_err-ident_at-clause-fault
returns-in_err-ident_at-clause-fault c = handed_on c.from_residual-in_err-ident_at.result c.in_err-ident_at.field-0.0 _ c.from_residual-in_err-ident_at.ensures.1 (λ is y fit same. c.in_err-ident_at.ensures.fault is y.name fit.name (campaign_says c.args.row.now y fit same).name.0)

pub returns-in_err-ident_at-clause-damaged : goal.returns-in_err-ident_at-clause-damaged
returns-in_err-ident_at-clause-damaged c = handed_on c.from_residual-in_err-ident_at.result c.in_err-ident_at.field-0.0 _ c.from_residual-in_err-ident_at.ensures.1 (λ is y fit says. c.in_err-ident_at.ensures.fault is y.name fit.name says.name.0)

pub returns-in_err-words_at-clause-fault : goal.returns-in_err-words_at-clause-fault
returns-in_err-words_at-clause-fault c = handed_on c.from_residual-in_err-words_at.result c.in_err-words_at.field-0.0 _ c.from_residual-in_err-words_at.ensures.1 (λ is y fit same. c.in_err-words_at.ensures.fault is y.reach fit.reach (campaign_says c.args.row.now y fit same).reach.0)

pub returns-in_err-words_at-clause-damaged : goal.returns-in_err-words_at-clause-damaged
returns-in_err-words_at-clause-damaged c = handed_on c.from_residual-in_err-words_at.result c.in_err-words_at.field-0.0 _ c.from_residual-in_err-words_at.ensures.1 (λ is y fit says. c.in_err-words_at.ensures.fault is y.reach fit.reach says.reach.0)

pub returns-in_err-words_at-2-clause-fault : goal.returns-in_err-words_at-2-clause-fault
returns-in_err-words_at-2-clause-fault c = handed_on c.from_residual-in_err-words_at-2.result c.in_err-words_at-2.field-0.0 _ c.from_residual-in_err-words_at-2.ensures.1 (λ is y fit same. c.in_err-words_at-2.ensures.fault is y.items fit.items (campaign_says c.args.row.now y fit same).items.0)

pub returns-in_err-words_at-2-clause-damaged : goal.returns-in_err-words_at-2-clause-damaged
returns-in_err-words_at-2-clause-damaged c = handed_on c.from_residual-in_err-words_at-2.result c.in_err-words_at-2.field-0.0 _ c.from_residual-in_err-words_at-2.ensures.1 (λ is y fit says. c.in_err-words_at-2.ensures.fault is y.items fit.items says.items.0)
