use Rattle.std.proofs.Common.{rules, ◌≡◌, true}
use Rattle.up_plan.proofs.Nothing.{none_kept}
use Rattle.up_plan.proofs.plan.updates.Goals as goal

pub returns-in_err-copy-clause-none : goal.returns-in_err-copy-clause-none
returns-in_err-copy-clause-none c = λ none.
    let updated : c.r-item.result.updated ≡ true = search rules in
    absurd (none_kept (λ r. record { ecu = r.ecu; file = r.file }) (λ r. r.updated) c.args.set.now c.loop-r.r-index c.r-item.result c.loop-r-test.true c.r-item.is updated none)

pub returns-in_err-copy-2-clause-none : goal.returns-in_err-copy-2-clause-none
returns-in_err-copy-2-clause-none c = λ none.
    let updated : c.r-item.result.updated ≡ true = search rules in
    absurd (none_kept (λ r. record { ecu = r.ecu; file = r.file }) (λ r. r.updated) c.args.set.now c.loop-r.r-index c.r-item.result c.loop-r-test.true c.r-item.is updated none)

pub returns-in_err-push-clause-none : goal.returns-in_err-push-clause-none
returns-in_err-push-clause-none c = λ none.
    let updated : c.r-item.result.updated ≡ true = search rules in
    absurd (none_kept (λ r. record { ecu = r.ecu; file = r.file }) (λ r. r.updated) c.args.set.now c.loop-r.r-index c.r-item.result c.loop-r-test.true c.r-item.is updated none)
