use Rattle.std.proofs.Common.{◌≡◌, ℕ, Err, ap, sym, subst, ◌∙◌}
use Rattle.std.specs.Prelude.{⊤, MatchBool}
use Rattle.up_canon.specs.Refusals.{is_memory}
use Rattle.up_canon.proofs.Steps.{bind-ok}
use Rattle.up_manifest.specs.Manifests.{incoming_in}
use Rattle.up_machine.specs.declared.command.Command.TheVariants.{Deliver}
use Rattle.up_machine.specs.Decisions.{decide_incoming}
use Rattle.up_records.proofs.NeverStore.{never_incoming}
use Rattle.up_records.proofs.Sessions.{none_on}
use Rattle.up_desk.specs.Carrying.{CarriesOn}
use Rattle.up_desk.specs.Serving.{outcome_due}
use Rattle.up_desk.proofs.Carrying.{of_rule, refused_early}
use Rattle.up_desk.proofs.Serving.{delivery_served}
use Rattle.up_desk.proofs.deliveries.deliver.Goals as goal

pub returns-in-Ok : goal.returns-in-Ok
returns-in-Ok g c inside =
    let k = g.K.Scheme.rules c.args.scheme.now in
    let body = c.args.body.now in
    subst (λ (at : ℕ). CarriesOn g.D.Store k (λ s. outcome_due k s at (Deliver body)) c.args.tx.now.conn c.receive.new.tx.conn c.args.catalog.now c.receive.new.catalog c.receive.result) c.moment-at.ensures.value
    (of_rule g.D.Store k
    (λ s. sym (bind-ok (incoming_in body) (decide_incoming k s c.moment-at.result) c.in-Ok.incoming (sym (ap incoming_in c.as_slice.ensures) ∙ c.in-Ok.ensures.value)) ∙ delivery_served k s c.moment-at.result body c.moment-at.ensures.limit)
    (c.receive.ensures inside))

pub returns-in-Err : goal.returns-in-Err
returns-in-Err g c inside =
    let k = g.K.Scheme.rules c.args.scheme.now in
    let body = c.args.body.now in
    subst (λ (at : ℕ). CarriesOn g.D.Store k (λ s. outcome_due k s at (Deliver body)) c.args.tx.now.conn c.args.tx.now.conn c.args.catalog.now c.args.catalog.now (Err c.in-Err.refusal)) c.moment-at.ensures.value
    (of_rule g.D.Store k (λ s. delivery_served k s c.moment-at.result body c.moment-at.ensures.limit)
    (refused_early g.D.Store k c.args.catalog.now (incoming_in body) (λ s. decide_incoming k s c.moment-at.result) (none_on g.D.Store {rules = λ _. ⊤} {old = c.args.tx.now.conn} inside).step (never_incoming body)
    (subst (λ b. MatchBool (is_memory c.in-Err.refusal) ⊤ (incoming_in b ≡ Err c.in-Err.refusal)) c.as_slice.ensures c.in-Err.ensures.value)))
