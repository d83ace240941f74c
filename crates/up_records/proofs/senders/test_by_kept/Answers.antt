use Rattle.std.proofs.Common.{refl, sym, ap, ◌∙◌}
use Rattle.std.specs.Prelude.{option_map}
use Rattle.std.specs.FinMap as table
use Rattle.up_records.proofs.SentBy.{none_refused, not_sent_refused, sent_refused}
use Rattle.up_records.proofs.senders.test_by_kept.Goals as goal

pub returns-in_default-clause-forged : goal.returns-in_default-clause-forged
returns-in_default-clause-forged g c =
    none_refused (g.K.Scheme.rules c.args.scheme.now) c.args.catalog.now.primaries c.args.incoming.now _
    (ap (table.get c.args.catalog.now.primaries) (sym c.text-vehicle.ensures.value) ∙ sym c.get.ensures ∙ ap (option_map (λ v. v.now)) c.in_default.is)

pub returns-in_default-clause-kept : goal.returns-in_default-clause-kept
returns-in_default-clause-kept g c =
    ap (table.get c.args.catalog.now.primaries) (sym c.text-vehicle.ensures.value) ∙ sym c.get.ensures ∙ ap (option_map (λ v. v.now)) c.in_default.is

pub returns-in-Ok-clause-sent : goal.returns-in-Ok-clause-sent
returns-in-Ok-clause-sent g c = λ s is.
    let there = ap (table.get c.args.catalog.now.primaries) (sym c.text-vehicle.ensures.value) ∙ sym c.get.ensures ∙ ap (option_map (λ v. v.now)) c.in-Some.is in
    c.in-Ok.ensures.sent s c.args.catalog.now.founding is.founding (is.primaries c.args.incoming.now.manifest.vehicle c.in-Some.primary.now there)

pub returns-in-Ok-clause-forged : goal.returns-in-Ok-clause-forged
returns-in-Ok-clause-forged g c =
    let there = ap (table.get c.args.catalog.now.primaries) (sym c.text-vehicle.ensures.value) ∙ sym c.get.ensures ∙ ap (option_map (λ v. v.now)) c.in-Some.is in
    sent_refused (g.K.Scheme.rules c.args.scheme.now) c.args.catalog.now.primaries c.args.incoming.now c.in-Some.primary.now c.in-Ok.field-0 _ there (sym c.in-Ok.ensures.checked)

pub returns-in-Err-clause-sent : goal.returns-in-Err-clause-sent
returns-in-Err-clause-sent g c = λ s is.
    let there = ap (table.get c.args.catalog.now.primaries) (sym c.text-vehicle.ensures.value) ∙ sym c.get.ensures ∙ ap (option_map (λ v. v.now)) c.in-Some.is in
    c.in-Err.ensures.sent s c.args.catalog.now.founding is.founding (is.primaries c.args.incoming.now.manifest.vehicle c.in-Some.primary.now there)

pub returns-in-Err-clause-forged : goal.returns-in-Err-clause-forged
returns-in-Err-clause-forged g c =
    let there = ap (table.get c.args.catalog.now.primaries) (sym c.text-vehicle.ensures.value) ∙ sym c.get.ensures ∙ ap (option_map (λ v. v.now)) c.in-Some.is in
    not_sent_refused (g.K.Scheme.rules c.args.scheme.now) c.args.catalog.now.primaries c.args.incoming.now c.in-Some.primary.now c.in-Err.refusal _ there (sym c.in-Err.ensures.checked) refl
