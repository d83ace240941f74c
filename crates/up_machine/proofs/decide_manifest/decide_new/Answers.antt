use Rattle.std.proofs.Common.{Ok, map, subst, sym, ap, ap₂, ◌∙◌}
use Rattle.up_machine.specs.declared.decision.Delivered.TheVariants.{Accepted}
use Rattle.up_machine.specs.Decisions.{decide_incoming, GivesDelivered}
use Rattle.up_machine.specs.ManifestRows.{accepted_rows, check_reports_of}
use Rattle.up_machine.specs.Senders.{SenderData}
use Rattle.up_machine.proofs.Passing.{Refuses, so_too, delivery_refused}
use Rattle.up_machine.proofs.Senders.{new_accepted, new_refused}
use Rattle.up_machine.proofs.decide_manifest.decide_new.Goals as goal

pub returns-in_err-check_reports : goal.returns-in_err-check_reports
returns-in_err-check_reports g c = λ s sound from planned.
    let k = g.K.Scheme.rules c.args.scheme.now in
    let e = c.in_err-check_reports.field-0.0 in
    let same = ap₂ (check_reports_of k) (c.as_slice.ensures ∙ ap (λ (d : SenderData). d.vehicle.ecus) c.sender.view_is) c.as_slice-2.ensures in
    delivery_refused s c.args.incoming.now.manifest.vehicle c.from_residual.result e _ c.from_residual.ensures.1
    (so_too (check_reports_of k c.args.sender.now.vehicle.ecus c.args.incoming.now.manifest.reports) _ e
    (new_refused c.body_laws.ensures.read c.body_laws.ensures.signed k s c.args.at c.args.incoming.now c.args.sender.now e sound c.requires.moment c.requires.read from c.requires.later)
    (subst (λ r. Refuses r e) same c.in_err-check_reports.ensures.given))

pub returns : goal.returns
returns g c = λ s sound from planned.
    let k = g.K.Scheme.rules c.args.scheme.now in
    let same = ap₂ (check_reports_of k) (c.as_slice.ensures ∙ ap (λ (d : SenderData). d.vehicle.ecus) c.sender.view_is) c.as_slice-2.ensures in
    let items = map (λ i. i.now) c.args.items.now in
    let made = c.in_ok-accepted.ensures planned.images_are.named ∙ ap (λ (d : SenderData). accepted_rows k d.founding d.vehicle c.args.at c.args.incoming.now c.args.images.now items) c.sender.view_is in
    subst (λ a. GivesDelivered s c.args.incoming.now.manifest.vehicle (Ok (Accepted a)) (decide_incoming k s c.args.at c.args.incoming.now)) (sym made)
    (new_accepted c.other_images_change_nothing.ensures c.offers_alone_count.ensures c.body_laws.ensures.read c.body_laws.ensures.signed k s c.args.at c.args.incoming.now c.args.sender.now c.args.images.now items
    sound c.requires.moment c.requires.read from planned c.requires.later (sym same ∙ c.in_ok-check_reports.ensures.given))
