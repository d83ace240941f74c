use Rattle.std.proofs.Common.{Err, ◌++◌, ap, map, refl, sym, subst, ◌∙◌}
use Rattle.up_manifest.specs.declared.report.SignedReport.{SignedReport}
use Rattle.up_plan.specs.declared.campaign.Item.{Item}
use Rattle.up_plan.specs.Planning.{is_offered, items_for}
use Rattle.up_machine.specs.Decisions.{AreImagesOf, DeliveryData}
use Rattle.up_machine.specs.Senders.{ArePlanned}
use Rattle.up_machine.proofs.Passing.{delivery_refused, memory_first, surely}
use Rattle.up_machine.proofs.Senders.{refused_first, taken_again, taken_later}
use Rattle.up_machine.proofs.decide_manifest.decide_manifest.Goals as goal

pub returns-in_err-sender-clause-decided : goal.returns-in_err-sender-clause-decided
returns-in_err-sender-clause-decided g c = λ s sound rows.
    let k = g.K.Scheme.rules c.args.scheme.now in
    let e = c.in_err-sender.field-0.0 in
    let founding = ap (λ (d : DeliveryData). d.founding) c.rows.view_is ∙ rows.founding in
    let vehicle = ap (λ (d : DeliveryData). d.vehicle) c.rows.view_is ∙ rows.vehicle in
    delivery_refused s c.args.incoming.now.manifest.vehicle c.from_residual.result e _ c.from_residual.ensures.1
    (surely _ e (refused_first k s c.args.at c.args.incoming.now e (c.in_err-sender.ensures.from s founding vehicle)))

pub returns-then-not-is_later-clause-decided : goal.returns-then-not-is_later-clause-decided
returns-then-not-is_later-clause-decided g c = λ s sound rows.
    let k = g.K.Scheme.rules c.args.scheme.now in
    let founding = ap (λ (d : DeliveryData). d.founding) c.rows.view_is ∙ rows.founding in
    let vehicle = ap (λ (d : DeliveryData). d.vehicle) c.rows.view_is ∙ rows.vehicle in
    let kept = ap (λ (d : DeliveryData). d.kept) c.rows.view_is ∙ rows.kept in
    c.decide_again.ensures.decided k s c.args.at c.requires.moment sound (c.in_ok-sender.ensures.from s founding vehicle) kept

pub returns-clause-decided : goal.returns-clause-decided
returns-clause-decided g c = λ s sound rows.
    let founding = ap (λ (d : DeliveryData). d.founding) c.rows.view_is ∙ rows.founding in
    let vehicle = ap (λ (d : DeliveryData). d.vehicle) c.rows.view_is ∙ rows.vehicle in
    let manifest = c.args.incoming.now.manifest in
    let images = ap (λ (d : DeliveryData). d.images) (sym c.rows.view_is) in
    let campaigns = ap (λ (d : DeliveryData). d.campaigns) c.rows.view_is in
    let items = ap (map (λ i. i.now)) c.as_slice.ensures.value ∙ c.in_ok-items.ensures.value ∙ ap (λ cs. items_for cs manifest.vehicle) campaigns ∙ rows.campaigns in
    c.decide_new.ensures s sound (c.in_ok-sender.ensures.from s founding vehicle)
    (subst (λ is. ArePlanned s manifest is (map (λ i. i.now) c.as_slice.result.now)) images (record {
      images_are = subst (λ is. AreImagesOf (map (λ (i : Item). i.file) is ++ map (λ (r : SignedReport). r.report.image.file) manifest.reports) c.args.rows.now.images s.images) rows.campaigns rows.images;
      items_are = λ hardware image. ap (λ is. is_offered is hardware image) items;
    }))

pub returns-in_err-sender-clause-memory : goal.returns-in_err-sender-clause-memory
returns-in_err-sender-clause-memory g c = λ memory.
    absurd (c.in_err-sender.ensures.memory (memory_first c.from_residual.result c.in_err-sender.field-0.0 (Err c.in_err-sender.field-0.0) c.from_residual.ensures.1 memory refl))

pub returns-then-not-is_later-clause-memory : goal.returns-then-not-is_later-clause-memory
returns-then-not-is_later-clause-memory g c = λ memory.
    taken_again (g.K.Scheme.rules c.args.scheme.now) c.args.incoming.now _ c.args.rows.now c.in_ok-sender.sender c.rows.view_is c.in_ok-sender.ensures.given.0 c.in_ok-sender.ensures.given.1 c.in_ok-sender.ensures.passed
    (c.decide_again.ensures.memory memory)

pub returns-in_err-hashed-clause-memory : goal.returns-in_err-hashed-clause-memory
returns-in_err-hashed-clause-memory g c = λ memory.
    taken_later (g.K.Scheme.rules c.args.scheme.now) c.args.incoming.now _ c.args.rows.now c.in_ok-sender.sender c.rows.view_is c.in_ok-sender.ensures.given.0 c.in_ok-sender.ensures.given.1 c.in_ok-sender.ensures.passed
    (sym c.is_later.ensures ∙ c.if-not-is_later.false)

pub returns-in_err-items-clause-memory : goal.returns-in_err-items-clause-memory
returns-in_err-items-clause-memory g c = λ memory.
    taken_later (g.K.Scheme.rules c.args.scheme.now) c.args.incoming.now _ c.args.rows.now c.in_ok-sender.sender c.rows.view_is c.in_ok-sender.ensures.given.0 c.in_ok-sender.ensures.given.1 c.in_ok-sender.ensures.passed
    (sym c.is_later.ensures ∙ c.if-not-is_later.false)

pub returns-clause-memory : goal.returns-clause-memory
returns-clause-memory g c = λ memory.
    taken_later (g.K.Scheme.rules c.args.scheme.now) c.args.incoming.now _ c.args.rows.now c.in_ok-sender.sender c.rows.view_is c.in_ok-sender.ensures.given.0 c.in_ok-sender.ensures.given.1 c.in_ok-sender.ensures.passed
    (sym c.is_later.ensures ∙ c.if-not-is_later.false)
