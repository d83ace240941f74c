use Rattle.std.proofs.Common.{Ok, Err, Some, None, ap, refl, subst}
use Rattle.std.proofs.lemmas.Result.{IfOk-weaker, IfErr-weaker}
use Rattle.up_service.proofs.show.shown.Goals as goal

pub returns-in-Ok-Some-clause-line : goal.returns-in-Ok-Some-clause-line
returns-in-Ok-Some-clause-line g c =
    let found = subst (λ o. g.V.Viewed.finds c.args.desk.now c.args.vehicle.now (Ok o) c.vehicle.new.self) c.in-Ok-Some.field-0-is c.in-Ok-Some.ensures in
    IfOk-weaker c.shown_with.result _ _ (λ line h. (c.vehicle.new.self, Ok (Some c.in-Ok-Some.rows), found, h)) c.shown_with.ensures.line

pub returns-in-Ok-Some-clause-refused : goal.returns-in-Ok-Some-clause-refused
returns-in-Ok-Some-clause-refused g c =
    let found = subst (λ o. g.V.Viewed.finds c.args.desk.now c.args.vehicle.now (Ok o) c.vehicle.new.self) c.in-Ok-Some.field-0-is c.in-Ok-Some.ensures in
    IfErr-weaker c.shown_with.result _ _ (λ r h. (c.vehicle.new.self, Ok (Some c.in-Ok-Some.rows), found, h)) c.shown_with.ensures.refused

pub returns-in-Ok-None-clause-refused : goal.returns-in-Ok-None-clause-refused
returns-in-Ok-None-clause-refused g c =
    let found = subst (λ o. g.V.Viewed.finds c.args.desk.now c.args.vehicle.now (Ok o) c.vehicle.new.self) c.in-Ok-None.field-0-is c.in-Ok-None.ensures in
    (c.vehicle.new.self, Ok None, found, (refl, refl))

pub returns-in-Err-clause-refused : goal.returns-in-Err-clause-refused
returns-in-Err-clause-refused g c = (c.vehicle.new.self, Err c.in-Err.fault, c.in-Err.ensures, (ap Err c.refusal_of.ensures, refl))
