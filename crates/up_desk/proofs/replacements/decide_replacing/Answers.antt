use Rattle.std.proofs.Common.{◌∙◌, ℕ, subst}
use Rattle.std.specs.Prelude.{⊤}
use Rattle.up_machine.specs.Decisions.{GivesReplacement}
use Rattle.up_machine.specs.Inventory.{decide_replace}
use Rattle.up_records.proofs.NeverStore.{never_replace}
use Rattle.up_records.proofs.Sessions.{decides_on, fails_on, none_on, rows_on, then_on}
use Rattle.up_desk.proofs.replacements.decide_replacing.Goals as goal

pub returns-in-Ok-is_taken : goal.returns-in-Ok-is_taken
returns-in-Ok-is_taken g c inside =
    let G = g.D.Store in
    let k = g.K.Scheme.rules c.args.scheme.now in
    decides_on G (then_on G (then_on G (then_on G (none_on G inside) (rows_on G _ (λ j s x is. is) c.in-Ok.ensures)) c.in-Ok-read_vehicle.ensures) c.in-Ok-is_taken.ensures) k tt c.decide_replace.result (λ s. never_replace k s c.args.at c.args.new.now) (λ s r h. h) (λ s sound _ found.
    subst (λ (at : ℕ). GivesReplacement s c.args.new.now c.decide_replace.result (decide_replace k s at c.args.new.now)) c.moment.ensures.value
    (c.decide_replace.ensures.decided s found.0.0.1 (c.as_ref.ensures.value ∙ found.0.1) found.1))

pub returns-in-Err : goal.returns-in-Err
returns-in-Err g c inside = let G = g.D.Store in fails_on G (none_on G {rules = λ _. ⊤} inside) (g.K.Scheme.rules c.args.scheme.now) tt c.refusal_of.ensures (rows_on G _ (λ j s x is. is) c.in-Err.ensures)

pub returns-in-Err-read_vehicle : goal.returns-in-Err-read_vehicle
returns-in-Err-read_vehicle g c inside =
    let G = g.D.Store in
    fails_on G (then_on G (none_on G inside) (rows_on G _ (λ j s x is. is) c.in-Ok.ensures)) (g.K.Scheme.rules c.args.scheme.now) tt c.refusal_of-in-Err-read_vehicle.ensures c.in-Err-read_vehicle.ensures

pub returns : goal.returns
returns g c inside =
    let G = g.D.Store in
    fails_on G (then_on G (then_on G (none_on G inside) (rows_on G _ (λ j s x is. is) c.in-Ok.ensures)) c.in-Ok-read_vehicle.ensures) (g.K.Scheme.rules c.args.scheme.now) tt c.refusal_of-in-Err-is_taken.ensures c.in-Err-is_taken.ensures
