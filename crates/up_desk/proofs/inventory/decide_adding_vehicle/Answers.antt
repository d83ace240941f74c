use Rattle.std.proofs.Common.{◌≡◌, ℕ, List, [], ◌∷◌, Bool, map, refl, ap, ◌∙◌, subst}
use Rattle.std.specs.Prelude.{⊤}
use Rattle.up_machine.specs.declared.rows.VehicleRows.{VehicleRows}
use Rattle.up_machine.specs.declared.vehicle.NewEcu.{NewEcu}
use Rattle.up_machine.specs.Decisions.{GivesDecision}
use Rattle.up_machine.specs.Inventory.{decide_vehicle, with_vehicle}
use Rattle.up_machine.specs.Rows.{rows_of, vehicle_rows}
use Rattle.up_machine.specs.State.{State, added, is_taken}
use Rattle.up_machine.specs.Vehicles.{NewVehicleData, ecu_names}
use Rattle.up_records.proofs.NeverStore.{never_vehicle}
use Rattle.up_records.proofs.Sessions.{decides_on, fails_on, none_on, rows_on, then_on}
use Rattle.up_desk.proofs.inventory.decide_adding_vehicle.Goals as goal

-- the marks of ECUs are those of their names
marks_of_names : (s : State) (ecus : List NewEcu) → map (λ (e : NewEcu). is_taken s e.ecu) ecus ≡ map (is_taken s) (ecu_names ecus)
marks_of_names s [] = refl
marks_of_names s (e ∷ ecus) = ap (λ (marks : List Bool). is_taken s e.ecu ∷ marks) (marks_of_names s ecus)

pub returns-in-Ok-taken_marks : goal.returns-in-Ok-taken_marks
returns-in-Ok-taken_marks g c inside =
    let G = g.D.Store in
    let k = g.K.Scheme.rules c.args.scheme.now in
    let given = c.args.new.now in
    decides_on G (then_on G (then_on G (then_on G (none_on G inside) (rows_on G _ (λ j s x is. is) c.in-Ok.ensures)) c.in-Ok-read_vehicle.ensures) c.in-Ok-taken_marks.ensures) k tt c.decide_vehicle.result (λ s. never_vehicle k s c.args.at given) (λ s r h. h) (λ s sound _ found.
    subst (λ (at : ℕ). GivesDecision (λ (rows : VehicleRows). rows ≡ rows_of given.vehicle (added given)) s (with_vehicle s given) c.decide_vehicle.result (decide_vehicle k s at given)) c.moment.ensures.value
    (c.decide_vehicle.ensures.decided s sound found.0.0.1 (c.as_ref.ensures.value ∙ found.0.1 ∙ ap (λ (d : NewVehicleData). vehicle_rows s d.vehicle) c.new.view_is)
    (c.as_slice-in-Ok-taken_marks.ensures.value ∙ found.1 ∙ ap (map (λ (e : NewEcu). is_taken s e.ecu)) (c.as_slice.ensures ∙ ap (λ (d : NewVehicleData). d.ecus) c.new.view_is)
    ∙ marks_of_names s given.ecus)))

pub returns-in-Err : goal.returns-in-Err
returns-in-Err g c inside = let G = g.D.Store in fails_on G (none_on G {rules = λ _. ⊤} inside) (g.K.Scheme.rules c.args.scheme.now) tt c.refusal_of.ensures (rows_on G _ (λ j s x is. is) c.in-Err.ensures)

pub returns-in-Err-read_vehicle : goal.returns-in-Err-read_vehicle
returns-in-Err-read_vehicle g c inside =
    let G = g.D.Store in
    fails_on G (then_on G (none_on G inside) (rows_on G _ (λ j s x is. is) c.in-Ok.ensures)) (g.K.Scheme.rules c.args.scheme.now) tt c.refusal_of-in-Err-read_vehicle.ensures c.in-Err-read_vehicle.ensures

pub returns : goal.returns
returns g c inside =
    let G = g.D.Store in
    fails_on G (then_on G (then_on G (none_on G inside) (rows_on G _ (λ j s x is. is) c.in-Ok.ensures)) c.in-Ok-read_vehicle.ensures) (g.K.Scheme.rules c.args.scheme.now) tt c.refusal_of-in-Err-taken_marks.ensures c.in-Err-taken_marks.ensures
