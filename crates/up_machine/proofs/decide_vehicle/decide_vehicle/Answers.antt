use Rattle.std.proofs.Common.{◌≡◌, true, false, sym, ap, ◌∙◌, subst}
use Rattle.std.specs.List.{list_all}
use Rattle.up_machine.specs.declared.rows.VehicleRows.{VehicleRows}
use Rattle.up_machine.specs.declared.vehicle.NewEcu.{NewEcu}
use Rattle.up_machine.specs.Decisions.{GivesDecision}
use Rattle.up_machine.specs.Inventory.{with_vehicle}
use Rattle.up_machine.specs.Rows.{rows_of}
use Rattle.up_machine.specs.State.{added}
use Rattle.up_machine.specs.Vehicles.{NewVehicleData, public_fits}
use Rattle.up_machine.proofs.AddedVehicles.{of_fitting}
use Rattle.up_machine.proofs.decide_vehicle.decide_vehicle.Goals as goal

pub returns-then-publics_fit-clause-key : goal.returns-then-publics_fit-clause-key
returns-then-publics_fit-clause-key g c = λ bad.
    let ecus = c.as_slice.ensures ∙ ap (λ (v : NewVehicleData). v.ecus) c.new.view_is in
    let both : true ≡ false = sym c.if-publics_fit.true ∙ c.publics_fit.ensures ∙ ap (list_all (λ (e : NewEcu). public_fits (g.K.Scheme.rules c.args.scheme.now) e.public)) ecus ∙ bad in
    cc

pub returns-then-publics_fit-clause-decided : goal.returns-then-publics_fit-clause-decided
returns-then-publics_fit-clause-decided g c = λ s sound founded old taken.
    let k = g.K.Scheme.rules c.args.scheme.now in
    let new = c.args.new.now in
    let ecus = c.as_slice.ensures ∙ ap (λ (v : NewVehicleData). v.ecus) c.new.view_is in
    let fit = sym (c.publics_fit.ensures ∙ ap (list_all (λ (e : NewEcu). public_fits k e.public)) ecus) ∙ c.if-publics_fit.true in
    subst (GivesDecision {R = VehicleRows} (λ rows. rows ≡ rows_of new.vehicle (added new)) s (with_vehicle s new) c.decide_fitting.result)
    (sym (of_fitting k s c.args.at new c.requires fit)) (c.decide_fitting.ensures.decided s founded old taken)
