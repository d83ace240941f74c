use Rattle.std.proofs.Common.{List, ap, ◌∙◌}
use Rattle.std.specs.List.{list_all}
use Rattle.up_machine.specs.declared.vehicle.NewEcu.{NewEcu}
use Rattle.up_machine.specs.Vehicles.{NewVehicleData, public_fits}
use Rattle.up_desk.proofs.inventory.keys_fit.Goals as goal

pub returns : goal.returns
returns g c =
    let all = λ (es : List NewEcu). list_all (λ (e : NewEcu). public_fits (g.K.Scheme.rules c.args.scheme.now) e.public) es in
    c.publics_fit.ensures ∙ ap all (c.as_slice.ensures ∙ ap (λ (d : NewVehicleData). d.ecus) c.new.view_is)
