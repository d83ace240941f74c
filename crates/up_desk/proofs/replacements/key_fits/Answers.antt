use Rattle.std.proofs.Common.{ap, ◌∙◌}
use Rattle.up_machine.specs.Vehicles.{public_fits}
use Rattle.up_desk.proofs.replacements.key_fits.Goals as goal

pub returns : goal.returns
returns g c = c.public_fits.ensures ∙ ap (public_fits (g.K.Scheme.rules c.args.scheme.now)) c.as_slice.ensures
