use Rattle.up_main.proofs.Alike.{alike}
use Rattle.up_main.proofs.laws.scripts_and_streams_are_steps.Goals as goal

pub returns : goal.returns
returns g c = alike g.K.Scheme.rules g.D.Store
