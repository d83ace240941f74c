use Rattle.up_shipped.proofs.Starts.{taken_shows}
use Rattle.up_shipped.proofs.laws.taken_tables_show.Goals as goal

pub returns : goal.returns
returns g c = taken_shows g.K.Scheme.rules g.D.Store c.rows_tell_the_state.ensures.empty
