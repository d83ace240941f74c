use Rattle.up_store.proofs.OneState.{one_state}
use Rattle.up_store.proofs.laws.tables_show_one_state.Goals as goal

pub returns : goal.returns
returns c k s t trees sound also one two = one_state c.canonical_laws.ensures.read c.rows_tell_the_state.ensures.told k s t sound also trees one two
