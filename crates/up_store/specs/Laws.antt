-- The law of tables that show a state.
use Rattle.std.specs.Prelude.{◌≡◌}
use Rattle.sqlite.specs.Tree.{Trees}
use Rattle.up_sign.specs.Schemes.{Rules}
use Rattle.up_machine.specs.Sound.{IsSound}
use Rattle.up_machine.specs.State.{State}
use Rattle.up_store.specs.Listing.{ShowsState}

-- tables show one sound state
abbrev pub TablesShowOneState : Type 0
TablesShowOneState = (k : Rules) (s t : State) (trees : Trees) → IsSound k s → IsSound k t → ShowsState s trees → ShowsState t trees → s ≡ t
