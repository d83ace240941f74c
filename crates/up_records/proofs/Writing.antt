-- What a write needs: rows that fit, and what they take those of the state to.
use Rattle.std.proofs.Common.{◌≡◌, ℕ, List}
use Rattle.sqlite.specs.Order.{Row}
use Rattle.up_sign.specs.Schemes.{Rules}
use Rattle.up_machine.specs.Sound.{IsSound}
use Rattle.up_machine.specs.State.{State}
use Rattle.up_rows.specs.StateRows.{StateRows, rows_of_state}
use Rattle.up_store.specs.Writes.{AreWrites}

-- rows that fit, which take those of the state to those of the next; these statements write them, and fit the columns where the next state
-- is sound
pub record WillWrite (k : Rules) (s next : State) (these : List (List ℕ × Row)) (held fits : StateRows → Type 0) (change : StateRows → StateRows) : Type 0 where
  pub fit : fits (rows_of_state s)
  pub rows : change (rows_of_state s) ≡ rows_of_state next
  pub holds : IsSound k next → held (rows_of_state s)
  pub write : AreWrites (rows_of_state s) (rows_of_state next) these
