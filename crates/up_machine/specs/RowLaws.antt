-- The laws of the rows of a sound state.
use Rattle.std.specs.Prelude.{◌≡◌, Some, IsTrue}
use Rattle.up_canon.specs.Names.{Name}
use Rattle.up_sign.specs.Schemes.{Rules}
use Rattle.up_machine.specs.declared.rows.Founding.{Founding}
use Rattle.up_machine.specs.declared.rows.VehicleRows.{VehicleRows}
use Rattle.up_machine.specs.State.{State}
use Rattle.up_machine.specs.Rows.{founding_row, vehicle_rows}
use Rattle.up_machine.specs.RowsFit.{founding_fits, rows_fit}
use Rattle.up_machine.specs.Sound.{IsSound}

-- the keys of the founding's row can sign
abbrev pub FoundingRowFits : Type 0
FoundingRowFits = (k : Rules) (s : State) (founding : Founding) → IsSound k s → founding_row s ≡ Some founding → IsTrue (founding_fits k founding)

-- a vehicle's version is at most its last counter, and no ECU stands twice among its rows
abbrev pub VehicleRowsFit : Type 0
VehicleRowsFit = (k : Rules) (s : State) (name : Name) (rows : VehicleRows) → IsSound k s → vehicle_rows s name ≡ Some rows → IsTrue (rows_fit rows)
