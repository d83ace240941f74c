-- The members of lines that add a vehicle or replace an ECU.
use Rattle.std.specs.Prelude.{ℕ, List, Result, Ok, codes}
use Rattle.serde_json.specs.Data.{Data}
use Rattle.up_canon.specs.HexText.{hex_in}
use Rattle.up_canon.specs.Members.{object_of, list_in}
use Rattle.up_canon.specs.Readers.{ident_in}
use Rattle.up_canon.specs.Steps.{◌>>=◌, each}
use Rattle.up_canon.specs.declared.refusal.Refusal.{Refusal}
use Rattle.up_machine.specs.Vehicles.{NewVehicleData, new_vehicle_fault}
use Rattle.up_machine.specs.declared.vehicle.NewEcu.{NewEcu}
use Rattle.up_machine.specs.declared.vehicle.Replacement.{Replacement}
use Rattle.up_script.specs.ImageLines.{checked}

-- the members of an object that tell an ECU
unfoldable pub new_ecu_in : Data → Result NewEcu Refusal
new_ecu_in d = do
  ecu ← ident_in (codes "ecu") d
  hardware ← ident_in (codes "hardware") d
  key ← hex_in 2 512 (codes "key") d
  Ok (record { ecu = ecu; hardware = hardware; public = key })

unfoldable pub ecu_of : List ℕ → Data → Result NewEcu Refusal
ecu_of place value = do
  d ← object_of place value
  new_ecu_in d

unfoldable pub vehicle_in : Data → Result NewVehicleData Refusal
vehicle_in d = do
  vehicle ← ident_in (codes "vehicle") d
  primary ← ident_in (codes "primary") d
  ecu_values ← list_in (codes "ecus") d
  ecus ← each (ecu_of (codes "ecus")) ecu_values
  checked new_vehicle_fault (record { vehicle = vehicle; primary = primary; ecus = ecus })

-- the new ECU's members stand beside those that tell which one it replaces
unfoldable pub replacement_in : Data → Result Replacement Refusal
replacement_in d = do
  vehicle ← ident_in (codes "vehicle") d
  old ← ident_in (codes "old") d
  ecu ← new_ecu_in d
  Ok (record { vehicle = vehicle; old = old; ecu = ecu })
