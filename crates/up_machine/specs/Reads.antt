-- What is read of the inventory: a vehicle's ECUs, version and assignments, and the image that an ECU reported last.
use Rattle.std.specs.Prelude.{ℕ, List, Option, option_map, option_and_then, find}
use Rattle.std.specs.FinMap as table
use Rattle.up_canon.specs.Names.{Name}
use Rattle.up_manifest.specs.declared.report.Installed.{Installed}
use Rattle.up_plan.specs.declared.assigned.Plan.{Plan}
use Rattle.up_machine.specs.Vehicles.{has_ecu, ecu_names}
use Rattle.up_machine.specs.State.{Vehicle, State, version, plan_for, installed_on}

-- none of an unknown vehicle
abbrev pub ecus_of : State → Name → Option (List Name)
ecus_of s vehicle = option_map (λ v. ecu_names v.ecus) (table.get s.vehicles vehicle)

-- none of an unknown vehicle
abbrev pub version_of : State → Name → Option ℕ
version_of s vehicle = option_map (λ v. version v.entries) (table.get s.vehicles vehicle)

-- the vehicle in which the ECU stands
abbrev pub owner : State → Name → Option (Name × Vehicle)
owner s ecu = find (λ v. has_ecu ecu v.1.ecus) (table.entries s.vehicles)

-- none of an unknown ECU, and none before its first report
abbrev pub installed : State → Name → Option Installed
installed s ecu = option_and_then (λ v. installed_on v.1 ecu) (owner s ecu)

-- none of an unknown vehicle, and none before its first manifest
abbrev pub assigned_to : State → Name → Option Plan
assigned_to s vehicle = option_and_then plan_for (table.get s.vehicles vehicle)
