-- The rows of a state: what is kept of it, one for each thing.
use Rattle.std.specs.Prelude.{ℕ, ◌==◌, ◌&&◌, Bool, Option, None, option_map, option_and_then, unwrap_or, length, map, find, bytes_eq}
use Rattle.std.specs.List.{enumerate_from}
use Rattle.std.specs.Cmp.Lexicographic.{pointwise}
use Rattle.std.specs.FinMap as table
use Rattle.up_canon.specs.Names.{Name}
use Rattle.up_machine.specs.declared.rows.Founding.{Founding}
use Rattle.up_machine.specs.declared.rows.VehicleRow.{VehicleRow}
use Rattle.up_machine.specs.declared.rows.EcuRow.{EcuRow}
use Rattle.up_machine.specs.declared.rows.VehicleRows.{VehicleRows}
use Rattle.up_machine.specs.declared.rows.Kept.{Kept}
use Rattle.up_machine.specs.declared.answer.Reply.{Reply}
use Rattle.up_machine.specs.declared.vehicle.NewEcu.{NewEcu}
use Rattle.up_machine.specs.Vehicles.{NewVehicleData}
use Rattle.up_machine.specs.State.{Entry, Vehicle, State, root_number, image_root_number, key_set, version, last_counter, last_report, installed_on}

-- none before founding
abbrev pub founding_row : State → Option Founding
founding_row s = option_map (λ files. record {
  root = root_number s;
  image_root = image_root_number s;
  keys = key_set s;
  image_version = s.image_version;
  targets_version = s.targets_version;
  stamp = s.stamp;
}) s.files

abbrev pub vehicle_row : Name → Vehicle → VehicleRow
vehicle_row name v = record { vehicle = name; primary = v.primary; version = version v.entries; last = last_counter v.entries }

-- before a first report the counter is 0, and there is neither an image nor a signed text
abbrev pub ecu_row : Vehicle → NewEcu → EcuRow
ecu_row v e = record {
  ecu = e.ecu;
  hardware = e.hardware;
  public = e.public;
  installed = installed_on v e.ecu;
  counter = unwrap_or (option_map (λ r. r.report.counter) (last_report v e.ecu)) 0;
  report = option_map (λ r. r.envelope.signed) (last_report v e.ecu);
}

-- of the vehicle's entry of this number, counted from 1
abbrev pub kept_row : Name → ℕ → Entry → Kept
kept_row vehicle number e = record {
  vehicle = vehicle;
  counter = e.counter;
  version = number;
  at = e.at;
  root = e.root;
  signed = e.signed;
  plan = e.plan;
  reply = e.reply;
}

abbrev pub rows_of : Name → Vehicle → VehicleRows
rows_of name v = record { vehicle = vehicle_row name v; ecus = map (ecu_row v) v.ecus }

-- of an ECU before its first report, and of a vehicle before its first manifest
abbrev pub new_row : NewEcu → EcuRow
new_row e = record { ecu = e.ecu; hardware = e.hardware; public = e.public; installed = None; counter = 0; report = None }

abbrev pub new_rows : NewVehicleData → VehicleRows
new_rows new = record { vehicle = record { vehicle = new.vehicle; primary = new.primary; version = 0; last = 0 }; ecus = map new_row new.ecus }

-- the same Primary and ECUs, whatever manifests were accepted
abbrev pub same_ecu_row : NewEcu → EcuRow → Bool
same_ecu_row e row = bytes_eq e.ecu row.ecu && bytes_eq e.hardware row.hardware && bytes_eq e.public row.public

abbrev pub same_rows : NewVehicleData → VehicleRows → Bool
same_rows new rows = bytes_eq new.primary rows.vehicle.primary && pointwise same_ecu_row new.ecus rows.ecus

-- none of an unknown vehicle
abbrev pub vehicle_rows : State → Name → Option VehicleRows
vehicle_rows s name = option_map (rows_of name) (table.get s.vehicles name)

-- the row of the vehicle's entry with this counter
abbrev pub kept_at : State → Name → ℕ → Option Kept
kept_at s name counter =
    option_and_then (λ v. option_map (λ e. kept_row name e.0 e.1) (find (λ e. e.1.counter == counter) (enumerate_from 1 v.entries))) (table.get s.vehicles name)

-- the reply that a kept row holds
abbrev pub reply_kept : Kept → Reply
reply_kept row = record { vehicle = row.vehicle; version = row.version; targets = length row.plan.assigned; withheld = row.plan.withheld; text = row.reply }
