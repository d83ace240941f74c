-- What is read of the table of vehicles.
use Rattle.std.proofs.Common.{◌≡◌, ℕ, List, Option, Some, None, Ok, Err, Result, IfOk, OnOk, map, refl}
use Rattle.std.specs.FinMap as table
use Rattle.up_store.proofs.Common.{option_map, AllByRecursion, option_to_list, Row, Connected, Name, VehicleRow, VehicleRows, StateRows, vehicle_places, columns_at, IsWithin, HasTables, Reads, Lists, HoldsBy, AreLines, IsTold, up_schema, vehicle_table, vehicle_found, row_of_vehicle, vehicle_lines, ListsRows, SaysVehicle, IsTypedVehicle, IsTypedVehicleRow}
use Rattle.up_store.proofs.ColumnFound.{has_tables}

abbrev row_in : Option VehicleRows → Option VehicleRow
row_in o = option_map (λ (v : VehicleRows). v.vehicle) o

its_line : (o : Option VehicleRows) → map (columns_at vehicle_places) (vehicle_lines o) ≡ map row_of_vehicle (option_to_list (row_in o))
its_line None = refl
its_line (Some v) = refl

its_typed : (name : Name) (o : Option VehicleRows) → ((v : VehicleRows) → o ≡ Some v → IsTypedVehicle name v) → AllByRecursion IsTypedVehicleRow (option_to_list (row_in o))
its_typed name None typed = tt
its_typed name (Some v) typed = ((typed v refl).row, tt)

pub holds_vehicle : (name : Name) (s : Connected) (rows : StateRows) → ListsRows rows s.now.trees → HoldsBy vehicle_table 1 (λ rows_of. AreLines IsTypedVehicleRow row_of_vehicle (map (columns_at vehicle_places) (rows_of name))) s
holds_vehicle name s rows lists =
    let there = table.get rows.vehicles name in
    ((λ n. vehicle_lines (table.get rows.vehicles n)), lists.tables.vehicles, (row_in there, its_typed name there (lists.typed.vehicles name), its_line there))

-- the vehicle that is found is that of the row
pub vehicle_told : {E : Type 0} (r : Result (Option VehicleRow) E) (name : Name) (before after : Connected)
    → IfOk r (λ found. (rows_of : List ℕ → List Row) → HasTables before → Lists 1 rows_of (before.now.trees vehicle_table.tree) → IsTold SaysVehicle IsTypedVehicleRow row_of_vehicle (map (columns_at vehicle_places) (rows_of name)) found)
    → OnOk r (Reads before after) → IfOk r (λ found. (rows : StateRows) → IsWithin up_schema (ListsRows rows) before → found ≡ vehicle_found name rows)
vehicle_told (Err e) name before after told reads = tt
vehicle_told (Ok found) name before after told reads = λ rows within.
    let here = within.here reads.was_open in
    let there = table.get rows.vehicles name in
    (told (λ n. vehicle_lines (table.get rows.vehicles n)) (has_tables rows before within) here.rows.tables.vehicles).same (row_in there) (its_typed name there (here.rows.typed.vehicles name)) (its_line there)

pub vehicle_in : (rows : StateRows) (name : Name) (before after : Connected) (found : Option VehicleRow) → Reads before after
    → ((rows_of : List ℕ → List Row) → HasTables before → Lists 1 rows_of (before.now.trees vehicle_table.tree) → IsTold SaysVehicle IsTypedVehicleRow row_of_vehicle (map (columns_at vehicle_places) (rows_of name)) found)
    → IsWithin up_schema (ListsRows rows) before → found ≡ vehicle_found name rows
vehicle_in rows name before after found reads told = vehicle_told {E = Rattle.std.specs.Prelude.⊤} (Ok found) name before after told reads rows
