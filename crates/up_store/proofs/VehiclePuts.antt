-- A vehicle is put into the tables, with its ECUs.
use Rattle.std.proofs.Common.{◌≡◌, ◌+◌, ℕ, zero, suc, List, [], ◌∷◌, ◌++◌, Some, Result, Ok, Err, OnOk, IsTrue, length, map, slice_get, refl, sym, ap, subst, subst₂, ◌∙◌, arith, zero-add}
use Rattle.std.specs.FinMap as table
use Rattle.up_store.proofs.Common.{AllByRecursion, Row, Connected, Name, EcuRow, VehicleRow, VehicleRows, with_vehicle_rows, StateRows, StoreFault, VehicleShown, vehicle_row, EcuLine, ecu_row, vehicle_line, changed_at, with_row, MutBor, Held, Ghosts, AltersRows, SetsEcu, IsWritten, insert_ecu_text, update_ecu_text, IsWithin, GoesOn, HasTables, Alters, Lists, up_schema, vehicle_table, ecu_table, goes_on, lists_vehicles, lists_ecus, IsNewVehicle, vehicle_lines, ecu_line, ecu_lines, ecus_lines, ListsRows, table_rows, vehicle_read, IsTypedEcu, IsTypedVehicleRow}
use Rattle.up_store.proofs.Alike.{lists_as, alters_as}
use Rattle.up_store.proofs.Inserted.{changed_inserted, row_inserted}
use Rattle.up_store.proofs.TypedRows.{typed_vehicle}

-- ---- the lines of ECUs

lines_at : (vehicle : Name) (from i : ℕ) (rows : List EcuRow) (row : EcuRow) → slice_get rows i ≡ Some row → slice_get (ecu_lines vehicle from rows) i ≡ Some (ecu_line vehicle (from + i) row)
lines_at vehicle from i [] row there = absurd cc
lines_at vehicle from zero (x ∷ rows) row there = let is : x ≡ row = cc in ap (λ r. Some (ecu_line vehicle from r)) is ∙ ap (λ n. Some (ecu_line vehicle n row)) (omega arith)
lines_at vehicle from (suc i) (x ∷ rows) row there = lines_at vehicle (suc from) i rows row there ∙ ap (λ n. Some (ecu_line vehicle n row)) (omega arith)

pub line_at : (vehicle : Name) (i : ℕ) (rows : List EcuRow) (row : EcuRow) → slice_get rows i ≡ Some row → slice_get (ecu_lines vehicle 0 rows) i ≡ Some (ecu_line vehicle i row)
line_at vehicle i rows row there = lines_at vehicle 0 i rows row there ∙ ap (λ n. Some (ecu_line vehicle n row)) (zero-add i)

pub length-ecu_lines : (vehicle : Name) (from : ℕ) (rows : List EcuRow) → length (ecu_lines vehicle from rows) ≡ length rows
length-ecu_lines vehicle from [] = refl
length-ecu_lines vehicle from (row ∷ rows) = ap suc (length-ecu_lines vehicle (suc from) rows)

-- a statement on the line that is the row's
pub as_set : {S A : Type 0} (g : Ghosts S) (a e : EcuLine) → a ≡ e → (old new : MutBor (Held S)) (r : Result A StoreFault) → IsWritten g update_ecu_text (ecu_row a) (SetsEcu a) old new r
    → IsWritten g update_ecu_text (ecu_row e) (SetsEcu e) old new r
as_set g a e is old new r h = subst (λ x. IsWritten g update_ecu_text (ecu_row x) (SetsEcu x) old new r) is h

pub as_added : {S A : Type 0} (g : Ghosts S) (given name : List ℕ) (a e : EcuLine) → given ≡ name → a ≡ e → (old new : MutBor (Held S)) (r : Result A StoreFault)
    → IsWritten g insert_ecu_text (ecu_row a) (AltersRows ecu_table 2 (with_row given (ecu_row a))) old new r → IsWritten g insert_ecu_text (ecu_row e) (AltersRows ecu_table 2 (with_row name (ecu_row e))) old new r
as_added g given name a e named is old new r h =
    subst₂ (λ v x. IsWritten g insert_ecu_text (ecu_row x) (AltersRows ecu_table 2 (with_row v (ecu_row x))) old new r) named is h

pub vehicle_is : (made : VehicleShown) (row : VehicleRow) → vehicle_read made ≡ row → vehicle_row made ≡ vehicle_line row.vehicle row.primary row.version row.last
vehicle_is made row same = ap (λ (r : VehicleRow). vehicle_line r.vehicle r.primary r.version r.last) same

-- ---- what is put in

pub puts_vehicle : {A : Type 0} (r : Result A StoreFault) (new : VehicleRows) (vehicle : VehicleShown) (before mid after : Connected) → vehicle_read vehicle ≡ new.vehicle
    → IsTypedVehicleRow new.vehicle → OnOk r (AllByRecursion IsTypedEcu new.ecus)
    → ((rows_of : List ℕ → List Row) → HasTables before → Lists 1 rows_of (before.now.trees vehicle_table.tree) → Alters vehicle_table (Lists 1 (with_row vehicle.vehicle.now (vehicle_row vehicle) rows_of)) before mid)
    → OnOk r ((rows_of : List ℕ → List Row) → HasTables mid → Lists 2 rows_of (mid.now.trees ecu_table.tree)
    → Alters ecu_table (Lists 2 (changed_at new.vehicle.vehicle (λ were. were ++ map ecu_row (ecu_lines new.vehicle.vehicle 0 new.ecus)) rows_of)) mid after)
    → IsTrue before.is_open → OnOk r ((rows : StateRows) → IsWithin up_schema (ListsRows rows) before → IsNewVehicle new rows → GoesOn up_schema (ListsRows (with_vehicle_rows rows new)) after)
puts_vehicle (Err e) new vehicle before mid after same typed ecus_typed first second was_open = tt
puts_vehicle (Ok done) new vehicle before mid after same typed ecus_typed first second was_open = λ rows within fits.
    let here = within.here was_open in
    let name = new.vehicle.vehicle in
    let own : vehicle.vehicle.now ≡ name = ap (λ (r : VehicleRow). r.vehicle) same in
    let vehicles : List ℕ → List Row = λ n. vehicle_lines (table.get (table.insert rows.vehicles name new) n) in
    let ecu_rows : List ℕ → List Row = λ n. ecus_lines n (table.get (table.insert rows.vehicles name new) n) in
    let put = first (λ n. vehicle_lines (table.get rows.vehicles n)) (λ _. record { schema_is = here.schema_is; sound = here.sound; rows = tt }) here.rows.tables.vehicles in
    let row_is : vehicle_lines (Some new) ≡ vehicle_row vehicle ∷ [] = ap (λ row. row ∷ []) (sym (vehicle_is vehicle new.vehicle same)) in
    let named : (n : List ℕ) → with_row vehicle.vehicle.now (vehicle_row vehicle) (λ m. vehicle_lines (table.get rows.vehicles m)) n ≡ vehicles n =
    λ n. ap (λ m. with_row m (vehicle_row vehicle) (λ k. vehicle_lines (table.get rows.vehicles k)) n) own ∙ row_inserted rows.vehicles name new vehicle_lines (vehicle_row vehicle) fits.none refl row_is n in
    let one : Alters vehicle_table (Lists 1 vehicles) before mid = alters_as vehicle_table _ _ (λ trees. lists_as 1 _ _ trees named) before mid put in
    let lists = lists_vehicles (table_rows rows) vehicles before mid here.rows.tables one in
    let more = second (λ n. ecus_lines n (table.get rows.vehicles n)) (λ _. record { schema_is = one.schema_is; sound = one.sound; rows = tt }) lists.ecus in
    let ecus_are : (n : List ℕ) → changed_at name (λ were. were ++ map ecu_row (ecu_lines name 0 new.ecus)) (λ m. ecus_lines m (table.get rows.vehicles m)) n ≡ ecu_rows n =
    changed_inserted rows.vehicles name new ecus_lines (λ were. were ++ map ecu_row (ecu_lines name 0 new.ecus)) (ap (λ o. ecus_lines name o ++ map ecu_row (ecu_lines name 0 new.ecus)) fits.none) in
    let two : Alters ecu_table (Lists 2 ecu_rows) mid after = alters_as ecu_table _ _ (λ trees. lists_as 2 _ _ trees ecus_are) mid after more in
    goes_on ecu_table _ (ListsRows (with_vehicle_rows rows new)) mid after two (record {
      last = here.rows.last;
      typed = typed_vehicle rows new here.rows.typed (record { named = refl; row = typed; ecus = ecus_typed; tell = fits.tell });
      tables = lists_ecus (record (table_rows rows) { vehicles = vehicles }) ecu_rows mid after lists two;
    })
