-- What the rows of a vehicle say of it where a vehicle is added.
use Rattle.std.proofs.Common.{◌≡◌, ℕ, ◌≤◌, List, [], ◌∷◌, Bool, true, false, cond, Option, Some, None, Result, Ok, Err, refl, ap, ◌∙◌}
use Rattle.std.specs.Prelude.{◌&&◌, map, find, option_map, bytes_eq, codes}
use Rattle.std.specs.List.{list_all, zip}
use Rattle.std.specs.Cmp.Lexicographic.{pointwise}
use Rattle.std.specs.FinMap as table
use Rattle.up_canon.specs.Moments.{last_command_moment}
use Rattle.up_canon.specs.Names.{Name}
use Rattle.up_canon.specs.Steps.{and_then, unless}
use Rattle.up_canon.specs.declared.refusal.Refusal.{Refusal}
use Rattle.up_canon.specs.declared.refusal.Refusal.TheVariants.{BadShape, VehicleTaken}
use Rattle.up_machine.specs.declared.rows.VehicleRows.{VehicleRows}
use Rattle.up_machine.specs.declared.vehicle.NewEcu.{NewEcu}
use Rattle.up_machine.specs.Vehicles.{NewVehicleData, ecu_names, first_marked, public_fits}
use Rattle.up_machine.specs.State.{Vehicle, State, added, last_report}
use Rattle.up_machine.specs.Deciding.{Outcome, already, where_new, check_founded}
use Rattle.up_machine.specs.Inventory.{same_ecu, same_vehicle, decide_new_vehicle, decide_vehicle}
use Rattle.up_sign.specs.Schemes.{Rules}
use Rattle.up_canon.proofs.Steps.{bind-ok}
use Rattle.up_machine.proofs.Fetched.{in_time}
use Rattle.up_machine.specs.Rows.{ecu_row, new_row, new_rows, rows_of, same_ecu_row, same_rows, vehicle_rows}

-- ---- a vehicle whose public parts fit

pub of_fitting : (k : Rules) (s : State) (at : ℕ) (new : NewVehicleData) → at ≤ last_command_moment → list_all (λ (e : NewEcu). public_fits k e.public) new.ecus ≡ true
    → decide_vehicle k s at new ≡ and_then (check_founded s) (λ x. where_new s (same_vehicle new) VehicleTaken (table.get s.vehicles new.vehicle) (decide_new_vehicle s new))
unfolding decide_vehicle
of_fitting k s at new moment fit = bind-ok _ _ tt (in_time at moment) ∙ bind-ok _ _ tt (ap (λ b. unless b (BadShape (codes "key"))) fit)

-- ---- a vehicle that is there

each_pair : (v : Vehicle) (new old : List NewEcu) → pointwise same_ecu_row new (map (ecu_row v) old) ≡ pointwise same_ecu new old
each_pair v [] [] = refl
each_pair v [] (y ∷ ys) = refl
each_pair v (x ∷ xs) [] = refl
each_pair v (x ∷ xs) (y ∷ ys) = ap (λ b. same_ecu x y && b) (each_pair v xs ys)

same_by_rows : (new : NewVehicleData) (v : Vehicle) → same_rows new (rows_of new.vehicle v) ≡ same_vehicle new v
same_by_rows new v = ap (λ b. bytes_eq new.primary v.primary && b) (each_pair v new.ecus v.ecus)

there_in : (s : State) (new : NewVehicleData) (taken : Refusal) (o : Option Vehicle) (decided : Result Outcome Refusal)
    → where_new s (same_vehicle new) taken o decided ≡ where_new s (same_rows new) taken (option_map (rows_of new.vehicle) o) decided
there_in s new taken None decided = refl
there_in s new taken (Some v) decided = rw same_by_rows

-- the rows tell whether it is the same
there_by_rows : (s : State) (new : NewVehicleData) (taken : Refusal) (old : Option VehicleRows) (decided : Result Outcome Refusal) → old ≡ vehicle_rows s new.vehicle
    → where_new s (same_vehicle new) taken (table.get s.vehicles new.vehicle) decided ≡ where_new s (same_rows new) taken old decided
there_by_rows s new taken old decided is = rw is (there_in s new taken (table.get s.vehicles new.vehicle) decided)

pub same_there : (s : State) (new : NewVehicleData) (old : Option VehicleRows) (rows : VehicleRows) (decided : Result Outcome Refusal) → old ≡ vehicle_rows s new.vehicle → old ≡ Some rows → same_rows new rows ≡ true
    → where_new s (same_vehicle new) VehicleTaken (table.get s.vehicles new.vehicle) decided ≡ Ok (already s)
same_there s new old rows decided of_state is same =
    there_by_rows s new VehicleTaken old decided of_state ∙ ap (λ o. where_new s (same_rows new) VehicleTaken o decided) is ∙ ap (λ b. cond b (Ok (already s)) (Err VehicleTaken)) same

pub other_there : (s : State) (new : NewVehicleData) (old : Option VehicleRows) (rows : VehicleRows) (decided : Result Outcome Refusal) → old ≡ vehicle_rows s new.vehicle → old ≡ Some rows → same_rows new rows ≡ false
    → where_new s (same_vehicle new) VehicleTaken (table.get s.vehicles new.vehicle) decided ≡ Err VehicleTaken
other_there s new old rows decided of_state is other =
    there_by_rows s new VehicleTaken old decided of_state ∙ ap (λ o. where_new s (same_rows new) VehicleTaken o decided) is ∙ ap (λ b. cond b (Ok (already s)) (Err VehicleTaken)) other

pub none_there : (s : State) (new : NewVehicleData) (old : Option VehicleRows) (decided : Result Outcome Refusal) → old ≡ vehicle_rows s new.vehicle → old ≡ None
    → where_new s (same_vehicle new) VehicleTaken (table.get s.vehicles new.vehicle) decided ≡ decided
none_there s new old decided of_state is = there_by_rows s new VehicleTaken old decided of_state ∙ ap (λ o. where_new s (same_rows new) VehicleTaken o decided) is

-- ---- a vehicle that is new

each_new : (name primary : Name) (all ecus : List NewEcu) → map new_row ecus ≡ map (ecu_row (record { primary = primary; ecus = all; retired = []; entries = [] })) ecus
unfolding last_report
each_new name primary all [] = refl
each_new name primary all (e ∷ ecus) = ap (λ rows. new_row e ∷ rows) (each_new name primary all ecus)

pub rows_of_new : (new : NewVehicleData) → new_rows new ≡ rows_of new.vehicle (added new)
rows_of_new new = ap (λ rows. record { vehicle = record { vehicle = new.vehicle; primary = new.primary; version = 0; last = 0 }; ecus = rows }) (each_new new.vehicle new.primary new.ecus new.ecus)

-- the first ECU with a mark is the first that passes
pub taken_first : (p : Name → Bool) (ecus : List NewEcu) → find p (ecu_names ecus) ≡ first_marked ecus (map p (ecu_names ecus))
taken_first p [] = refl
taken_first p (e ∷ ecus) = by_test (p e.ecu) (taken_first p ecus)
  where
    by_test : (b : Bool) → find p (ecu_names ecus) ≡ first_marked ecus (map p (ecu_names ecus))
        → cond b (Some e.ecu) (find p (ecu_names ecus)) ≡ option_map (λ e. e.0.ecu) (cond b (Some (e, b)) (find (λ e. e.1) (zip ecus (map p (ecu_names ecus)))))
    by_test true rest = refl
    by_test false rest = rest
