-- What is looked up among the rows of a state is the state's.
use Rattle.std.proofs.Common.{◌≡◌, ℕ, ◌+◌, List, [], ◌∷◌, Bool, true, false, cond, Option, Some, None, map, refl, ap, ap₂, ◌∙◌}
use Rattle.std.specs.Prelude.{◌==◌, ◌||◌, is_some, option_map, option_and_then, unwrap_or, find, length, bytes_eq}
use Rattle.std.specs.List.{AllByRecursion, enumerate_from, list_any}
use Rattle.std.specs.Option.{option_or}
use Rattle.std.specs.Cmp.Lexicographic.{bytes_decides}
use Rattle.std.specs.FinMap as table
use Rattle.up_canon.specs.Names.{Name}
use Rattle.up_manifest.specs.declared.report.Installed.{Installed}
use Rattle.up_machine.specs.declared.rows.EcuRow.{EcuRow}
use Rattle.up_machine.specs.declared.rows.VehicleRows.{VehicleRows}
use Rattle.up_machine.specs.declared.rows.Kept.{Kept}
use Rattle.up_machine.specs.declared.vehicle.NewEcu.{NewEcu}
use Rattle.up_machine.specs.Vehicles.{has_ecu, is_among, ecu_names}
use Rattle.up_machine.specs.State.{Entry, Vehicle, State, last_counter, plan_for, installed_on}
use Rattle.up_machine.specs.Rows.{ecu_row, rows_of, kept_row}
use Rattle.up_machine.proofs.SoundRows.{row_names}
use Rattle.up_machine.proofs.Values.{each_found}
use Rattle.up_rows.specs.StateRows.{retired_names, rows_of_state}
use Rattle.up_rows.specs.Lookups.{stands_among, owner_among, last_owner, installed_among, kept_with}
use Rattle.up_rows.specs.Laws.{VehiclesAreFound, KeptAreFound, TakenAreFound, VersionsAreTold, EcusAreTold, InstalledIsTold, AssignedIsTold}
use Rattle.up_rows.proofs.Tables.{changed, entries_changed, get_changed}
use Rattle.up_rows.proofs.Vehicles.{rows_for}

-- ---- vehicles

pub vehicles_found : VehiclesAreFound
vehicles_found s name = get_changed rows_of s.vehicles name

pub versions_told : VersionsAreTold
versions_told s name = ap (option_map (λ (rows : VehicleRows). rows.vehicle.version)) (vehicles_found s name) ∙ by_case (table.get s.vehicles name)
  where
    by_case : (o : Option Vehicle) → option_map (λ (rows : VehicleRows). rows.vehicle.version) (option_map (rows_of name) o) ≡ option_map (λ (v : Vehicle). length v.entries) o
    by_case None = refl
    by_case (Some v) = refl

pub ecus_told : EcusAreTold
ecus_told s name = ap (option_map (λ (rows : VehicleRows). map (λ (row : EcuRow). row.ecu) rows.ecus)) (vehicles_found s name) ∙ by_case (table.get s.vehicles name)
  where
    by_case : (o : Option Vehicle) → option_map (λ (rows : VehicleRows). map (λ (row : EcuRow). row.ecu) rows.ecus) (option_map (rows_of name) o) ≡ option_map (λ (v : Vehicle). ecu_names v.ecus) o
    by_case None = refl
    by_case (Some v) = ap Some (row_names v v.ecus)

-- ---- whether a name is that of an ECU, or of one that was replaced

among_rows : (v : Vehicle) (ecu : Name) (ecus : List NewEcu) → stands_among ecu (map (ecu_row v) ecus) ≡ has_ecu ecu ecus
among_rows v ecu [] = refl
among_rows v ecu (e ∷ ecus) = ap (λ t. bytes_eq e.ecu ecu || t) (among_rows v ecu ecus)

abbrev any_has : Name → List VehicleRows → Bool
any_has ecu vehicles = list_any (λ (rows : VehicleRows). stands_among ecu rows.ecus) vehicles

among_vehicles : (ecu : Name) (es : List (Name × Vehicle)) → any_has ecu (map (λ e. e.1) (map (changed rows_of) es)) ≡ list_any (λ (v : Vehicle). has_ecu ecu v.ecus) (map (λ e. e.1) es)
among_vehicles ecu [] = refl
among_vehicles ecu (e ∷ es) = ap₂ (λ a c. a || c) (among_rows e.1 ecu e.1.ecus) (among_vehicles ecu es)

abbrev any_had : State → Name → List Name → Bool
any_had s ecu names = list_any (λ (name : Name). is_among ecu (retired_names s name)) names

among_retired : (s : State) (ecu : Name) (es : List (Name × Vehicle)) → AllByRecursion (λ (e : Name × Vehicle). table.get s.vehicles e.0 ≡ Some e.1) es
    → any_had s ecu (map (λ e. e.0) (map (changed rows_of) es)) ≡ list_any (λ (v : Vehicle). is_among ecu v.retired) (map (λ e. e.1) es)
among_retired s ecu [] all = refl
among_retired s ecu (e ∷ es) all = ap₂ (λ a c. a || c) (ap (λ (o : Option Vehicle). is_among ecu (unwrap_or (option_map (λ (v : Vehicle). v.retired) o) [])) all.0) (among_retired s ecu es all.1)

or_exchanged : (a b c d : Bool) → ((a || c) || (b || d)) ≡ ((a || b) || (c || d))
or_exchanged true b c d = refl
or_exchanged false true true d = refl
or_exchanged false true false d = refl
or_exchanged false false c d = refl

either_any : {A : Type 0} (p q : A → Bool) (xs : List A) → (list_any p xs || list_any q xs) ≡ list_any (λ x. p x || q x) xs
either_any p q [] = refl
either_any p q (x ∷ xs) = or_exchanged (p x) (q x) (list_any p xs) (list_any q xs) ∙ ap (λ t. (p x || q x) || t) (either_any p q xs)

found_any : {A : Type 0} (test : A → Bool) (xs : List A) → is_some (find test xs) ≡ list_any test xs
found_any test [] = refl
found_any test (x ∷ xs) = by_test (test x) (found_any test xs)
  where
    by_test : (b : Bool) → is_some (find test xs) ≡ list_any test xs → is_some (cond b (Some x) (find test xs)) ≡ (b || list_any test xs)
    by_test true more = refl
    by_test false more = more

some_or : {A B : Type 0} (f : A → B) (o : Option A) (p : Option B) → is_some (option_or (option_map f o) p) ≡ (is_some o || is_some p)
some_or f None p = refl
some_or f (Some x) p = refl

has_found : (s : State) (ecu : Name) → is_some (owner_among ecu (table.values (rows_of_state s).vehicles)) ≡ list_any (λ (v : Vehicle). has_ecu ecu v.ecus) (table.values s.vehicles)
has_found s ecu =
    found_any (λ (rows : VehicleRows). stands_among ecu rows.ecus) (table.values (rows_of_state s).vehicles)
    ∙ ap (λ (es : List (Name × VehicleRows)). any_has ecu (map (λ e. e.1) es)) (entries_changed rows_of s.vehicles) ∙ among_vehicles ecu (table.entries s.vehicles)

had_found : (s : State) (ecu : Name) → is_some (last_owner ecu (rows_of_state s)) ≡ list_any (λ (v : Vehicle). is_among ecu v.retired) (table.values s.vehicles)
had_found s ecu =
    found_any (λ (name : Name). is_among ecu (retired_names s name)) (table.keys (rows_of_state s).vehicles)
    ∙ ap (λ (es : List (Name × VehicleRows)). any_had s ecu (map (λ e. e.0) es)) (entries_changed rows_of s.vehicles) ∙ among_retired s ecu (table.entries s.vehicles) (each_found s.vehicles)

pub taken_found : TakenAreFound
taken_found s ecu =
    some_or (λ (v : VehicleRows). v.vehicle.vehicle) (owner_among ecu (table.values (rows_of_state s).vehicles)) (last_owner ecu (rows_of_state s))
    ∙ ap₂ (λ a c. a || c) (has_found s ecu) (had_found s ecu)
    ∙ either_any (λ (v : Vehicle). has_ecu ecu v.ecus) (λ (v : Vehicle). is_among ecu v.retired) (table.values s.vehicles)

-- ---- the image that an ECU reported last

image_read : (v : Vehicle) (ecu : Name) (ecus : List NewEcu) → has_ecu ecu ecus ≡ true → installed_among ecu (map (ecu_row v) ecus) ≡ installed_on v ecu
image_read v ecu [] h = cc
image_read v ecu (e ∷ ecus) h = by_test (bytes_eq e.ecu ecu) refl h (image_read v ecu ecus)
  where
    by_test : (t : Bool) → bytes_eq e.ecu ecu ≡ t → (t || has_ecu ecu ecus) ≡ true → (has_ecu ecu ecus ≡ true → installed_among ecu (map (ecu_row v) ecus) ≡ installed_on v ecu)
        → option_and_then (λ (row : EcuRow). row.installed) (cond t (Some (ecu_row v e)) (find (λ (row : EcuRow). bytes_eq row.ecu ecu) (map (ecu_row v) ecus))) ≡ installed_on v ecu
    by_test true is h more = ap (installed_on v) ((bytes_decides e.ecu ecu).0 is)
    by_test false is h more = more h

abbrev found_image : Name → List VehicleRows → Option Installed
found_image ecu vehicles = option_and_then (λ (rows : VehicleRows). installed_among ecu rows.ecus) (owner_among ecu vehicles)

owner_read : (ecu : Name) (es : List (Name × Vehicle)) → found_image ecu (map (λ e. e.1) (map (changed rows_of) es))
    ≡ option_and_then (λ (v : Name × Vehicle). installed_on v.1 ecu) (find (λ (v : Name × Vehicle). has_ecu ecu v.1.ecus) es)
owner_read ecu [] = refl
owner_read ecu (e ∷ es) =
    ap (λ t. option_and_then (λ (rows : VehicleRows). installed_among ecu rows.ecus) (cond t (Some (rows_of e.0 e.1)) (owner_among ecu (map (λ e. e.1) (map (changed rows_of) es))))) (among_rows e.1 ecu e.1.ecus)
    ∙ by_test (has_ecu ecu e.1.ecus) refl (owner_read ecu es)
  where
    by_test : (t : Bool) → has_ecu ecu e.1.ecus ≡ t
        → found_image ecu (map (λ e. e.1) (map (changed rows_of) es)) ≡ option_and_then (λ (v : Name × Vehicle). installed_on v.1 ecu) (find (λ (v : Name × Vehicle). has_ecu ecu v.1.ecus) es)
        → option_and_then (λ (rows : VehicleRows). installed_among ecu rows.ecus) (cond t (Some (rows_of e.0 e.1)) (owner_among ecu (map (λ e. e.1) (map (changed rows_of) es))))
        ≡ option_and_then (λ (v : Name × Vehicle). installed_on v.1 ecu) (cond t (Some e) (find (λ (v : Name × Vehicle). has_ecu ecu v.1.ecus) es))
    by_test true is more = image_read e.1 ecu e.1.ecus is
    by_test false is more = more

pub installed_told : InstalledIsTold
installed_told s ecu = ap (λ (es : List (Name × VehicleRows)). found_image ecu (map (λ e. e.1) es)) (entries_changed rows_of s.vehicles) ∙ owner_read ecu (table.entries s.vehicles)

-- ---- the kept row of a counter

find_row : (name : Name) (counter n : ℕ) (entries : List Entry)
    → find (λ (row : Kept). row.counter == counter) (map (λ (e : ℕ × Entry). kept_row name e.0 e.1) (enumerate_from n entries))
    ≡ option_map (λ (e : ℕ × Entry). kept_row name e.0 e.1) (find (λ (e : ℕ × Entry). e.1.counter == counter) (enumerate_from n entries))
find_row name counter n [] = refl
find_row name counter n (e ∷ entries) = by_test (e.counter == counter) (find_row name counter (n + 1) entries)
  where
    by_test : (t : Bool)
        → find (λ (row : Kept). row.counter == counter) (map (λ (e : ℕ × Entry). kept_row name e.0 e.1) (enumerate_from (n + 1) entries))
        ≡ option_map (λ (e : ℕ × Entry). kept_row name e.0 e.1) (find (λ (e : ℕ × Entry). e.1.counter == counter) (enumerate_from (n + 1) entries))
        → cond t (Some (kept_row name n e)) (find (λ (row : Kept). row.counter == counter) (map (λ (e : ℕ × Entry). kept_row name e.0 e.1) (enumerate_from (n + 1) entries)))
        ≡ option_map (λ (e : ℕ × Entry). kept_row name e.0 e.1) (cond t (Some (n, e)) (find (λ (e : ℕ × Entry). e.1.counter == counter) (enumerate_from (n + 1) entries)))
    by_test true more = refl
    by_test false more = more

pub kept_found : KeptAreFound
kept_found s name counter = by_case (table.get s.vehicles name)
  where
    by_case : (o : Option Vehicle) → find (λ (row : Kept). row.counter == counter) (unwrap_or (option_map (rows_for name) o) [])
        ≡ option_and_then (λ (v : Vehicle). option_map (λ (e : ℕ × Entry). kept_row name e.0 e.1) (find (λ (e : ℕ × Entry). e.1.counter == counter) (enumerate_from 1 v.entries))) o
    by_case None = refl
    by_case (Some v) = find_row name counter 1 v.entries

-- ---- what is assigned to a vehicle

plan_row : (name : Name) (counter n : ℕ) (entries : List Entry)
    → option_map (λ (row : Kept). row.plan) (option_map (λ (e : ℕ × Entry). kept_row name e.0 e.1) (find (λ (e : ℕ × Entry). e.1.counter == counter) (enumerate_from n entries)))
    ≡ option_map (λ (e : Entry). e.plan) (find (λ (e : Entry). e.counter == counter) entries)
plan_row name counter n [] = refl
plan_row name counter n (e ∷ entries) = by_test (e.counter == counter) (plan_row name counter (n + 1) entries)
  where
    by_test : (t : Bool)
        → option_map (λ (row : Kept). row.plan) (option_map (λ (e : ℕ × Entry). kept_row name e.0 e.1) (find (λ (e : ℕ × Entry). e.1.counter == counter) (enumerate_from (n + 1) entries)))
        ≡ option_map (λ (e : Entry). e.plan) (find (λ (e : Entry). e.counter == counter) entries)
        → option_map (λ (row : Kept). row.plan) (option_map (λ (e : ℕ × Entry). kept_row name e.0 e.1) (cond t (Some (n, e)) (find (λ (e : ℕ × Entry). e.1.counter == counter) (enumerate_from (n + 1) entries))))
        ≡ option_map (λ (e : Entry). e.plan) (cond t (Some e) (find (λ (e : Entry). e.counter == counter) entries))
    by_test true more = refl
    by_test false more = more

pub assigned_told : AssignedIsTold
assigned_told s name =
    ap (λ (o : Option VehicleRows). option_map (λ (row : Kept). row.plan) (option_and_then (λ (rows : VehicleRows). kept_with name rows.vehicle.last (rows_of_state s)) o)) (vehicles_found s name) ∙ by_case (table.get s.vehicles name) refl
  where
    by_case : (o : Option Vehicle) → table.get s.vehicles name ≡ o
        → option_map (λ (row : Kept). row.plan) (option_and_then (λ (rows : VehicleRows). kept_with name rows.vehicle.last (rows_of_state s)) (option_map (rows_of name) o)) ≡ option_and_then plan_for o
    by_case None is = refl
    by_case (Some v) is =
        ap (option_map (λ (row : Kept). row.plan)) (kept_found s name (last_counter v.entries)
        ∙ ap (option_and_then (λ (w : Vehicle). option_map (λ (e : ℕ × Entry). kept_row name e.0 e.1) (find (λ (e : ℕ × Entry). e.1.counter == last_counter v.entries) (enumerate_from 1 w.entries)))) is)
        ∙ plan_row name (last_counter v.entries) 1 v.entries
