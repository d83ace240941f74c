-- What is read of the rows of a state is the state's.
use Rattle.std.proofs.Common.{◌≡◌, ℕ, List, [], ◌∷◌, ◌++◌, Bool, true, false, cond, T, Option, Some, None, map, refl, sym, ap, ap₂, ◌∙◌, subst}
use Rattle.std.specs.Prelude.{bytes_eq, is_some, option_map, option_and_then, unwrap_or, find, filter}
use Rattle.std.specs.List.{AllByRecursion}
use Rattle.std.specs.Option.{option_or}
use Rattle.std.specs.FinMap as table
use Rattle.std.specs.FinMap.Entries.{below_all, is_sorted}
use Rattle.std.specs.FinMap.Entries as entries
use Rattle.std.specs.Ordering.{nat_cmp, eq_by_cmp, is_eq, is_lt}
use Rattle.std.specs.declared.cmp.Ordering.{Ordering}
use Rattle.std.specs.declared.cmp.Ordering.TheVariants.{Less, Equal, Greater}
use Rattle.std.specs.Cmp.{tied_itself}
use Rattle.std.proofs.lemmas.Bool.{or_parts}
use Rattle.std.proofs.lemmas.Cmp.{nat_list_cmp_total}
use Rattle.std.specs.Cmp.Lexicographic.{slice_cmp}
use Rattle.up_canon.specs.Names.{Name, Table}
use Rattle.up_sign.specs.Schemes.{Rules}
use Rattle.up_metadata.specs.declared.role_files.RoleTexts.{RoleTexts}
use Rattle.up_machine.specs.declared.rows.EcuRow.{EcuRow}
use Rattle.up_machine.specs.declared.rows.VehicleRow.{VehicleRow}
use Rattle.up_machine.specs.declared.rows.VehicleRows.{VehicleRows}
use Rattle.up_machine.specs.Files.{File, file, files, numbered_roots, latest_root, texts_in}
use Rattle.up_machine.specs.Sound.{IsSound}
use Rattle.up_machine.specs.State.{Chain, State, Vehicle, is_founded}
use Rattle.up_machine.specs.Rows.{founding_row, vehicle_rows, rows_of}
use Rattle.up_machine.specs.Reads.{version_of, ecus_of, installed}
use Rattle.up_metadata.proofs.Lists.{and_left, and_right}
use Rattle.up_machine.proofs.Lists.{none_passes}
use Rattle.up_machine.proofs.Tables.{one_name}
use Rattle.up_plan.specs.Campaigns.{CampaignData}
use Rattle.up_roles.specs.declared.repository.Repository.{Repository}
use Rattle.up_roles.specs.declared.repository.Repository.TheVariants.{Director, Image}
use Rattle.up_rows.proofs.Tables.{changed, entries_changed}
use Rattle.up_rows.specs.StateRows.{rows_of_state}
use Rattle.up_rows.specs.Lookups.{stands_among, owner_among, last_owner, owner_found, installed_among}
use Rattle.up_rows.specs.Laws.{FoundedIsFound, VehiclesAreFound, VersionsAreTold, EcusAreTold, InstalledIsTold}
use Rattle.up_store.specs.Found.{vehicle_found, ecus_found, values_where}
use Rattle.up_store.proofs.ValuesWhere.{from_T}

-- ---- vehicles

rows_whole : (o : Option VehicleRows) (vehicle : VehicleRow) (ecus : List EcuRow) → Some vehicle ≡ option_map (λ (v : VehicleRows). v.vehicle) o
    → ecus ≡ unwrap_or (option_map (λ (v : VehicleRows). v.ecus) o) [] → Some (record { vehicle = vehicle; ecus = ecus }) ≡ o
rows_whole None vehicle ecus first second = cc
rows_whole (Some v) vehicle ecus first second =
    let same : vehicle ≡ v.vehicle = cc in
    ap₂ (λ (row : VehicleRow) (rows : List EcuRow). Some (record { vehicle = row; ecus = rows })) same second

no_rows_of : (o : Option VehicleRows) → None ≡ option_map (λ (v : VehicleRows). v.vehicle) o → None ≡ o
no_rows_of None h = refl
no_rows_of (Some v) h = cc

pub vehicle_whole : (s : State) (name : Name) (vehicle : VehicleRow) (ecus : List EcuRow) → VehiclesAreFound → Some vehicle ≡ vehicle_found name (rows_of_state s)
    → ecus ≡ ecus_found name (rows_of_state s) → Some (record { vehicle = vehicle; ecus = ecus }) ≡ vehicle_rows s name
vehicle_whole s name vehicle ecus found first second = rows_whole (table.get (rows_of_state s).vehicles name) vehicle ecus first second ∙ found s name

pub no_vehicle : (s : State) (name : Name) → VehiclesAreFound → None ≡ vehicle_found name (rows_of_state s) → None ≡ vehicle_rows s name
no_vehicle s name found h = no_rows_of (table.get (rows_of_state s).vehicles name) h ∙ found s name

there_after : {A B : Type 0} (f : A → B) (o : Option A) → is_some (option_map f o) ≡ is_some o
there_after f None = refl
there_after f (Some x) = refl

-- a vehicle is known where it has a row
pub vehicle_known : (s : State) (name : Name) → VehiclesAreFound → is_some (vehicle_found name (rows_of_state s)) ≡ table.contains_key s.vehicles name
vehicle_known s name found = there_after (λ (v : VehicleRows). v.vehicle) (table.get (rows_of_state s).vehicles name) ∙ ap is_some (found s name) ∙ there_after (rows_of name) (table.get s.vehicles name)

-- ---- views

mapped_twice : {A B C : Type 0} (f : A → B) (g : B → C) (o : Option A) → option_map g (option_map f o) ≡ option_map (λ x. g (f x)) o
mapped_twice f g None = refl
mapped_twice f g (Some x) = refl

pub version_read : (s : State) (name : Name) → VersionsAreTold → option_map (λ (v : VehicleRow). v.version) (vehicle_found name (rows_of_state s)) ≡ version_of s name
version_read s name told = mapped_twice (λ (v : VehicleRows). v.vehicle) (λ (v : VehicleRow). v.version) (table.get (rows_of_state s).vehicles name) ∙ told s name

pub ecus_read : (s : State) (name : Name) → VehiclesAreFound → EcusAreTold → option_map (λ (v : VehicleRows). map (λ (row : EcuRow). row.ecu) v.ecus) (vehicle_rows s name) ≡ ecus_of s name
ecus_read s name found told = sym (ap (option_map (λ (v : VehicleRows). map (λ (row : EcuRow). row.ecu) v.ecus)) (found s name)) ∙ told s name

-- ---- the vehicle of an ECU

less_not_equal : (o : Ordering) → is_lt o ≡ true → is_eq o ≡ false
less_not_equal Less h = refl
less_not_equal Equal h = cc
less_not_equal Greater h = cc

abbrev by_name : Name → Name → Ordering
by_name = slice_cmp nat_cmp

none_below : {X : Type 0} (name : Name) (es : List (Name × X)) → below_all by_name name es ≡ true → entries.find by_name name es ≡ None
none_below name [] h = refl
none_below name (e ∷ es) h =
    ap (λ b. cond b (Some e.1) (entries.find by_name name es)) (less_not_equal (by_name name e.0) (and_left _ _ h)) ∙ none_below name es (and_right _ _ h)

abbrev IsNamed : Name × VehicleRows → Type 0
IsNamed e = e.1.vehicle.vehicle ≡ e.0

owner_at : (test : VehicleRows → Bool) (es : List (Name × VehicleRows)) (v : VehicleRows) → is_sorted by_name es ≡ true → AllByRecursion IsNamed es
    → find test (map (λ e. e.1) es) ≡ Some v → entries.find by_name v.vehicle.vehicle es ≡ Some v
owner_at test [] v sorted named h = cc
owner_at test (e ∷ es) v sorted named h = by_test (test e.1) h (λ is. owner_at test es v (and_right _ _ sorted) named.1 is)
  where
    at_front : (w : VehicleRows) → w ≡ v → e.1 ≡ w → cond (eq_by_cmp by_name v.vehicle.vehicle e.0) (Some e.1) (entries.find by_name v.vehicle.vehicle es) ≡ Some v
    at_front w is same =
        let name : v.vehicle.vehicle ≡ e.0 = ap (λ (r : VehicleRows). r.vehicle.vehicle) (sym (same ∙ is)) ∙ named.0 in
        ap (λ n. cond (eq_by_cmp by_name n e.0) (Some e.1) (entries.find by_name n es)) name
        ∙ ap (λ o. cond (is_eq o) (Some e.1) (entries.find by_name e.0 es)) (tied_itself nat_list_cmp_total e.0) ∙ ap Some (same ∙ is)

    behind : entries.find by_name v.vehicle.vehicle es ≡ Some v → (b : Bool) → eq_by_cmp by_name v.vehicle.vehicle e.0 ≡ b
        → cond b (Some e.1) (entries.find by_name v.vehicle.vehicle es) ≡ Some v
    behind found true is =
        let none : entries.find by_name v.vehicle.vehicle es ≡ None = ap (λ n. entries.find by_name n es) (one_name v.vehicle.vehicle e.0 is) ∙ none_below e.0 es (and_left _ _ sorted) in
        cc
    behind found false is = found

    by_test : (b : Bool) → cond b (Some e.1) (find test (map (λ e. e.1) es)) ≡ Some v → (find test (map (λ e. e.1) es) ≡ Some v → entries.find by_name v.vehicle.vehicle es ≡ Some v)
        → cond (eq_by_cmp by_name v.vehicle.vehicle e.0) (Some e.1) (entries.find by_name v.vehicle.vehicle es) ≡ Some v
    by_test true is more = let same : e.1 ≡ v = cc in at_front v refl same
    by_test false is more = behind (more is) _ refl

all_named : (es : List (Name × Vehicle)) → AllByRecursion IsNamed (map (changed rows_of) es)
all_named [] = tt
all_named (e ∷ es) = (refl, all_named es)

-- the vehicle in which an ECU stands is found by its name
owner_there : (s : State) (ecu : Name) (v : VehicleRows) → owner_among ecu (table.values (rows_of_state s).vehicles) ≡ Some v → table.get (rows_of_state s).vehicles v.vehicle.vehicle ≡ Some v
owner_there s ecu v h =
    let all = (rows_of_state s).vehicles in
    table.get-entries all v.vehicle.vehicle
    ∙ owner_at (λ (r : VehicleRows). stands_among ecu r.ecus) (table.entries all) v (from_T _ (table.entries_sorted all))
    (subst (AllByRecursion IsNamed) (sym (entries_changed rows_of s.vehicles)) (all_named (table.entries s.vehicles))) h

-- what holds of all values holds of the one of a name
value_at : {X : Type 0} (P : X → Type 0) (name : Name) (es : List (Name × X)) (x : X) → AllByRecursion P (map (λ e. e.1) es) → entries.find by_name name es ≡ Some x → P x
value_at P name [] x all h = cc
value_at P name (e ∷ es) x all h = by_test (eq_by_cmp by_name name e.0) h (λ is. value_at P name es x all.1 is)
  where
    by_test : (b : Bool) → cond b (Some e.1) (entries.find by_name name es) ≡ Some x → (entries.find by_name name es ≡ Some x → P x) → P x
    by_test true is more = let same : e.1 ≡ x = cc in subst P same all.0
    by_test false is more = more is

none_among : (ecu : Name) (ecus : List EcuRow) → stands_among ecu ecus ≡ false → installed_among ecu ecus ≡ None
none_among ecu [] h = refl
none_among ecu (row ∷ ecus) h =
    let both = or_parts (bytes_eq row.ecu ecu) _ h in
    ap (λ b. option_and_then (λ (r : EcuRow). r.installed) (cond b (Some row) (find (λ (r : EcuRow). bytes_eq r.ecu ecu) ecus))) both.0 ∙ none_among ecu ecus both.1

-- an ECU that stands in no vehicle doesn't stand in the one in which it was replaced
none_there : (s : State) (ecu owner : Name) (o : Option VehicleRows) → owner_among ecu (table.values (rows_of_state s).vehicles) ≡ None
    → table.get (rows_of_state s).vehicles owner ≡ o → installed_among ecu (unwrap_or (option_map (λ (r : VehicleRows). r.ecus) o) []) ≡ None
none_there s ecu owner None none is = refl
none_there s ecu owner (Some v) none is =
    let all = (rows_of_state s).vehicles in
    let each = none_passes (λ (r : VehicleRows). stands_among ecu r.ecus) (table.values all) none in
    none_among ecu v.ecus (value_at (λ (r : VehicleRows). stands_among ecu r.ecus ≡ false) owner (table.entries all) v each (sym (table.get-entries all owner) ∙ is))

installed_from : (s : State) (ecu owner : Name) (ecus : List EcuRow) (o : Option VehicleRows) → owner_among ecu (table.values (rows_of_state s).vehicles) ≡ o
    → Some owner ≡ option_or (option_map (λ (v : VehicleRows). v.vehicle.vehicle) o) (last_owner ecu (rows_of_state s)) → ecus ≡ ecus_found owner (rows_of_state s)
    → installed_among ecu ecus ≡ option_and_then (λ (v : VehicleRows). installed_among ecu v.ecus) o
installed_from s ecu owner ecus None is first second = ap (installed_among ecu) second ∙ none_there s ecu owner (table.get (rows_of_state s).vehicles owner) is refl
installed_from s ecu owner ecus (Some v) is first second =
    let name : owner ≡ v.vehicle.vehicle = cc in
    ap (installed_among ecu) (second ∙ ap (λ n. ecus_found n (rows_of_state s)) name
    ∙ ap (λ o. unwrap_or (option_map (λ (r : VehicleRows). r.ecus) o) []) (owner_there s ecu v is))

pub installed_read : (s : State) (ecu owner : Name) (ecus : List EcuRow) → InstalledIsTold → Some owner ≡ owner_found ecu (rows_of_state s) → ecus ≡ ecus_found owner (rows_of_state s)
    → installed_among ecu ecus ≡ installed s ecu
installed_read s ecu owner ecus told first second = installed_from s ecu owner ecus (owner_among ecu (table.values (rows_of_state s).vehicles)) refl first second ∙ told s ecu

not_installed : (ecu : Name) (o : Option VehicleRows) (last : Option Name) → None ≡ option_or (option_map (λ (v : VehicleRows). v.vehicle.vehicle) o) last
    → None ≡ option_and_then (λ (v : VehicleRows). installed_among ecu v.ecus) o
not_installed ecu None last h = refl
not_installed ecu (Some v) last h = cc

pub none_installed : (s : State) (ecu : Name) → InstalledIsTold → None ≡ owner_found ecu (rows_of_state s) → None ≡ installed s ecu
none_installed s ecu told h =
    not_installed ecu (owner_among ecu (table.values (rows_of_state s).vehicles)) (last_owner ecu (rows_of_state s)) h ∙ told s ecu

-- ---- files

-- before founding there is no file
no_file : (s : State) (repository : Repository) (name : Name) → s.director.texts ≡ [] → s.image.texts ≡ [] → s.files ≡ None → file s repository name ≡ None
unfolding files
no_file s Director name director image none =
    ap (λ (texts : List (List ℕ)). option_map (λ (f : File). f.1) (find (λ (f : File). bytes_eq f.0 name) (latest_root texts ++ numbered_roots texts))) director
no_file s Image name director image none =
    ap (λ (texts : List (List ℕ)). option_map (λ (f : File). f.1) (find (λ (f : File). bytes_eq f.0 name) (latest_root texts ++ numbered_roots texts ++ texts_in s.files))) image
    ∙ ap (λ (o : Option RoleTexts). option_map (λ (f : File). f.1) (find (λ (f : File). bytes_eq f.0 name) (texts_in o))) none

no_texts : (o : Option RoleTexts) → is_some o ≡ false → o ≡ None
no_texts None h = refl
no_texts (Some texts) h = cc

-- where there is a file, there is a founding
pub founded_with : (k : Rules) (s : State) (repository : Repository) (name : Name) (text : List ℕ) → FoundedIsFound → IsSound k s → Some text ≡ file s repository name → true ≡ is_some (founding_row s)
founded_with k s repository name text founded sound there = by_files (is_founded s) refl
  where
    by_files : (b : Bool) → is_founded s ≡ b → true ≡ is_some (founding_row s)
    by_files true is = sym (founded s ∙ is)
    by_files false is =
        let none = no_texts s.files is in
        let un = sound.repositories.unfounded none in
        absurd (let e = there ∙ no_file s repository name (ap (λ (c : Chain). c.texts) un.director_is) (ap (λ (c : Chain). c.texts) un.image_is) none in cc)

-- ---- the running campaigns

below_filtered : {X : Type 0} (p : Name × X → Bool) (name : Name) (es : List (Name × X)) → below_all by_name name es ≡ true → below_all by_name name (filter p es) ≡ true
below_filtered p name [] h = refl
below_filtered p name (e ∷ es) h = by_test (p e) (below_filtered p name es (and_right (is_lt (by_name name e.0)) (below_all by_name name es) h))
  where
    by_test : (b : Bool) → below_all by_name name (filter p es) ≡ true → below_all by_name name (cond b (e ∷ filter p es) (filter p es)) ≡ true
    by_test true more = rw (and_left (is_lt (by_name name e.0)) (below_all by_name name es) h, more)
    by_test false more = more

sorted_filtered : {X : Type 0} (p : Name × X → Bool) (es : List (Name × X)) → is_sorted by_name es ≡ true → is_sorted by_name (filter p es) ≡ true
sorted_filtered p [] h = refl
sorted_filtered p (e ∷ es) h = by_test (p e) (sorted_filtered p es (and_right (below_all by_name e.0 es) (is_sorted by_name es) h))
  where
    by_test : (b : Bool) → is_sorted by_name (filter p es) ≡ true → is_sorted by_name (cond b (e ∷ filter p es) (filter p es)) ≡ true
    by_test true more = rw (below_filtered p e.0 es (and_left (below_all by_name e.0 es) (is_sorted by_name es) h), more)
    by_test false more = more

filtered_values : {X : Type 0} (p : X → Bool) (es : List (Name × X)) → map (λ e. e.1) (filter (λ e. p e.1) es) ≡ filter p (map (λ e. e.1) es)
filtered_values p [] = refl
filtered_values p (e ∷ es) = by_test (p e.1) (filtered_values p es)
  where
    by_test : (b : Bool) → map (λ e. e.1) (filter (λ e. p e.1) es) ≡ filter p (map (λ e. e.1) es)
        → map (λ e. e.1) (cond b (e ∷ filter (λ e. p e.1) es) (filter (λ e. p e.1) es)) ≡ cond b (e.1 ∷ filter p (map (λ e. e.1) es)) (filter p (map (λ e. e.1) es))
    by_test true more = ap (λ xs. e.1 ∷ xs) more
    by_test false more = more

pub running_sorted : (campaigns : Table CampaignData) → table.values (values_where (λ (c : CampaignData). c.running) campaigns) ≡ filter (λ (c : CampaignData). c.running) (table.values campaigns)
running_sorted campaigns =
    let test = λ (c : CampaignData). c.running in
    let es = table.entries campaigns in
    let sorted : T (is_sorted by_name (filter (λ e. test e.1) es)) = subst T (sym (sorted_filtered (λ e. test e.1) es (from_T _ (table.entries_sorted campaigns)))) tt in
    ap (λ (found : List (Name × CampaignData)). map (λ e. e.1) found) (table.entries-from_sorted by_name (filter (λ e. test e.1) es) sorted)
    ∙ filtered_values test es
