-- The rows of a sound state tell the state, and the empty state has none.
use Rattle.std.proofs.Common.{◌≡◌, ◌≤◌, ℕ, ◌+◌, List, [], ◌∷◌, Option, Some, None, map, refl, sym, ap, ◌∙◌, arith}
use Rattle.std.specs.Prelude.{option_map, unwrap_or, is_some}
use Rattle.std.specs.List.{enumerate_from}
use Rattle.std.specs.FinMap as table
use Rattle.std.specs.FinMap.{same_map, get-empty, nat_cmp-IsAntisymmetric, slice_cmp-IsAntisymmetric}
use Rattle.std.specs.Ordering.{nat_cmp}
use Rattle.std.specs.Cmp.Lexicographic.{slice_cmp}
use Rattle.std.proofs.lemmas.Cmp.{nat_list_cmp_total}
use Rattle.up_canon.specs.Names.{Name}
use Rattle.up_metadata.specs.declared.role_files.RoleTexts.{RoleTexts}
use Rattle.up_machine.specs.declared.rows.Founding.{Founding}
use Rattle.up_machine.specs.declared.rows.Kept.{Kept}
use Rattle.up_machine.specs.declared.vehicle.NewEcu.{NewEcu}
use Rattle.up_machine.specs.State.{Chain, Entry, Vehicle, State, empty_state, no_keys}
use Rattle.up_machine.specs.Rows.{founding_row, ecu_row, rows_of, kept_row}
use Rattle.up_rows.specs.Tables.{each_value}
use Rattle.up_rows.specs.StateRows.{kept_rows, retired_names, chain_of_rows, ecu_of, entry_of, vehicle_of_rows}
use Rattle.up_rows.specs.Laws.{RowsTellTheState, NoRowsOfTheEmptyState, FoundedIsFound}
use Rattle.up_machine.proofs.FoundedRow.{row_of}
use Rattle.up_rows.proofs.Tables.{get_changed}

pub ecus_back : (v : Vehicle) (ecus : List NewEcu) → map ecu_of (map (ecu_row v) ecus) ≡ ecus
ecus_back v [] = refl
ecus_back v (e ∷ ecus) = ap (λ (es : List NewEcu). e ∷ es) (ecus_back v ecus)

entries_back : (name : Name) (n : ℕ) (entries : List Entry) → map entry_of (map (λ (e : ℕ × Entry). kept_row name e.0 e.1) (enumerate_from n entries)) ≡ entries
entries_back name n [] = refl
entries_back name n (e ∷ entries) = ap (λ (es : List Entry). e ∷ es) (entries_back name (n + 1) entries)

vehicle_back : (kept : Name → List Kept) (retired : Name → List Name) (name : Name) (o : Option Vehicle)
    → kept name ≡ unwrap_or (option_map (λ (v : Vehicle). map (λ (e : ℕ × Entry). kept_row name e.0 e.1) (enumerate_from 1 v.entries)) o) []
    → retired name ≡ unwrap_or (option_map (λ (v : Vehicle). v.retired) o) []
    → option_map (vehicle_of_rows kept retired name) (option_map (rows_of name) o) ≡ o
vehicle_back kept retired name None h names = refl
vehicle_back kept retired name (Some v) h names =
    let ecus : map ecu_of (map (ecu_row v) v.ecus) ≡ v.ecus = ecus_back v v.ecus in
    let entries : map entry_of (kept name) ≡ v.entries = ap (map entry_of) h ∙ entries_back name 1 v.entries in
    λ i. Some (record { primary = v.primary; ecus = ecus i; retired = names i; entries = entries i })

vehicles_back : (s : State) → each_value (vehicle_of_rows (kept_rows s) (retired_names s)) (each_value rows_of s.vehicles) ≡ s.vehicles
vehicles_back s = same_map nat_list_cmp_total (slice_cmp-IsAntisymmetric nat_cmp-IsAntisymmetric) _ _ (λ name.
    get_changed (vehicle_of_rows (kept_rows s) (retired_names s)) (each_value rows_of s.vehicles) name
    ∙ ap (option_map (vehicle_of_rows (kept_rows s) (retired_names s) name)) (get_changed rows_of s.vehicles name)
    ∙ vehicle_back (kept_rows s) (retired_names s) name (table.get s.vehicles name) refl refl)

-- ---- the founding

pub founded : FoundedIsFound
founded s = by_files s.files
  where
    by_files : (o : Option RoleTexts) → is_some (option_map (λ files. row_of s) o) ≡ is_some o
    by_files None = refl
    by_files (Some files) = refl

-- a part of the founding, or what stands there before it
founded_part : {A : Type 0} (s : State) (f : Founding → A) (value none : A) (o : Option RoleTexts) → f (row_of s) ≡ value → (o ≡ None → value ≡ none)
    → unwrap_or (option_map f (option_map (λ files. row_of s) o)) none ≡ value
founded_part s f value none None some before = sym (before refl)
founded_part s f value none (Some files) some before = some

at_most_zero : (a b : ℕ) → a ≤ b → b ≡ 0 → a ≡ 0
at_most_zero a b most none = omega (arith, most, none)

-- ---- the state

pub told : RowsTellTheState
told k s sound =
    let unfounded = sound.repositories.unfounded in
    let director : chain_of_rows (λ f. f.keys.director) (founding_row s) s.director.texts ≡ s.director =
    ap {B = Chain} (λ keys. record { texts = s.director.texts; keys = keys }) (founded_part s (λ (row : Founding). row.keys.director) s.director.keys no_keys s.files refl (λ none. ap (λ (c : Chain). c.keys) (unfounded none).director_is)) in
    let image : chain_of_rows (λ f. f.keys.image) (founding_row s) s.image.texts ≡ s.image =
    ap {B = Chain} (λ keys. record { texts = s.image.texts; keys = keys }) (founded_part s (λ (row : Founding). row.keys.image) s.image.keys no_keys s.files refl (λ none. ap (λ (c : Chain). c.keys) (unfounded none).image_is)) in
    let image_version : unwrap_or (option_map (λ (row : Founding). row.image_version) (founding_row s)) 0 ≡ s.image_version =
    founded_part s (λ (row : Founding). row.image_version) s.image_version 0 s.files refl (λ none. (unfounded none).version) in
    let targets_version : unwrap_or (option_map (λ (row : Founding). row.targets_version) (founding_row s)) 0 ≡ s.targets_version =
    founded_part s (λ (row : Founding). row.targets_version) s.targets_version 0 s.files refl (λ none. at_most_zero s.targets_version s.image_version sound.repositories.targets_limit (unfounded none).version) in
    let stamp : unwrap_or (option_map (λ (row : Founding). row.stamp) (founding_row s)) 0 ≡ s.stamp =
    founded_part s (λ (row : Founding). row.stamp) s.stamp 0 s.files refl (λ none. (unfounded none).moment) in
    let vehicles = vehicles_back s in
    λ i. record { director = director i; image = image i; files = s.files; images = s.images; image_version = image_version i; targets_version = targets_version i; stamp = stamp i; campaigns = s.campaigns; vehicles = vehicles i }

-- ---- nothing is founded

no_vehicles : each_value rows_of table.empty ≡ table.empty
no_vehicles = same_map nat_list_cmp_total (slice_cmp-IsAntisymmetric nat_cmp-IsAntisymmetric) _ _ (λ name.
    get_changed rows_of table.empty name ∙ ap (option_map (rows_of name)) (get-empty (slice_cmp nat_cmp) name) ∙ sym (get-empty (slice_cmp nat_cmp) name))

none_kept : (name : Name) → kept_rows empty_state name ≡ []
none_kept name = ap (λ (o : Option Vehicle). unwrap_or (option_map (λ (v : Vehicle). map (λ (e : ℕ × Entry). kept_row name e.0 e.1) (enumerate_from 1 v.entries)) o) []) (get-empty (slice_cmp nat_cmp) name)

none_retired : (name : Name) → retired_names empty_state name ≡ []
none_retired name = ap (λ (o : Option Vehicle). unwrap_or (option_map (λ (v : Vehicle). v.retired) o) []) (get-empty (slice_cmp nat_cmp) name)

pub empty : NoRowsOfTheEmptyState
empty =
    let vehicles : each_value rows_of table.empty ≡ table.empty = no_vehicles in
    let kept : (name : Name) → kept_rows empty_state name ≡ [] = none_kept in
    let retired : (name : Name) → retired_names empty_state name ≡ [] = none_retired in
    λ i. record { founding = None; director = []; image = []; images = table.empty; files = None; campaigns = table.empty; vehicles = vehicles i; kept = λ name. kept name i; retired = λ name. retired name i }
