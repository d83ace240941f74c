-- An ECU that replaces another one takes the rows of a state to those of the next.
use Rattle.std.proofs.Common.{◌≡◌, List, [], ◌∷◌, ◌++◌, Bool, true, false, cond, Option, Some, None, map, refl, sym, ap, ap₂, ◌∙◌}
use Rattle.std.specs.Prelude.{◌||◌, option_map, option_and_then, unwrap_or, bytes_eq, if◌then◌else◌}
use Rattle.std.specs.List.{AllByRecursion, list_all}
use Rattle.std.specs.Cmp.Lexicographic.{bytes_decides}
use Rattle.std.specs.FinMap as table
use Rattle.up_canon.specs.Names.{Name}
use Rattle.up_manifest.specs.declared.manifest.Manifest.{Manifest}
use Rattle.up_manifest.specs.declared.report.SignedReport.{SignedReport}
use Rattle.up_manifest.specs.Manifests.{manifest_of}
use Rattle.up_machine.specs.declared.rows.EcuRow.{EcuRow}
use Rattle.up_machine.specs.declared.rows.Kept.{Kept}
use Rattle.up_machine.specs.declared.rows.VehicleRows.{VehicleRows}
use Rattle.up_machine.specs.declared.vehicle.NewEcu.{NewEcu}
use Rattle.up_machine.specs.declared.vehicle.Replacement.{Replacement}
use Rattle.up_machine.specs.Deliveries.{report_name}
use Rattle.up_machine.specs.Inventory.{with_replaced, with_replacement}
use Rattle.up_machine.specs.Rows.{founding_row, ecu_row, new_row, rows_of}
use Rattle.up_machine.specs.Sound.{IsEntryOf}
use Rattle.up_machine.specs.State.{Entry, Vehicle, State, newest, report_of, last_report, is_taken, is_taken_in}
use Rattle.up_machine.specs.Vehicles.{has_ecu, is_among, in_place_of}
use Rattle.up_metadata.proofs.Lists.{and_left, and_right}
use Rattle.up_machine.proofs.Installing.{found_is}
use Rattle.up_machine.proofs.Tables.{one_name, get_new}
use Rattle.up_machine.proofs.Values.{found_any}
use Rattle.up_rows.specs.Tables.{each_value}
use Rattle.up_rows.specs.StateRows.{kept_rows, retired_names}
use Rattle.up_rows.specs.Changes.{in_place_of_row, replaced_rows}
use Rattle.up_rows.specs.Laws.{EcusAreReplaced}
use Rattle.up_rows.proofs.Tables.{get_changed}
use Rattle.up_rows.proofs.Vehicles.{by_name, same_test, inserted, same_read, names_of, rows_for}

-- ---- the new ECU has no report yet

not_true : (b : Bool) → (b ≡ true → ⊥) → b ≡ false
not_true true h = absurd (h refl)
not_true false h = refl

-- none of reports of names that are taken is of one that isn't
not_reported : (v : Vehicle) (ecu : Name) (reports : List SignedReport) → is_taken_in ecu v ≡ false
    → list_all (λ (r : SignedReport). has_ecu (report_name r) v.ecus || is_among (report_name r) v.retired) reports ≡ true → report_of ecu reports ≡ None
not_reported v ecu [] free h = refl
not_reported v ecu (r ∷ reports) free h = by_test (bytes_eq r.report.ecu ecu) refl (not_reported v ecu reports free (and_right (is_taken_in (report_name r) v) _ h))
  where
    by_test : (b : Bool) → bytes_eq r.report.ecu ecu ≡ b → report_of ecu reports ≡ None → cond b (Some r) (report_of ecu reports) ≡ None
    by_test true is more =
        let same : r.report.ecu ≡ ecu = (bytes_decides r.report.ecu ecu).0 is in
        let taken : is_taken_in ecu v ≡ true = ap (λ n. is_taken_in n v) (sym same) ∙ and_left (is_taken_in (report_name r) v) _ h in
        absurd (let e = sym free ∙ taken in cc)
    by_test false is more = more

no_report : (name : Name) (v : Vehicle) (ecu : Name) → is_taken_in ecu v ≡ false → AllByRecursion (IsEntryOf name v.primary v.ecus v.retired) v.entries → last_report v ecu ≡ None
unfolding last_report
no_report name v ecu free all = by_newest (newest v.entries) refl
  where
    by_newest : (o : Option Entry) → newest v.entries ≡ o → option_and_then (λ (m : Manifest). report_of ecu m.reports) (option_and_then (λ (e : Entry). manifest_of e.signed) o) ≡ None
    by_newest None h = refl
    by_newest (Some e) h =
        let is : IsEntryOf name v.primary v.ecus v.retired e = found_is (IsEntryOf name v.primary v.ecus v.retired) _ v.entries e all h in
        ap (option_and_then (λ (m : Manifest). report_of ecu m.reports)) is.read ∙ not_reported v ecu is.manifest.reports free is.known

-- ---- the vehicle's rows

new_row_is : (v : Vehicle) (e : NewEcu) → last_report v e.ecu ≡ None → new_row e ≡ ecu_row v e
new_row_is v e none = sym (ap (λ (o : Option SignedReport). record {
  ecu = e.ecu;
  hardware = e.hardware;
  public = e.public;
  installed = option_map (λ (r : SignedReport). r.report.image) o;
  counter = unwrap_or (option_map (λ (r : SignedReport). r.report.counter) o) 0;
  report = option_map (λ (r : SignedReport). r.envelope.signed) o;
}) none)

same_row : (v : Vehicle) (old : Name) (new e : NewEcu) → ecu_row v e ≡ ecu_row (with_replaced v old new) e
unfolding last_report
same_row v old new e = refl

same_report : (v : Vehicle) (old : Name) (new : NewEcu) (ecu : Name) → last_report v ecu ≡ last_report (with_replaced v old new) ecu
unfolding last_report
same_report v old new ecu = refl

each_replaced : (v : Vehicle) (old : Name) (new : NewEcu) (ecus : List NewEcu) → last_report v new.ecu ≡ None
    → map (in_place_of_row old (new_row new)) (map (ecu_row v) ecus) ≡ map (ecu_row (with_replaced v old new)) (map (in_place_of old new) ecus)
each_replaced v old new [] none = refl
each_replaced v old new (e ∷ ecus) none = ap₂ (λ (row : EcuRow) (rows : List EcuRow). row ∷ rows) (by_test (bytes_eq e.ecu old)) (each_replaced v old new ecus none)
  where
    by_test : (b : Bool) → (if b then new_row new else ecu_row v e) ≡ ecu_row (with_replaced v old new) (if b then new else e)
    by_test true = new_row_is (with_replaced v old new) new (sym (same_report v old new new.ecu) ∙ none)
    by_test false = same_row v old new e

rows_replaced : (r : Replacement) (v : Vehicle) → last_report v r.ecu.ecu ≡ None → replaced_rows r (rows_of r.vehicle v) ≡ rows_of r.vehicle (with_replaced v r.old r.ecu)
rows_replaced r v none = ap (λ (ecus : List EcuRow). record (rows_of r.vehicle v) { ecus = ecus }) (each_replaced v r.old r.ecu v.ecus none)

-- ---- all rows

vehicles_replaced : (s : State) (r : Replacement) (v : Vehicle) → table.get s.vehicles r.vehicle ≡ Some v → last_report v r.ecu.ecu ≡ None
    → unwrap_or (option_map (λ (rows : VehicleRows). table.insert (each_value rows_of s.vehicles) r.vehicle (replaced_rows r rows)) (table.get (each_value rows_of s.vehicles) r.vehicle)) (each_value rows_of s.vehicles)
    ≡ each_value rows_of (with_replacement s r v).vehicles
vehicles_replaced s r v there none =
    ap (λ (o : Option VehicleRows). unwrap_or (option_map (λ (rows : VehicleRows). table.insert (each_value rows_of s.vehicles) r.vehicle (replaced_rows r rows)) o) (each_value rows_of s.vehicles))
    (get_changed rows_of s.vehicles r.vehicle ∙ ap (option_map (rows_of r.vehicle)) there)
    ∙ ap (table.insert (each_value rows_of s.vehicles) r.vehicle) (rows_replaced r v none)
    ∙ inserted s.vehicles r.vehicle (with_replaced v r.old r.ecu)

retired_replaced : (s : State) (r : Replacement) (v : Vehicle) → table.get s.vehicles r.vehicle ≡ Some v → (q : Name)
    → (if bytes_eq r.vehicle q then retired_names s q ++ r.old ∷ [] else retired_names s q) ≡ retired_names (with_replacement s r v) q
retired_replaced s r v there q =
    ap (λ t. cond t (retired_names s q ++ r.old ∷ []) (retired_names s q)) (sym (same_test r.vehicle q))
    ∙ by_test (by_name q r.vehicle) refl
    ∙ sym (ap names_of (get_new s.vehicles r.vehicle q (with_replaced v r.old r.ecu)))
  where
    by_test : (t : Bool) → by_name q r.vehicle ≡ t → cond t (retired_names s q ++ r.old ∷ []) (retired_names s q) ≡ names_of (cond t (Some (with_replaced v r.old r.ecu)) (table.get s.vehicles q))
    by_test true same = ap (λ (o : Option Vehicle). names_of o ++ r.old ∷ []) (ap (table.get s.vehicles) (one_name q r.vehicle same) ∙ there)
    by_test false same = refl

replaced_kept : (s : State) (r : Replacement) (v : Vehicle) → table.get s.vehicles r.vehicle ≡ Some v → (q : Name) → kept_rows s q ≡ kept_rows (with_replacement s r v) q
replaced_kept s r v there q =
    let rows : Option Vehicle → List Kept = λ o. unwrap_or (option_map (rows_for q) o) [] in
    same_read rows s.vehicles r.vehicle (with_replaced v r.old r.ecu) (ap rows there) q

-- a name that is taken nowhere isn't taken in the vehicle
free_in : (s : State) (name : Name) (v : Vehicle) (ecu : Name) → table.get s.vehicles name ≡ Some v → is_taken s ecu ≡ false → is_taken_in ecu v ≡ false
free_in s name v ecu there free = not_true _ (λ h. let taken = found_any (is_taken_in ecu) s.vehicles name v there h in absurd (let e = sym free ∙ taken in cc))

pub ecus_replaced : EcusAreReplaced
ecus_replaced k s r v sound there free =
    let none : last_report v r.ecu.ecu ≡ None = no_report r.vehicle v r.ecu.ecu (free_in s r.vehicle v r.ecu.ecu there free) (sound.vehicles r.vehicle v there).entries in
    let vehicles = vehicles_replaced s r v there none in
    let kept : (q : Name) → kept_rows s q ≡ kept_rows (with_replacement s r v) q = replaced_kept s r v there in
    let retired : (q : Name) → (if bytes_eq r.vehicle q then retired_names s q ++ r.old ∷ [] else retired_names s q) ≡ retired_names (with_replacement s r v) q = retired_replaced s r v there in
    λ i. record { founding = founding_row s; director = s.director.texts; image = s.image.texts; images = s.images; files = s.files; campaigns = s.campaigns; vehicles = vehicles i; kept = λ q. kept q i; retired = λ q. retired q i }
