-- The rows of a sound state, and what those that fit have.
use Rattle.std.proofs.Common.{◌≡◌, ℕ, ◌≤◌, true, Option, Some, None, Result, Ok, Err, List, [], ◌∷◌, map, refl, sym, ap, ap₂, ◌∙◌, subst, arith}
use Rattle.std.specs.Prelude.{◌&&◌, IfOk, IsTrue, is_none, nat_le}
use Rattle.std.proofs.lemmas.Bool.{leb-true}
use Rattle.std.proofs.lemmas.Bool.Decides.{nat_tests}
use Rattle.std.specs.FinMap as table
use Rattle.up_canon.specs.Refusals.{Gives}
use Rattle.up_canon.specs.declared.refusal.Refusal.{Refusal}
use Rattle.up_manifest.specs.declared.manifest.Incoming.{Incoming}
use Rattle.up_manifest.specs.Manifests.{incoming_in}
use Rattle.up_canon.specs.Names.{first_repeated}
use Rattle.up_machine.specs.declared.rows.EcuRow.{EcuRow}
use Rattle.up_machine.specs.declared.vehicle.NewEcu.{NewEcu}
use Rattle.up_machine.specs.Vehicles.{ecu_names}
use Rattle.up_machine.specs.declared.rows.Founding.{Founding}
use Rattle.up_machine.specs.declared.rows.VehicleRows.{VehicleRows}
use Rattle.up_machine.specs.State.{Vehicle, key_set}
use Rattle.up_machine.specs.Rows.{ecu_row, rows_of}
use Rattle.up_machine.specs.RowsFit.{founding_fits, rows_fit}
use Rattle.up_machine.specs.Decisions.{IsRead}
use Rattle.up_machine.specs.RowLaws.{FoundingRowFits, VehicleRowsFit}
use Rattle.up_metadata.proofs.Lists.{and_left, and_right}
use Rattle.up_machine.proofs.Counters.{versions_are_counts}
use Rattle.up_machine.proofs.FoundingRows.{founding_of}
use Rattle.up_machine.proofs.NewFiles.{both_sign}
use Rattle.up_canon.proofs.Steps.{map_some}

leb_of : {a b : ℕ} → a ≤ b → nat_le a b ≡ true
leb_of h = grind (arith, nat_tests)

pub row_names : (v : Vehicle) (ecus : List NewEcu) → map (λ (row : EcuRow). row.ecu) (map (ecu_row v) ecus) ≡ ecu_names ecus
row_names v [] = refl
row_names v (e ∷ ecus) = ap (λ names. e.ecu ∷ names) (row_names v ecus)

-- ---- the founding's row

pub founding_fits_in : FoundingRowFits
founding_fits_in k s founding sound h =
    let is = founding_of s founding (sym h) in
    let each = both_sign k (key_set s) (sound.repositories.founded is.0).keys in
    subst (λ (f : Founding). IsTrue (founding_fits k f)) (sym is.1) (ap₂ (λ x y. x && y) each.0 each.1)

-- ---- a vehicle's rows

pub vehicle_fits : VehicleRowsFit
vehicle_fits k s name rows sound h =
    let found = map_some (rows_of name) (table.get s.vehicles name) rows h in
    let v = found.0 in
    let once : first_repeated (map (λ (row : EcuRow). row.ecu) (map (ecu_row v) v.ecus)) ≡ None = ap first_repeated (row_names v v.ecus) ∙ (sound.vehicles name v found.1).once in
    let version = leb_of (versions_are_counts k s name v sound found.1).0 in
    subst (λ (r : VehicleRows). IsTrue (rows_fit r)) found.2 (ap₂ (λ x y. x && y) version (ap is_none once))

pub version_below : (rows : VehicleRows) → IsTrue (rows_fit rows) → rows.vehicle.version ≤ rows.vehicle.last
version_below rows h = leb-true _ _ (and_left _ (is_none (first_repeated (map (λ (row : EcuRow). row.ecu) rows.ecus))) h)

none_of : {A : Type 0} (o : Option A) → is_none o ≡ true → o ≡ None
none_of None h = refl
none_of (Some x) h = cc

pub each_once : (rows : VehicleRows) → IsTrue (rows_fit rows) → first_repeated (map (λ (row : EcuRow). row.ecu) rows.ecus) ≡ None
each_once rows h = none_of _ (and_right (nat_le rows.vehicle.version rows.vehicle.last) _ h)

-- what was read is what some body means
pub read_is : (body : List ℕ) (result : Result Incoming Refusal) → Gives result (incoming_in body) → IfOk result IsRead
read_is body (Ok incoming) h = (body, h)
read_is body (Err e) h = tt
