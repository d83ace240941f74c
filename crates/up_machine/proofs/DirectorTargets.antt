-- The Director's targets fit, and no ECU stands twice among them.
use Rattle.std.proofs.Common.{◌≡◌, List, [], ◌∷◌, Bool, true, false, cond, Option, Some, None, refl, sym, ap, ap₂, ◌∙◌, subst}
use Rattle.std.specs.Prelude.{not, if◌then◌else◌, bytes_eq, map, filter, filter_map, option_map, is_none}
use Rattle.std.specs.List.{list_any, cons_option}
use Rattle.std.specs.FinMap as table
use Rattle.std.proofs.lemmas.Bool.{or_parts}
use Rattle.up_canon.specs.Names.{Name, Table, first_repeated, are_distinct, hardware_fits}
use Rattle.up_canon.specs.Steps.{first_or_none}
use Rattle.up_canon.proofs.Repeated.{names_themselves}
use Rattle.up_manifest.specs.declared.report.SignedReport.{SignedReport}
use Rattle.up_roles.specs.declared.repository.Repository.TheVariants.{Director}
use Rattle.up_roles.specs.Targets.{target_fits, ecus_of}
use Rattle.up_plan.specs.declared.assigned.Assigned.{Assigned}
use Rattle.up_plan.specs.declared.assigned.Cause.{Cause}
use Rattle.up_plan.specs.declared.assigned.Fitted.{Fitted}
use Rattle.up_plan.specs.declared.campaign.Item.{Item}
use Rattle.up_plan.specs.ByFile.{offers_at, registered_at, resulting_at}
use Rattle.up_plan.specs.ByOffers.{wanted_by, with_wanted_by}
use Rattle.up_plan.specs.Images.{ImageData, image_fits}
use Rattle.up_plan.specs.Planning.{Resulting, updates, unmet, plan_with, plan_from}
use Rattle.up_machine.specs.declared.rows.EcuRow.{EcuRow}
use Rattle.up_machine.specs.declared.rows.VehicleRows.{VehicleRows}
use Rattle.up_machine.specs.Files.{target_of}
use Rattle.up_machine.specs.State.{report_of}
use Rattle.up_machine.specs.ManifestRows.{fitted_of, fitted_in, target_for}
use Rattle.up_machine.proofs.DistinctNames.{Distinct, distinct, once_of, distinct_some}

-- ---- a target of an image that fits

-- what has no fault has fitting hardware, which is tested first
hardware_first : (b : Bool) (name : Name) (rest : Option Name) → is_none (if not b then Some name else rest) ≡ true → b ≡ true
hardware_first true name rest h = refl
hardware_first false name rest h = h

pub fits : (ecu : Name) (image : ImageData) → image_fits image ≡ true → target_fits Director (target_of (Some ecu) image) ≡ true
fits ecu image h = hardware_first (hardware_fits image.hardware) _ _ h

-- ---- no ECU stands twice

abbrev pub named : List Assigned → List Name
named assigned = map (λ a. a.ecu) assigned

abbrev ecu_for : Table ImageData → Assigned → Option Name
ecu_for images a = option_map (λ image. a.ecu) (table.get images a.file)

-- the ECUs that the targets name
ecus_for : (images : Table ImageData) (assigned : List Assigned) → ecus_of (filter_map (target_for images) assigned) ≡ filter_map (ecu_for images) assigned
ecus_for images [] = refl
ecus_for images (a ∷ assigned) = by_image (table.get images a.file) (ecus_for images assigned)
  where
    by_image : (o : Option ImageData) → ecus_of (filter_map (target_for images) assigned) ≡ filter_map (ecu_for images) assigned
        → ecus_of (cons_option (option_map (target_of (Some a.ecu)) o) (filter_map (target_for images) assigned)) ≡ cons_option (option_map (λ image. a.ecu) o) (filter_map (ecu_for images) assigned)
    by_image None rest = rest
    by_image (Some image) rest = ap (λ names. a.ecu ∷ names) rest

same_ecu : (images : Table ImageData) (a : Assigned) (name : Name) → ecu_for images a ≡ Some name → name ≡ a.ecu
same_ecu images a name h = by_image (table.get images a.file) h
  where
    by_image : (o : Option ImageData) → option_map (λ image. a.ecu) o ≡ Some name → name ≡ a.ecu
    by_image None h = cc
    by_image (Some image) h = cc

pub targets_apart : (images : Table ImageData) (assigned : List Assigned) → first_repeated (map (λ a. a.ecu) assigned) ≡ None → are_distinct (ecus_of (filter_map (target_for images) assigned)) ≡ true
targets_apart images assigned once =
    let apart : Distinct (map (λ (n : Name). n) (filter_map (ecu_for images) assigned)) =
    distinct_some (ecu_for images) (λ (a : Assigned). a.ecu) (λ n. n) (same_ecu images) assigned (distinct (named assigned) once) in
    ap are_distinct (ecus_for images assigned) ∙ ap is_none (once_of (filter_map (ecu_for images) assigned) (subst Distinct (names_themselves (filter_map (ecu_for images) assigned)) apart))

-- ---- the plan of distinct ECUs

abbrev rows_named : List EcuRow → List Name
rows_named rows = map (λ row. row.ecu) rows

fitted_same : (reports : List SignedReport) (row : EcuRow) (f : Fitted) → fitted_of reports row ≡ Some f → f.ecu ≡ row.ecu
fitted_same reports row f h = by_report (report_of row.ecu reports) h
  where
    by_report : (o : Option SignedReport) → option_map {U = Fitted} (λ r. record { ecu = row.ecu; hardware = row.hardware; image = r.report.image }) o ≡ Some f → f.ecu ≡ row.ecu
    by_report None h = cc
    by_report (Some r) h = let same : ◌≡◌ {A = Fitted} (record { ecu = row.ecu; hardware = row.hardware; image = r.report.image }) f = cc in sym (ap (λ (x : Fitted). x.ecu) same)

wanted_ecu : (e : Fitted) (known o : Option ImageData) → (with_wanted_by e known o).ecu ≡ e.ecu
wanted_ecu e known None = refl
wanted_ecu e known (Some image) = refl

resulting_ecus : (images : Table ImageData) (items : List Item) (fitted : List Fitted) → map (λ r. r.ecu) (resulting_at images items fitted) ≡ map (λ e. e.ecu) fitted
resulting_ecus images items [] = refl
resulting_ecus images items (e ∷ fitted) =
    let known = registered_at images e in
    ap₂ (λ name names. name ∷ names) (wanted_ecu e known (wanted_by (offers_at images items) e known)) (resulting_ecus images items fitted)

none_updated : (p : Name → Bool) (set : List Resulting) → list_any p (map (λ r. r.ecu) set) ≡ false → list_any p (named (updates set)) ≡ false
none_updated p [] h = refl
none_updated p (r ∷ set) h = let here = or_parts (p r.ecu) _ h in by_update r.updated here.0 (none_updated p set here.1)
  where
    by_update : (b : Bool) → p r.ecu ≡ false → list_any p (named (updates set)) ≡ false
        → list_any p (named (map (λ (r : Resulting). record { ecu = r.ecu; file = r.file }) (cond b (r ∷ filter (λ r. r.updated) set) (filter (λ r. r.updated) set)))) ≡ false
    by_update true here rest = rw (here, rest)
    by_update false here rest = rest

pub updates_apart : (set : List Resulting) → Distinct (map (λ r. r.ecu) set) → Distinct (named (updates set))
updates_apart [] h = tt
updates_apart (r ∷ set) h = by_update r.updated (updates_apart set h.1)
  where
    by_update : (b : Bool) → Distinct (named (updates set))
        → Distinct (named (map (λ (r : Resulting). record { ecu = r.ecu; file = r.file }) (cond b (r ∷ filter (λ r. r.updated) set) (filter (λ r. r.updated) set))))
    by_update true rest = (none_updated (bytes_eq r.ecu) set h.0, rest)
    by_update false rest = rest

pub plan_apart : (all : List Assigned) (cause : Option Cause) → Distinct (named all) → Distinct (named (plan_with all cause).assigned)
plan_apart [] cause h = tt
plan_apart (a ∷ rest) None h = h
plan_apart (a ∷ rest) (Some cause) h = tt

pub planned_once : (images : Table ImageData) (items : List Item) (rows : VehicleRows) (reports : List SignedReport) → first_repeated (map (λ row. row.ecu) rows.ecus) ≡ None
    → first_repeated (map (λ a. a.ecu) (plan_from (resulting_at images items (fitted_in reports rows.ecus))).assigned) ≡ None
planned_once images items rows reports once =
    let fitted = fitted_in reports rows.ecus in
    let set = resulting_at images items fitted in
    let apart : Distinct (map (λ (f : Fitted). f.ecu) fitted) = distinct_some (fitted_of reports) (λ (row : EcuRow). row.ecu) (λ (f : Fitted). f.ecu) (fitted_same reports) rows.ecus (distinct (rows_named rows.ecus) once) in
    let resulting_apart : Distinct (map (λ (r : Resulting). r.ecu) set) = subst Distinct (sym (resulting_ecus images items fitted)) apart in
    once_of _ (plan_apart (updates set) (first_or_none (unmet set)) (updates_apart set resulting_apart))
