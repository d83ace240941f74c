-- What the decision on a manifest computes over the rows of its vehicle. Public contracts speak of two of these alone, to say who sent it and
-- where memory is taken: of `check_primary` and `repeated`.
use Rattle.std.specs.Prelude.{ℕ, ◌+◌, ◌||◌, ◌&&◌, ◌==◌, List, [], ◌∷◌, Bool, true, false, not, nat_lt, Option, Some, option_map, unwrap_or, map, filter_map, find, bytes_eq, ⊤, Result}
use Rattle.std.specs.List.{list_any}
use Rattle.std.specs.FinMap as table
use Rattle.up_canon.specs.Names.{Name, Table, first_repeated}
use Rattle.up_canon.specs.Steps.{◌>>=◌, unless, refuse_first, if_passes}
use Rattle.up_canon.specs.declared.refusal.Refusal.{Refusal}
use Rattle.up_canon.specs.declared.refusal.Refusal.TheVariants.{WrongPrimary, BadManifestSignature, UnknownEcu, DuplicateEcu, MissingEcu, BadReportSignature, ReportReplayed}
use Rattle.up_sign.specs.Schemes.{Rules}
use Rattle.up_sign.specs.Envelopes.{is_accepted}
use Rattle.up_sign.specs.declared.envelope.Envelope.{Envelope}
use Rattle.up_manifest.specs.declared.report.SignedReport.{SignedReport}
use Rattle.up_manifest.specs.declared.manifest.Incoming.{Incoming}
use Rattle.up_roles.specs.declared.repository.Repository.TheVariants.{Director}
use Rattle.up_roles.specs.declared.targets.Target.{Target}
use Rattle.up_plan.specs.declared.assigned.Assigned.{Assigned}
use Rattle.up_plan.specs.declared.assigned.Fitted.{Fitted}
use Rattle.up_plan.specs.declared.assigned.Plan.{Plan}
use Rattle.up_plan.specs.declared.campaign.Item.{Item}
use Rattle.up_plan.specs.Images.{ImageData}
use Rattle.up_plan.specs.Planning.{plan_from, resulting}
use Rattle.up_metadata.specs.Files.{MetadataSet, role_texts}
use Rattle.up_machine.specs.declared.rows.EcuRow.{EcuRow}
use Rattle.up_machine.specs.declared.rows.Founding.{Founding}
use Rattle.up_machine.specs.declared.rows.Kept.{Kept}
use Rattle.up_machine.specs.declared.rows.VehicleRow.{VehicleRow}
use Rattle.up_machine.specs.declared.rows.VehicleRows.{VehicleRows}
use Rattle.up_machine.specs.declared.decision.AcceptedRows.{AcceptedRows}
use Rattle.up_machine.specs.State.{report_of}
use Rattle.up_machine.specs.Files.{target_of}
use Rattle.up_machine.specs.Deliveries.{report_name, report_names}
use Rattle.up_machine.specs.Replies.{reply_json}

-- ---- up to the Primary's signature

abbrev pub row_of : List EcuRow → Name → Option EcuRow
row_of rows name = find (λ row. bytes_eq row.ecu name) rows

-- the ECU of the name signed it
abbrev pub is_signed_by_row : Rules → List EcuRow → Name → Envelope → Bool
is_signed_by_row k rows name envelope = unwrap_or (option_map (λ row. is_accepted k (row.public ∷ []) 1 envelope) (row_of rows name)) false

unfoldable pub check_primary : Rules → VehicleRows → Incoming → Result ⊤ Refusal
check_primary k rows incoming = do
  wrong_primary ← unless (bytes_eq incoming.manifest.primary rows.vehicle.primary) WrongPrimary
  unless (is_signed_by_row k rows.ecus rows.vehicle.primary incoming.envelope) BadManifestSignature

-- ---- repeats

-- the kept row with the manifest's counter, where it has the manifest's signed text
abbrev pub repeated : Incoming → Option Kept → Option Kept
repeated incoming kept = if_passes (λ row. bytes_eq row.signed incoming.envelope.signed) kept

-- ---- after it

abbrev pub has_row : List EcuRow → SignedReport → Bool
has_row rows r = list_any (λ row. bytes_eq row.ecu (report_name r)) rows

abbrev pub is_reported_in : List SignedReport → EcuRow → Bool
is_reported_in reports row = list_any (λ r. bytes_eq row.ecu (report_name r)) reports

-- later than the ECU's last report, or the same again
abbrev pub follows : EcuRow → SignedReport → Bool
follows row r = unwrap_or (option_map (λ last. nat_lt row.counter r.report.counter || ((row.counter == r.report.counter) && bytes_eq last r.envelope.signed)) row.report) true

abbrev pub follows_its_row : List EcuRow → SignedReport → Bool
follows_its_row rows r = unwrap_or (option_map (λ row. follows row r) (row_of rows (report_name r))) true

unfoldable pub check_reports_of : Rules → List EcuRow → List SignedReport → Result ⊤ Refusal
check_reports_of k rows reports = do
  unknown_ecu ← refuse_first (λ r. UnknownEcu (report_name r)) (find (λ r. not (has_row rows r)) reports)
  duplicate_ecu ← refuse_first DuplicateEcu (first_repeated (report_names reports))
  missing_ecu ← refuse_first (λ row. MissingEcu row.ecu) (find (λ row. not (is_reported_in reports row)) rows)
  bad_report_signature ← refuse_first (λ r. BadReportSignature (report_name r)) (find (λ r. not (is_signed_by_row k rows (report_name r) r.envelope)) reports)
  refuse_first (λ r. ReportReplayed (report_name r)) (find (λ r. not (follows_its_row rows r)) reports)

-- ---- acceptance

-- an ECU with the image that it reports
abbrev pub fitted_with : EcuRow → SignedReport → Fitted
fitted_with row r = record { ecu = row.ecu; hardware = row.hardware; image = r.report.image }

abbrev pub fitted_of : List SignedReport → EcuRow → Option Fitted
fitted_of reports row = option_map (fitted_with row) (report_of row.ecu reports)

abbrev pub fitted_in : List SignedReport → List EcuRow → List Fitted
fitted_in reports rows = filter_map (fitted_of reports) rows

-- the target for an ECU that an image is assigned to
abbrev pub target_for : Table ImageData → Assigned → Option Target
target_for images a = option_map (target_of (Some a.ecu)) (table.get images a.file)

-- an ECU after its report
abbrev pub reported_row : List SignedReport → EcuRow → EcuRow
reported_row reports row = record row {
  installed = option_map (λ r. r.report.image) (report_of row.ecu reports);
  counter = unwrap_or (option_map (λ r. r.report.counter) (report_of row.ecu reports)) 0;
  report = option_map (λ r. r.envelope.signed) (report_of row.ecu reports);
}

-- one version more, with the manifest's counter
abbrev pub accepted_row : VehicleRow → ℕ → VehicleRow
accepted_row row counter = record row { version = row.version + 1; last = counter }

-- the Director's files for the vehicle's new version
abbrev pub metadata_of : Founding → VehicleRow → ℕ → List Target → MetadataSet
metadata_of founding row at targets = record {
  repository = Director;
  keys = founding.keys;
  vehicle = Some row.vehicle;
  version = row.version + 1;
  at = at;
  targets = targets;
}

abbrev pub reply_of : Rules → Founding → VehicleRow → ℕ → List Target → List ℕ
reply_of k founding row at targets = reply_json row.vehicle (row.version + 1) founding.root (role_texts k (metadata_of founding row at targets))

abbrev pub kept_of : Rules → Founding → VehicleRow → ℕ → Incoming → Table ImageData → Plan → Kept
kept_of k founding row at incoming images plan = record {
  vehicle = row.vehicle;
  counter = incoming.manifest.counter;
  version = row.version + 1;
  at = at;
  root = founding.root;
  signed = incoming.envelope.signed;
  plan = plan;
  reply = reply_of k founding row at (filter_map (target_for images) plan.assigned);
}

-- the plan for the vehicle's ECUs with what they report, over the items for it
unfoldable pub plan_by_rows : Table ImageData → List Item → VehicleRows → List SignedReport → Plan
plan_by_rows images items rows reports = plan_from (resulting (table.values images) items (fitted_in reports rows.ecus))

abbrev pub accepted_rows : Rules → Founding → VehicleRows → ℕ → Incoming → Table ImageData → List Item → AcceptedRows
accepted_rows k founding rows at incoming images items = record {
  vehicle = record { vehicle = accepted_row rows.vehicle incoming.manifest.counter; ecus = map (reported_row incoming.manifest.reports) rows.ecus };
  kept = kept_of k founding rows.vehicle at incoming images (plan_by_rows images items rows incoming.manifest.reports);
}
