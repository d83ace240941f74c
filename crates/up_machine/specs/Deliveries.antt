-- The decision on a manifest that a vehicle delivers. Each check carries the name of its refusal, in the order of refusals.
use Rattle.std.specs.Prelude.{ℕ, ◌+◌, ◌++◌, ◌||◌, ◌&&◌, ◌==◌, List, [], ◌∷◌, Bool, true, false, not, nat_le, nat_lt, Option, Some, None, option_map, unwrap_or, map, filter_map, find, bytes_eq, ⊤, Result, Ok}
use Rattle.std.specs.List.{list_any}
use Rattle.std.specs.FinMap as table
use Rattle.up_canon.specs.Names.{Name, first_repeated}
use Rattle.up_canon.specs.Steps.{◌>>=◌, unless, refuse_if, refuse_first, or_error}
use Rattle.up_canon.specs.declared.refusal.Refusal.{Refusal}
use Rattle.up_canon.specs.declared.refusal.Refusal.TheVariants.{UnknownVehicle, WrongPrimary, BadManifestSignature, Stale, UnknownEcu, DuplicateEcu, MissingEcu, BadReportSignature, ReportReplayed}
use Rattle.up_sign.specs.Schemes.{Rules}
use Rattle.up_sign.specs.Envelopes.{is_accepted}
use Rattle.up_sign.specs.declared.envelope.Envelope.{Envelope}
use Rattle.up_manifest.specs.declared.report.SignedReport.{SignedReport}
use Rattle.up_manifest.specs.declared.manifest.Incoming.{Incoming}
use Rattle.up_manifest.specs.Manifests.{incoming_in}
use Rattle.up_plan.specs.declared.assigned.Fitted.{Fitted}
use Rattle.up_plan.specs.declared.assigned.Plan.{Plan}
use Rattle.up_plan.specs.Planning.{plan_of}
use Rattle.up_machine.specs.declared.vehicle.NewEcu.{NewEcu}
use Rattle.up_machine.specs.declared.answer.Answer.TheVariants.{Reply as Replied}
use Rattle.up_machine.specs.Vehicles.{has_ecu, ecu_in, ecu_names}
use Rattle.up_machine.specs.State.{Entry, Vehicle, State, root_number, version, last_counter, report_of, last_report}
use Rattle.up_machine.specs.Replies.{reply_text, reply_to}
use Rattle.up_machine.specs.Deciding.{Outcome, check_moment, check_founded}

-- ---- up to the Primary's signature

-- a manifest that came in, and the vehicle of which it is
pub record Received : Type 0 where
  pub vehicle : Vehicle
  pub incoming : Incoming

-- the ECU of the name signed it
abbrev pub is_signed_by : Rules → List NewEcu → Name → Envelope → Bool
is_signed_by k ecus name envelope = unwrap_or (option_map (λ e. is_accepted k (e.public ∷ []) 1 envelope) (ecu_in ecus name)) false

unfoldable pub receive_manifest : Rules → State → Incoming → Result Received Refusal
receive_manifest k s incoming = do
  not_founded ← check_founded s
  vehicle ← or_error UnknownVehicle (table.get s.vehicles incoming.manifest.vehicle)
  wrong_primary ← unless (bytes_eq incoming.manifest.primary vehicle.primary) WrongPrimary
  bad_manifest_signature ← unless (is_signed_by k vehicle.ecus vehicle.primary incoming.envelope) BadManifestSignature
  Ok (record { vehicle = vehicle; incoming = incoming })

unfoldable pub receive : Rules → State → ℕ → List ℕ → Result Received Refusal
receive k s at body = do
  moment_out_of_range ← check_moment at
  incoming ← incoming_in body
  receive_manifest k s incoming

-- ---- after it, of a manifest that is no repeat

abbrev pub report_name : SignedReport → Name
report_name r = r.report.ecu

abbrev pub report_names : List SignedReport → List Name
report_names reports = map report_name reports

-- later than the ECU's last report, or the same again
abbrev pub is_in_order : Option SignedReport → SignedReport → Bool
is_in_order None r = true
is_in_order (Some last) r =
    nat_lt last.report.counter r.report.counter
    || ((last.report.counter == r.report.counter) && bytes_eq last.envelope.signed r.envelope.signed)

unfoldable pub check_reports : Rules → Vehicle → List SignedReport → Result ⊤ Refusal
check_reports k v reports = do
  unknown_ecu ← refuse_first UnknownEcu (find (λ name. not (has_ecu name v.ecus)) (report_names reports))
  duplicate_ecu ← refuse_first DuplicateEcu (first_repeated (report_names reports))
  missing_ecu ← refuse_first MissingEcu (find (λ name. not (list_any (bytes_eq name) (report_names reports))) (ecu_names v.ecus))
  bad_report_signature ← refuse_first (λ r. BadReportSignature (report_name r)) (find (λ r. not (is_signed_by k v.ecus (report_name r) r.envelope)) reports)
  refuse_first (λ r. ReportReplayed (report_name r)) (find (λ r. not (is_in_order (last_report v (report_name r)) r)) reports)

unfoldable pub check_new : Rules → Received → Result ⊤ Refusal
check_new k r = do
  stale ← refuse_if (nat_le r.incoming.manifest.counter (last_counter r.vehicle.entries)) (Stale (last_counter r.vehicle.entries))
  check_reports k r.vehicle r.incoming.manifest.reports

-- ---- acceptance

-- an ECU with the image that it reports
abbrev pub fitted : List SignedReport → NewEcu → Option Fitted
fitted reports e = option_map (λ r. record { ecu = e.ecu; hardware = e.hardware; image = r.report.image }) (report_of e.ecu reports)

unfoldable pub plan_in : State → Received → Plan
plan_in s r =
    plan_of (table.values s.images) (table.values s.campaigns) r.incoming.manifest.vehicle
    (filter_map (fitted r.incoming.manifest.reports) r.vehicle.ecus)

abbrev pub entry_of : Rules → State → ℕ → Received → Entry
entry_of k s at r = record {
  counter = r.incoming.manifest.counter;
  signed = r.incoming.envelope.signed;
  at = at;
  root = root_number s;
  plan = plan_in s r;
  reply = reply_text k s r.incoming.manifest.vehicle (version r.vehicle.entries + 1) at (plan_in s r);
}

abbrev pub with_entry : State → Name → Vehicle → Entry → State
with_entry s name v e = record s { vehicles = table.insert s.vehicles name (record v { entries = v.entries ++ e ∷ [] }) }

-- one more entry, whose number is the vehicle's new version
abbrev pub accepted : Rules → State → ℕ → Received → Outcome
accepted k s at r =
    let name = r.incoming.manifest.vehicle in
    let e = entry_of k s at r in
    record { answer = Replied (reply_to name (version r.vehicle.entries + 1) e); next = with_entry s name r.vehicle e }

unfoldable pub decide_received : Rules → State → ℕ → Received → Result Outcome Refusal
decide_received k s at r = do
  checked ← check_new k r
  Ok (accepted k s at r)

unfoldable pub decide_delivery : Rules → State → ℕ → List ℕ → Result Outcome Refusal
decide_delivery k s at body = do
  received ← receive k s at body
  decide_received k s at received
