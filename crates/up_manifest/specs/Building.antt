-- Reports and manifests as they are written.
use Rattle.std.specs.Prelude.{◌≡◌, ℕ, ◌≤◌, ◌++◌, List, [], ◌∷◌, Some, IsTrue, length, map, codes, decimal, ⊤, String, Result, IfOk, string_bytes}
use Rattle.std.specs.List.{list_all, join_with_byte}
use Rattle.serde_json.specs.Data.{Data, string}
use Rattle.serde_json.specs.Read.{read}
use Rattle.up_canon.specs.Build.{object_with, count_value, hashes_value}
use Rattle.up_canon.specs.Canon.{max_count, text, json_string}
use Rattle.up_canon.specs.HexText.{is_second_hash}
use Rattle.up_canon.specs.Moments.{last_moment, moment_text}
use Rattle.up_canon.specs.Names.{is_ident, is_file_name, is_note}
use Rattle.up_sign.specs.Envelopes.{sealed_envelope}
use Rattle.up_sign.specs.Formats.{envelope_fits, has_bytes, envelope_text}
use Rattle.up_sign.specs.Schemes.{Rules, is_byte}
use Rattle.up_sign.specs.declared.envelope.Envelope.{Envelope}
use Rattle.up_manifest.specs.Manifests.{most_reports}
use Rattle.up_manifest.specs.Meaning.{MeansSignedReport, MeansBody}
use Rattle.up_manifest.specs.declared.report.Installed.{Installed}
use Rattle.up_manifest.specs.declared.report.Report.{Report}
use Rattle.up_manifest.specs.declared.report.SignedReport.{SignedReport}
use Rattle.up_manifest.specs.declared.manifest.Incoming.{Incoming}

-- ---- reports

abbrev pub installed_value : Installed → Data
installed_value i = object_with ((codes "file", string i.file) ∷ (codes "hashes", hashes_value i.sha256 i.sha512) ∷ (codes "length", count_value i.length) ∷ [])

abbrev pub report_value : Report → Data
report_value r = object_with (
    (codes "attack", string r.attack) ∷ (codes "counter", count_value r.counter) ∷ (codes "ecu", string r.ecu) ∷
    (codes "image", installed_value r.image) ∷ (codes "time", string (moment_text r.time)) ∷ (codes "type", string (codes "report")) ∷ [])

-- the canonical text of a report
unfoldable pub report_text : Report → List ℕ
report_text r = text (report_value r)

-- the limits that the types of a report's members keep
pub record ReportFits (r : Report) : Type 0 where
  pub ecu : IsTrue (is_ident r.ecu)
  pub counter : r.counter ≤ max_count
  pub time : r.time ≤ last_moment
  pub attack : IsTrue (is_note r.attack)
  pub file : IsTrue (is_file_name r.image.file)
  pub size : r.image.length ≤ max_count
  pub sha256 : length r.image.sha256 ≡ 32
  pub bytes : IsTrue (list_all is_byte r.image.sha256)
  pub sha512 : IsTrue (is_second_hash r.image.sha512)

-- an envelope with one signature over a report's text
pub record IsReportEnvelope (e : Envelope) (r : Report) : Type 0 where
  pub one : length e.signatures ≡ 1
  pub limits : IsTrue (envelope_fits e)
  pub bytes : IsTrue (has_bytes e)
  pub signed : e.signed ≡ report_text r
  pub fits : ReportFits r

-- each envelope is that of the report at its place
abbrev pub AreReportEnvelopes : List Envelope → List Report → Type 0
AreReportEnvelopes [] [] = ⊤
AreReportEnvelopes [] (r ∷ rs) = ⊥
AreReportEnvelopes (e ∷ es) [] = ⊥
AreReportEnvelopes (e ∷ es) (r ∷ rs) = IsReportEnvelope e r × AreReportEnvelopes es rs

-- what builds a report answers: an envelope over the report's text, which is read again and means that report
pub record BuildsReport {E : Type 0} (k : Rules) (secret : List ℕ) (report : Report) (r : Result Envelope E) : Type 0 where
  pub value : IfOk r (λ e. e ≡ sealed_envelope k (secret ∷ []) (report_text report))
  pub envelope : IfOk r (λ e. IsReportEnvelope e report)
  pub limits : IfOk r (λ e. IsTrue (envelope_fits e))
  pub means : IfOk r (λ e. (d : Data) × (read (envelope_text e) ≡ Some d) × MeansSignedReport d (record { report = report; envelope = e }))

-- ---- manifests

-- texts in a list, with commas between
abbrev pub list_text : List (List ℕ) → List ℕ
list_text ts = 91 ∷ join_with_byte 44 ts ++ 93 ∷ []

-- the first two members
abbrev pub primary_text : List ℕ → ℕ → List ℕ
primary_text primary counter = codes "{\"counter\":" ++ decimal counter ++ codes ",\"primary\":" ++ json_string primary

-- the text that a Primary signs, in which the reports' envelopes stand as they are
unfoldable pub manifest_text : List ℕ → List ℕ → ℕ → List Envelope → List ℕ
manifest_text vehicle primary counter reports =
    codes "{\"counter\":" ++ decimal counter ++ codes ",\"primary\":" ++ json_string primary ++ codes ",\"reports\":" ++ list_text (map envelope_text reports)
    ++ codes ",\"type\":\"manifest\",\"vehicle\":" ++ json_string vehicle ++ codes "}"

-- the reports with their envelopes
abbrev pub signed_reports : List Report → List Envelope → List SignedReport
signed_reports [] es = []
signed_reports (r ∷ rs) [] = []
signed_reports (r ∷ rs) (e ∷ es) = record { report = r; envelope = e } ∷ signed_reports rs es

-- the manifest in the envelope that its Primary signs
abbrev pub sealed_manifest : Rules → List ℕ → List ℕ → List ℕ → ℕ → List Envelope → Envelope
sealed_manifest k secret vehicle primary counter reports = sealed_envelope k (secret ∷ []) (manifest_text vehicle primary counter reports)

-- what was built of these
abbrev pub built : Rules → List ℕ → List ℕ → List ℕ → ℕ → List Report → List Envelope → Incoming
built k secret vehicle primary counter rs es = record {
  manifest = record { vehicle = vehicle; primary = primary; counter = counter; reports = signed_reports rs es };
  envelope = sealed_manifest k secret vehicle primary counter es;
}

-- a counter from 1 on, and at most so many reports in envelopes that are within their limits
pub record CanBuild (counter : ℕ) (reports : List Envelope) : Type 0 where
  pub counter_fits : (1 ≤ counter) × (counter ≤ max_count)
  pub number : length reports ≤ most_reports
  pub limits : IsTrue (list_all envelope_fits reports)

-- what builds a manifest answers: the text, which means the manifest where the envelopes are those of reports
pub record BuildsManifest {A E : Type 0} (k : Rules) (secret vehicle primary : List ℕ) (counter : ℕ) (reports : List Envelope) (r : Result (String A) E) : Type 0 where
  pub value : IfOk r (λ t. string_bytes t ≡ envelope_text (sealed_manifest k secret vehicle primary counter reports))
  pub means : (rs : List Report) → AreReportEnvelopes reports rs → IfOk r (λ t. MeansBody (string_bytes t) (built k secret vehicle primary counter rs reports))
