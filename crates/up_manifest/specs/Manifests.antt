-- What a manifest's body means, or the first fault of it.
use Rattle.std.specs.Prelude.{ℕ, List, bytes_eq, Option, option_and_then, Result, Ok, codes}
use Rattle.serde_json.specs.Data.{Data}
use Rattle.serde_json.specs.Read.{read}
use Rattle.up_canon.specs.Steps.{◌>>=◌, each, or_error, unless, value_of}
use Rattle.up_canon.specs.declared.refusal.Refusal.{Refusal}
use Rattle.up_canon.specs.declared.refusal.Refusal.TheVariants.{NotJson, NotCanonical}
use Rattle.up_canon.specs.Refusals.{canonical_text}
use Rattle.up_canon.specs.HexText.{sha256_in, sha512_in}
use Rattle.up_canon.specs.JsonText.{value_within}
use Rattle.up_canon.specs.Members.{count_in, object_in}
use Rattle.up_canon.specs.Readers.{ident_in, file_name_in, note_in, word_in, positive_in, list_within, moment_in}
use Rattle.up_sign.specs.Reading.{opened_in}
use Rattle.up_manifest.specs.declared.report.Installed.{Installed}
use Rattle.up_manifest.specs.declared.report.Report.{Report}
use Rattle.up_manifest.specs.declared.report.SignedReport.{SignedReport}
use Rattle.up_manifest.specs.declared.manifest.Manifest.{Manifest}
use Rattle.up_manifest.specs.declared.manifest.Incoming.{Incoming}

-- the bytes of a body
abbrev pub largest_body : ℕ
largest_body = 262_144

-- the reports of a manifest
abbrev pub most_reports : ℕ
most_reports = 64

-- ---- reports

unfoldable pub installed_in : Data → Result Installed Refusal
installed_in d = do
  file ← file_name_in (codes "file") d
  size ← count_in (codes "length") d
  hashes ← object_in (codes "hashes") d
  sha256 ← sha256_in (codes "sha256") hashes
  Ok (record { file = file; length = size; sha256 = sha256; sha512 = sha512_in hashes })

unfoldable pub report_in : Data → Result Report Refusal
report_in payload = do
  kind ← word_in (codes "report") (codes "type") payload
  ecu ← ident_in (codes "ecu") payload
  counter ← count_in (codes "counter") payload
  time ← moment_in (codes "time") payload
  attack ← note_in (codes "attack") payload
  image ← object_in (codes "image") payload
  installed ← installed_in image
  Ok (record { ecu = ecu; counter = counter; time = time; attack = attack; image = installed })

-- place is the name of the list that it stands in
unfoldable pub signed_report_in : List ℕ → Data → Result SignedReport Refusal
signed_report_in place d = do
  opened ← opened_in place d
  report ← report_in opened.payload
  Ok (record { report = report; envelope = opened.envelope })

-- ---- manifests

unfoldable pub reports_in : Data → Result (List SignedReport) Refusal
reports_in payload = do
  listed ← list_within 0 most_reports (codes "reports") payload
  each (signed_report_in (codes "reports")) listed

unfoldable pub manifest_in : Data → Result Manifest Refusal
manifest_in payload = do
  kind ← word_in (codes "manifest") (codes "type") payload
  vehicle ← ident_in (codes "vehicle") payload
  primary ← ident_in (codes "primary") payload
  counter ← positive_in (codes "counter") payload
  reports ← reports_in payload
  Ok (record { vehicle = vehicle; primary = primary; counter = counter; reports = reports })

-- ---- bodies

-- the manifest that a body means, with its envelope, or its first fault
unfoldable pub incoming_in : List ℕ → Result Incoming Refusal
incoming_in body = do
  d ← value_within largest_body body
  opened ← opened_in (codes "body") d
  manifest ← manifest_in opened.payload
  Ok (record { manifest = manifest; envelope = opened.envelope })

-- the manifest of a signed text
unfoldable pub manifest_of : List ℕ → Option Manifest
manifest_of signed = option_and_then (λ d. value_of (manifest_in d)) (read signed)

-- the report whose canonical text it is, which its ECU signs, or the first fault
unfoldable pub report_text_in : List ℕ → Result Report Refusal
report_text_in signed = do
  d ← or_error NotJson (read signed)
  written ← canonical_text d
  is_canonical ← unless (bytes_eq written signed) NotCanonical
  report_in d

-- the report of a signed text
abbrev pub report_of : List ℕ → Option Report
report_of signed = value_of (report_text_in signed)

-- the SHA-512 of the image that a signed text reports; none of a text that is no report, or that has none
abbrev pub report_sha512_of : List ℕ → Option (List ℕ)
report_sha512_of signed = option_and_then (λ r. r.image.sha512) (report_of signed)
