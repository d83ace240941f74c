-- What a manifest's body means, as a relation: which members its values have.
use Rattle.std.specs.Prelude.{◌≡◌, ℕ, ◌≤◌, List, IsTrue, length, Some, codes}
use Rattle.serde_json.specs.Data.{Data, array, Items}
use Rattle.serde_json.specs.Find as json
use Rattle.up_canon.specs.Names.{is_ident, is_file_name, is_note}
use Rattle.up_canon.specs.Moments.{read_moment}
use Rattle.up_canon.specs.Meaning.{MeansValue, HasText, HasCount, HasObject, HasHex, MeansIfAny, EachMeans}
use Rattle.up_sign.specs.Meaning.{MeansEnvelope}
use Rattle.up_manifest.specs.Manifests.{largest_body, most_reports}
use Rattle.up_manifest.specs.declared.report.Installed.{Installed}
use Rattle.up_manifest.specs.declared.report.Report.{Report}
use Rattle.up_manifest.specs.declared.report.SignedReport.{SignedReport}
use Rattle.up_manifest.specs.declared.manifest.Manifest.{Manifest}
use Rattle.up_manifest.specs.declared.manifest.Incoming.{Incoming}

-- ---- reports (Uptane Standard 2.1.0: the ECU version report)

-- the installed image: its filename, its length in bytes, its SHA-256, and its SHA-512 where a member of 128 digits is there
pub record MeansInstalled (d : Data) (i : Installed) : Type 0 where
  pub file : HasText d (codes "file") i.file
  pub file_fits : IsTrue (is_file_name i.file)
  pub size : HasCount d (codes "length") i.length
  pub hashes : Data
  pub has_hashes : HasObject d (codes "hashes") hashes
  pub sha256 : HasHex 64 64 hashes (codes "sha256") i.sha256
  pub sha512 : MeansIfAny (HasHex 128 128 hashes (codes "sha512")) i.sha512

-- one ECU's report
pub record MeansReport (d : Data) (r : Report) : Type 0 where
  pub kind : HasText d (codes "type") (codes "report")
  pub ecu : HasText d (codes "ecu") r.ecu
  pub ecu_fits : IsTrue (is_ident r.ecu)
  pub counter : HasCount d (codes "counter") r.counter
  pub time_text : List ℕ
  pub has_time : HasText d (codes "time") time_text
  pub time : read_moment time_text ≡ Some r.time
  pub attack : HasText d (codes "attack") r.attack
  pub attack_fits : IsTrue (is_note r.attack)
  pub image_value : Data
  pub has_image : HasObject d (codes "image") image_value
  pub image : MeansInstalled image_value r.image

-- with the envelope that its ECU signed
pub record MeansSignedReport (d : Data) (r : SignedReport) : Type 0 where
  pub payload : Data
  pub envelope : MeansEnvelope d payload r.envelope
  pub report : MeansReport payload r.report

-- ---- manifests and bodies (Uptane Standard 2.1.0: the vehicle version manifest)

-- a vehicle's reports, in the order of the list
pub record MeansManifest (d : Data) (m : Manifest) : Type 0 where
  pub kind : HasText d (codes "type") (codes "manifest")
  pub vehicle : HasText d (codes "vehicle") m.vehicle
  pub vehicle_fits : IsTrue (is_ident m.vehicle)
  pub primary : HasText d (codes "primary") m.primary
  pub primary_fits : IsTrue (is_ident m.primary)
  pub counter : HasCount d (codes "counter") m.counter
  pub positive : 1 ≤ m.counter
  pub listed : Items
  pub has_reports : json.get (codes "reports") d ≡ Some (array listed)
  pub reports : EachMeans MeansSignedReport listed m.reports
  pub few : length m.reports ≤ most_reports

-- JSON in UTF-8 (RFC 8259), with the envelope that the Primary signed
pub record MeansBody (body : List ℕ) (i : Incoming) : Type 0 where
  pub value : Data
  pub json_text : MeansValue largest_body body value
  pub payload : Data
  pub envelope : MeansEnvelope value payload i.envelope
  pub manifest : MeansManifest payload i.manifest
