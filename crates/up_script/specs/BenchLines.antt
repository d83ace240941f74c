-- The members of a line that signs reports and their manifest, and delivers it.
use Rattle.std.specs.Prelude.{ℕ, List, [], ◌∷◌, Option, Some, None, nat_le, Result, Ok, codes}
use Rattle.serde_json.specs.Data.{Data}
use Rattle.serde_json.specs.Find as json
use Rattle.up_canon.specs.HexText.{hex_in, sha256_in}
use Rattle.up_canon.specs.Members.{object_of, count_in}
use Rattle.up_canon.specs.Moments.{last_moment}
use Rattle.up_canon.specs.Names.{Name}
use Rattle.up_canon.specs.Readers.{fitting, ident_in, file_name_in, note_of, positive_in, list_within}
use Rattle.up_canon.specs.Steps.{◌>>=◌, each}
use Rattle.up_canon.specs.declared.refusal.Refusal.{Refusal}
use Rattle.up_sign.specs.Envelopes.{sealed_envelope}
use Rattle.up_sign.specs.Formats.{envelope_text}
use Rattle.up_sign.specs.Schemes.{Rules}
use Rattle.up_sign.specs.declared.envelope.Envelope.{Envelope}
use Rattle.up_manifest.specs.Building.{report_text, sealed_manifest}
use Rattle.up_manifest.specs.Manifests.{most_reports}
use Rattle.up_manifest.specs.declared.report.Installed.{Installed}
use Rattle.up_script.specs.ImageLines.{optional_sha512_in}

-- a secret key, 1 to 256 bytes that the scheme takes
unfoldable pub secret_in : Rules → Data → Result (List ℕ) Refusal
secret_in k d = do
  key ← hex_in 2 512 (codes "key") d
  fitting k.secret_fits (codes "key") key

-- a moment in seconds
unfoldable pub time_in : Data → Result ℕ Refusal
time_in d = do
  second ← count_in (codes "time") d
  fitting (λ n. nat_le n last_moment) (codes "time") second

-- a note that may be left out, and is then empty
abbrev pub note_or_empty : Option Data → Result Name Refusal
note_or_empty None = Ok []
note_or_empty (Some value) = note_of (codes "attack") value

unfoldable pub attack_in : Data → Result Name Refusal
attack_in d = note_or_empty (json.get (codes "attack") d)

unfoldable pub reported_in : Data → Result Installed Refusal
reported_in d = do
  file ← file_name_in (codes "file") d
  size ← count_in (codes "length") d
  sha256 ← sha256_in (codes "sha256") d
  sha512 ← optional_sha512_in d
  Ok (record { file = file; length = size; sha256 = sha256; sha512 = sha512 })

-- a report in the envelope that its ECU's key signs
unfoldable pub report_of : Rules → List ℕ → Data → Result Envelope Refusal
report_of k place value = do
  d ← object_of place value
  ecu ← ident_in (codes "ecu") d
  key ← secret_in k d
  counter ← count_in (codes "counter") d
  time ← time_in d
  attack ← attack_in d
  image ← reported_in d
  Ok (sealed_envelope k (key ∷ []) (report_text (record { ecu = ecu; counter = counter; time = time; attack = attack; image = image })))

-- the body of the manifest, signed by the Primary's key
unfoldable pub bench_in : Rules → Data → Result (List ℕ) Refusal
bench_in k d = do
  vehicle ← ident_in (codes "vehicle") d
  primary ← ident_in (codes "primary") d
  key ← secret_in k d
  counter ← positive_in (codes "counter") d
  values ← list_within 0 most_reports (codes "reports") d
  reports ← each (report_of k (codes "reports")) values
  Ok (envelope_text (sealed_manifest k key vehicle primary counter reports))
