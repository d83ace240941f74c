-- The manifest that a JSON value lists, by whom it is signed, or its first fault.
use Rattle.std.specs.Prelude.{ℕ, List, [], ◌∷◌, if◌then◌else◌, nat_le, length, bytes_eq, Option, Some, None, Result, Ok, Err, codes}
use Rattle.serde_json.specs.Data.{Data}
use Rattle.serde_json.specs.Find.{get}
use Rattle.serde_json.specs.Read.{read}
use Rattle.up_canon.specs.HexText.{hex_in, hex_of, sha256_in}
use Rattle.up_canon.specs.Members.{object_of, count_in, list_in, text_of}
use Rattle.up_canon.specs.Moments.{last_moment}
use Rattle.up_canon.specs.Readers.{ident_in, file_name_in, note_in}
use Rattle.up_canon.specs.Steps.{◌>>=◌, or_error, unless, each}
use Rattle.up_canon.specs.declared.refusal.Refusal.{Refusal}
use Rattle.up_canon.specs.declared.refusal.Refusal.TheVariants.{BadShape, NotJson}
use Rattle.up_sign.specs.Envelopes.{sealed_envelope}
use Rattle.up_sign.specs.Formats.{envelope_text}
use Rattle.up_sign.specs.Hmac.{hmac_sha256}
use Rattle.up_sign.specs.Schemes.{Rules}
use Rattle.up_sign.specs.declared.envelope.Envelope.{Envelope}
use Rattle.up_ed25519.specs.Scheme.{ed25519}
use Rattle.up_manifest.specs.Building.{report_text, sealed_manifest}
use Rattle.up_manifest.specs.declared.report.Installed.{Installed}
use Rattle.up_manifest.specs.declared.report.Report.{Report}

-- ---- reports

-- a secret of the scheme
unfoldable pub secret_in : Rules → Data → Result (List ℕ) Refusal
secret_in k map = do
  secret ← hex_in 64 64 (codes "key") map
  fits ← unless (k.secret_fits secret) (BadShape (codes "key"))
  Ok secret

abbrev pub second_hash_as : Option Data → Result (Option (List ℕ)) Refusal
second_hash_as None = Ok None
second_hash_as (Some d) = do
  hash ← hex_of 128 128 (codes "sha512") d
  Ok (Some hash)

-- the SHA-512, where there is one
unfoldable pub second_hash_in : Data → Result (Option (List ℕ)) Refusal
second_hash_in map = second_hash_as (get (codes "sha512") map)

unfoldable pub image_of : Data → Result Installed Refusal
image_of map = do
  size ← count_in (codes "length") map
  sha256 ← sha256_in (codes "sha256") map
  sha512 ← second_hash_in map
  file ← file_name_in (codes "file") map
  Ok (record { file = file; length = size; sha256 = sha256; sha512 = sha512 })

-- the moment of so many seconds, up to the last one
abbrev pub moment_as : ℕ → Result ℕ Refusal
moment_as second = if nat_le second last_moment then Ok second else Err (BadShape (codes "time"))

unfoldable pub time_in : Data → Result ℕ Refusal
time_in map = do
  time ← count_in (codes "time") map
  moment_as time

unfoldable pub report_of : Data → Result Report Refusal
report_of map = do
  ecu ← ident_in (codes "ecu") map
  counter ← count_in (codes "counter") map
  time ← time_in map
  attack ← note_in (codes "attack") map
  image ← image_of map
  Ok (record { ecu = ecu; counter = counter; time = time; attack = attack; image = image })

-- the report in the envelope that its ECU's key signs
unfoldable pub envelope_of : Rules → Data → Result Envelope Refusal
envelope_of k d = do
  map ← object_of (codes "reports") d
  secret ← secret_in k map
  report ← report_of map
  Ok (sealed_envelope k (secret ∷ []) (report_text report))

-- ---- the manifest

-- at most 64 reports
unfoldable pub reports_in : Rules → Data → Result (List Envelope) Refusal
reports_in k map = do
  values ← list_in (codes "reports") map
  few ← unless (nat_le (length values) 64) (BadShape (codes "reports"))
  each (envelope_of k) values

-- from 1 on
unfoldable pub counter_in : Data → Result ℕ Refusal
counter_in map = do
  counter ← count_in (codes "counter") map
  positive ← unless (nat_le 1 counter) (BadShape (codes "counter"))
  Ok counter

-- the text of the manifest, in the envelope that the Primary's key signs
unfoldable pub manifest_by : Rules → Data → Result (List ℕ) Refusal
manifest_by k map = do
  counter ← counter_in map
  secret ← secret_in k map
  vehicle ← ident_in (codes "vehicle") map
  primary ← ident_in (codes "primary") map
  reports ← reports_in k map
  Ok (envelope_text (sealed_manifest k secret vehicle primary counter reports))

abbrev pub method_as : Option Data → Result (List ℕ) Refusal
method_as None = Ok (codes "hmac-sha256")
method_as (Some d) = text_of (codes "method") d

-- by the scheme that it names, HMAC where it names none
abbrev pub manifest_named : List ℕ → Data → Result (List ℕ) Refusal
manifest_named method map =
    if bytes_eq method (codes "hmac-sha256") then manifest_by hmac_sha256 map
    else if bytes_eq method (codes "ed25519") then manifest_by ed25519 map else Err (BadShape (codes "method"))

unfoldable pub manifest_of : Data → Result (List ℕ) Refusal
manifest_of d = do
  map ← object_of (codes "manifest") d
  method ← method_as (get (codes "method") map)
  manifest_named method map

unfoldable pub manifest_in : List ℕ → Result (List ℕ) Refusal
manifest_in text = do
  d ← or_error NotJson (read text)
  manifest_of d
