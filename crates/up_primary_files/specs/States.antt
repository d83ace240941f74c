-- What the file of a Primary's state says: the value of a JSON text, member by member, or the first fault.
use Rattle.std.specs.Prelude.{ℕ, List, if◌then◌else◌, bytes_eq, Option, Some, None, Result, Ok, codes}
use Rattle.serde_json.specs.Data.{Data}
use Rattle.serde_json.specs.Read.{read}
use Rattle.up_canon.specs.HexText.{hex_of}
use Rattle.up_canon.specs.Members.{object_of, object_in, text_in, count_in, list_in}
use Rattle.up_canon.specs.Names.{Name}
use Rattle.up_canon.specs.Readers.{ident_of, ident_in}
use Rattle.up_canon.specs.Steps.{◌>>=◌, or_error, each}
use Rattle.up_canon.specs.declared.refusal.Refusal.{Refusal}
use Rattle.up_canon.specs.declared.refusal.Refusal.TheVariants.{BadShape, NotJson}
use Rattle.up_roles.specs.Root.{root_in}
use Rattle.up_roles.specs.declared.root.RootFile.{RootFile}
use Rattle.up_verify.specs.declared.trust.OwnEcu.{OwnEcu}
use Rattle.up_verify.specs.declared.trust.Versions.{Versions}
use Rattle.up_verify.specs.declared.trust.Trust.{Trust}
use Rattle.up_verify.specs.declared.trust.Primary.{Primary}
use Rattle.up_primary_files.specs.declared.method.Method.{Method}
use Rattle.up_primary_files.specs.declared.method.Method.TheVariants.{Hmac, Ed25519}
use Rattle.up_primary_files.specs.declared.state.RootTexts.{RootTexts}
use Rattle.up_primary_files.specs.declared.state.Kept.{Kept}
use Rattle.up_primary_files.specs.declared.state.Own.{Own}
use Rattle.up_primary_files.specs.declared.state.Both.{Both}
use Rattle.up_primary_files.specs.declared.state.State.{State}

-- ---- what is trusted

unfoldable pub versions_of : Data → Result Versions Refusal
versions_of map = do
  timestamp ← count_in (codes "timestamp") map
  snapshot ← count_in (codes "snapshot") map
  targets ← count_in (codes "targets") map
  Ok (record { timestamp = timestamp; snapshot = snapshot; targets = targets })

-- a Root is taken as its text means it: whoever writes the file vouches for it
unfoldable pub root_of : Data → Result RootFile Refusal
root_of map = do
  text ← text_in (codes "root") map
  file ← root_in text
  Ok file.0

unfoldable pub trust_of : Data → Result Trust Refusal
trust_of map = do
  versions ← versions_of map
  root ← root_of map
  Ok (record { root = root; versions = versions })

unfoldable pub both_of : Data → Data → Result Both Refusal
both_of director image = do
  of_director ← trust_of director
  of_image ← trust_of image
  Ok (record { director = of_director; image = of_image })

-- ---- what is known of the vehicle

unfoldable pub ecu_in : Data → Result OwnEcu Refusal
ecu_in map = do
  ecu ← ident_in (codes "ecu") map
  hardware ← ident_in (codes "hardware") map
  release ← count_in (codes "release") map
  Ok (record { ecu = ecu; hardware = hardware; release = release })

unfoldable pub ecu_of : List ℕ → Data → Result OwnEcu Refusal
ecu_of place d = do
  map ← object_of place d
  ecu_in map

unfoldable pub ecus_of : Data → Result (List OwnEcu) Refusal
ecus_of map = do
  ecus ← list_in (codes "ecus") map
  each (ecu_of (codes "ecus")) ecus

unfoldable pub replaced_of : Data → Result (List Name) Refusal
replaced_of map = do
  names ← list_in (codes "replaced") map
  each (ident_of (codes "replaced")) names

unfoldable pub own_of : Data → Result Own Refusal
own_of map = do
  vehicle ← ident_in (codes "vehicle") map
  ecus ← ecus_of map
  replaced ← replaced_of map
  Ok (record { vehicle = vehicle; ecus = ecus; replaced = replaced })

unfoldable pub primary_of : Data → Data → Data → Result Primary Refusal
primary_of map director image = do
  own ← own_of map
  both ← both_of director image
  Ok (record { vehicle = own.vehicle; ecus = own.ecus; replaced = own.replaced; director = both.director; image = both.image })

-- ---- by what is verified, and texts

abbrev pub method_named : List ℕ → Option Method
method_named text = if bytes_eq text (codes "hmac-sha256") then Some Hmac else if bytes_eq text (codes "ed25519") then Some Ed25519 else None

unfoldable pub method_of : Data → Result Method Refusal
method_of map = do
  text ← text_in (codes "method") map
  or_error (BadShape (codes "method")) (method_named text)

unfoldable pub held_of : Data → Result (List (List ℕ)) Refusal
held_of map = do
  held ← list_in (codes "held") map
  each (hex_of 2 128 (codes "held")) held

unfoldable pub texts_of : Data → Data → Result RootTexts Refusal
texts_of director image = do
  of_director ← text_in (codes "root") director
  of_image ← text_in (codes "root") image
  Ok (record { director = of_director; image = of_image })

unfoldable pub kept_of : Data → Data → Data → Result Kept Refusal
kept_of map director image = do
  roots ← texts_of director image
  held ← held_of map
  Ok (record { held = held; roots = roots })

-- ---- all of it

unfoldable pub state_behind : Data → Data → Data → Method → Primary → Result State Refusal
state_behind map director image method primary = do
  kept ← kept_of map director image
  Ok (record { method = method; held = kept.held; primary = primary; roots = kept.roots })

unfoldable pub state_of : Data → Result State Refusal
state_of d = do
  map ← object_of (codes "state") d
  director ← object_in (codes "director") map
  image ← object_in (codes "image") map
  method ← method_of map
  primary ← primary_of map director image
  state_behind map director image method primary

-- the state that a text of JSON means
unfoldable pub state_in : List ℕ → Result State Refusal
state_in text = do
  d ← or_error NotJson (read text)
  state_of d
