-- What the bytes of a role file mean, as relations: which members its payload has (Uptane Standard 2.1.0 says what each role's metadata
-- contain, and leaves the encoding open; this is the one used here). Members that none of these names are left aside.
use Rattle.std.specs.Prelude.{◌≡◌, ℕ, ◌≤◌, List, IsTrue, bytes_eq, Option, Some, None, codes, ⊤}
use Rattle.std.specs.List.{AllByRecursion, list_all, list_any}
use Rattle.serde_json.specs.Data.{Data, string, array, Items}
use Rattle.serde_json.specs.Find as json
use Rattle.up_canon.specs.HexText.{is_lower_digit}
use Rattle.up_canon.specs.Meaning.{MeansValue, HasText, HasCount, HasObject, HasHex, MeansIfAny, EachMeans}
use Rattle.up_canon.specs.Moments.{last_moment, moment_text}
use Rattle.up_canon.specs.Names.{Name, is_ident, is_file_name, are_distinct, hardware_fits}
use Rattle.up_sign.specs.Meaning.{MeansEnvelope}
use Rattle.up_sign.specs.declared.envelope.Envelope.{Envelope}
use Rattle.up_roles.specs.Payload.{largest_file, repository_text}
use Rattle.up_roles.specs.Root.{all_keys, role_fits}
use Rattle.up_roles.specs.Targets.{ecus_of}
use Rattle.up_roles.specs.declared.repository.Repository.{Repository}
use Rattle.up_roles.specs.declared.repository.Repository.TheVariants.{Director, Image}
use Rattle.up_roles.specs.declared.root.RootKey.{RootKey}
use Rattle.up_roles.specs.declared.root.RoleKeys.{RoleKeys}
use Rattle.up_roles.specs.declared.root.RootFile.{RootFile}
use Rattle.up_roles.specs.declared.snapshot.SnapshotFile.{SnapshotFile}
use Rattle.up_roles.specs.declared.targets.Target.{Target}
use Rattle.up_roles.specs.declared.targets.TargetsFile.{TargetsFile}
use Rattle.up_roles.specs.declared.timestamp.TimestampFile.{TimestampFile}

-- ---- members of several roles

-- a count from 1
abbrev pub HasPositive : Data → List ℕ → ℕ → Type 0
HasPositive d name n = HasCount d name n × (1 ≤ n)

-- an identifier in the Director's files; the Image repository's name none
abbrev pub HasName : Repository → Data → List ℕ → Option Name → Type 0
HasName Director d name (Some ident) = HasText d name ident × IsTrue (is_ident ident)
HasName Director d name None = ⊥
HasName Image d name (Some ident) = ⊥
HasName Image d name None = ⊤

-- a hash under the name of its hash function, as so many lower case hexadecimal digits
pub record HasHash (digits : ℕ) (name : List ℕ) (d : Data) (hash : List ℕ) : Type 0 where
  pub hashes : Data
  pub has_hashes : HasObject d (codes "hashes") hashes
  pub spelled : HasHex digits digits hashes name hash
  pub lower : IsTrue (list_all is_lower_digit spelled.digits)

-- the SHA-256
abbrev pub HasSha256 : Data → List ℕ → Type 0
HasSha256 d hash = HasHash 64 (codes "sha256") d hash

-- the SHA-512
abbrev pub HasSha512 : Data → List ℕ → Type 0
HasSha512 d hash = HasHash 128 (codes "sha512") d hash

-- the role, the repository, a version from 1, and the moment of expiry
pub record MeansHead (kind : List ℕ) (d : Data) (repository : Repository) (version expires : ℕ) : Type 0 where
  pub is_kind : HasText d (codes "type") kind
  pub has_repository : HasText d (codes "repository") (repository_text repository)
  pub has_version : HasPositive d (codes "version") version
  pub has_expires : HasText d (codes "expires") (moment_text expires)
  pub in_time : expires ≤ last_moment

-- ---- Snapshot and Timestamp

-- what a file that lists another one says of itself, and its entry of the file of that name
pub record MeansListing (kind listed : List ℕ) (d : Data) (repository : Repository) (version expires : ℕ) (name : Option Name) (entry : Data) : Type 0 where
  pub head : MeansHead kind d repository version expires
  pub vehicle : HasName repository d (codes "vehicle") name
  pub meta : Data
  pub has_meta : HasObject d (codes "meta") meta
  pub has_entry : HasObject meta listed entry

-- the version of the Targets file
pub record MeansSnapshot (d : Data) (file : SnapshotFile) : Type 0 where
  pub entry : Data
  pub listing : MeansListing (codes "snapshot") (codes "targets.json") d file.repository file.version file.expires file.vehicle entry
  pub targets_version : HasPositive entry (codes "version") file.targets_version

-- the version of the Snapshot file, and the hash of its text
pub record MeansTimestamp (d : Data) (file : TimestampFile) : Type 0 where
  pub entry : Data
  pub listing : MeansListing (codes "timestamp") (codes "snapshot.json") d file.repository file.version file.expires file.vehicle entry
  pub snapshot_version : HasPositive entry (codes "version") file.snapshot_version
  pub snapshot_sha256 : HasSha256 entry file.snapshot_sha256

-- ---- Targets

-- the text is an identifier
abbrev pub MeansIdent : Data → Name → Type 0
MeansIdent d name = (d ≡ string name) × IsTrue (is_ident name)

-- an image, which the Director assigns to an ECU
pub record MeansTarget (repository : Repository) (d : Data) (target : Target) : Type 0 where
  pub ecu : HasName repository d (codes "ecu") target.ecu
  pub file : HasText d (codes "file") target.file
  pub file_fits : IsTrue (is_file_name target.file)
  pub kinds : Items
  pub has_hardware : json.get (codes "hardware") d ≡ Some (array kinds)
  pub hardware : EachMeans MeansIdent kinds target.hardware
  pub some_distinct : IsTrue (hardware_fits target.hardware)
  pub sha256 : HasSha256 d target.sha256
  pub sha512 : MeansIfAny (HasSha512 d) target.sha512
  pub size : HasCount d (codes "length") target.length
  pub release : HasCount d (codes "release") target.release

-- the targets in the order of the list, no ECU of which stands twice
pub record MeansTargets (d : Data) (file : TargetsFile) : Type 0 where
  pub head : MeansHead (codes "targets") d file.repository file.version file.expires
  pub vehicle : HasName file.repository d (codes "vehicle") file.vehicle
  pub listed : Items
  pub has_targets : json.get (codes "targets") d ≡ Some (array listed)
  pub targets : EachMeans (MeansTarget file.repository) listed file.targets
  pub distinct : IsTrue (are_distinct (ecus_of file.targets))

-- ---- Root

-- the key's identifier is the name of a member, which shows the key
pub record ShowsKey (keys : Data) (key : RootKey) : Type 0 where
  pub shown : Data
  pub has_key : HasObject keys key.keyid shown
  pub method : HasText shown (codes "method") key.method
  pub public : HasText shown (codes "public") key.shown

-- the text is the key's identifier
abbrev pub IsKeyId : Data → RootKey → Type 0
IsKeyId d key = d ≡ string key.keyid

-- keys among those, in the order of their identifiers, and a threshold; within the limits of a role
pub record MeansRole (keys roles : Data) (name : List ℕ) (role : RoleKeys) : Type 0 where
  pub value : Data
  pub has_role : HasObject roles name value
  pub listed : Items
  pub has_keyids : json.get (codes "keyids") value ≡ Some (array listed)
  pub keyids : EachMeans IsKeyId listed role.keys
  pub shown : AllByRecursion (ShowsKey keys) role.keys
  pub threshold : HasCount value (codes "threshold") role.threshold
  pub fits : IsTrue (role_fits role)

-- the keys of the four roles, and no others
pub record MeansRoot (d : Data) (file : RootFile) : Type 0 where
  pub head : MeansHead (codes "root") d file.repository file.version file.expires
  pub keys : Data
  pub has_keys : HasObject d (codes "keys") keys
  pub roles : Data
  pub has_roles : HasObject d (codes "roles") roles
  pub root : MeansRole keys roles (codes "root") file.root
  pub targets : MeansRole keys roles (codes "targets") file.targets
  pub snapshot : MeansRole keys roles (codes "snapshot") file.snapshot
  pub timestamp : MeansRole keys roles (codes "timestamp") file.timestamp
  pub no_others : (keyid : List ℕ) (shown : Data) → json.get keyid keys ≡ Some shown → IsTrue (list_any (λ key. bytes_eq key.keyid keyid) (all_keys file))

-- ---- the bytes of a file

-- JSON in UTF-8 (RFC 8259): an envelope, of whose payload M says what it means
pub record MeansFile {F : Type 0} (M : Data → F → Type 0) (bytes : List ℕ) (file : F) (envelope : Envelope) : Type 0 where
  pub value : Data
  pub json_text : MeansValue largest_file bytes value
  pub payload : Data
  pub enveloped : MeansEnvelope value payload envelope
  pub means : M payload file
