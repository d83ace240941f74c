-- The file of a Primary's state as it is written, and which state it says.
use Rattle.std.specs.Prelude.{◌≡◌, ℕ, ◌-◌, ◌&&◌, ◌≤◌, List, [], ◌∷◌, Bool, nat_le, nat_lt, if◌then◌else◌, IsTrue, Ok, codes, length, map, slice_get, unwrap_or}
use Rattle.std.specs.List.{list_all}
use Rattle.serde_json.specs.Data.{Data, string}
use Rattle.up_canon.specs.Build.{object_with, list_with, count_value, hex_value}
use Rattle.up_canon.specs.Canon.{max_count}
use Rattle.up_canon.specs.Names.{is_from_to, is_ident}
use Rattle.up_sign.specs.declared.envelope.Envelope.{Envelope}
use Rattle.up_roles.specs.Root.{root_in}
use Rattle.up_verify.specs.declared.served.Served.{Served}
use Rattle.up_verify.specs.declared.trust.OwnEcu.{OwnEcu}
use Rattle.up_verify.specs.declared.trust.Primary.{Primary}
use Rattle.up_verify.specs.declared.trust.Trust.{Trust}
use Rattle.up_verify.specs.declared.trust.Versions.{Versions}
use Rattle.up_primary_files.specs.declared.method.Method.{Method}
use Rattle.up_primary_files.specs.declared.method.Method.TheVariants.{Hmac, Ed25519}
use Rattle.up_primary_files.specs.declared.state.State.{State}

-- ---- as JSON

abbrev pub method_name : Method → List ℕ
method_name Hmac = codes "hmac-sha256"
method_name Ed25519 = codes "ed25519"

-- a Root's text and the versions
abbrev pub trust_value : List ℕ → Versions → Data
trust_value root versions = object_with (
    (codes "root", string root) ∷ (codes "snapshot", count_value versions.snapshot) ∷ (codes "targets", count_value versions.targets) ∷ (codes "timestamp", count_value versions.timestamp) ∷ [])

abbrev pub ecu_value : OwnEcu → Data
ecu_value own = object_with ((codes "ecu", string own.ecu) ∷ (codes "hardware", string own.hardware) ∷ (codes "release", count_value own.release) ∷ [])

abbrev pub state_value : State → Data
state_value s = object_with (
    (codes "director", trust_value s.roots.director s.primary.director.versions) ∷ (codes "ecus", list_with (map ecu_value s.primary.ecus)) ∷ (codes "held", list_with (map hex_value s.held))
    ∷ (codes "image", trust_value s.roots.image s.primary.image.versions) ∷ (codes "method", string (method_name s.method)) ∷ (codes "replaced", list_with (map string s.primary.replaced))
    ∷ (codes "vehicle", string s.primary.vehicle) ∷ [])

-- ---- behind what was served

-- the text of the Root that is trusted then: the one before where the version is no greater, else that of its version among those that came
abbrev pub root_text : List ℕ → ℕ → List (List ℕ) → ℕ → List ℕ
root_text before first roots version = if nat_le version first then before else unwrap_or (slice_get roots (version - first - 1)) before

abbrev pub state_then : State → Primary → Served → State
state_then before next served = record {
  method = before.method;
  held = before.held;
  primary = next;
  roots = record {
    director = root_text before.roots.director before.primary.director.root.version served.director_roots next.director.root.version;
    image = root_text before.roots.image before.primary.image.root.version served.image_roots next.image.root.version;
  };
}

-- ---- what is read again

-- the text is read as the Root that is trusted, and the versions are counts
pub record IsTold (text : List ℕ) (t : Trust) : Type 0 where
  pub envelope : Envelope
  pub read : root_in text ≡ Ok (t.root, envelope)
  pub timestamp : t.versions.timestamp ≤ max_count
  pub snapshot : t.versions.snapshot ≤ max_count
  pub targets : t.versions.targets ≤ max_count

abbrev pub ecu_fits : OwnEcu → Bool
ecu_fits own = is_ident own.ecu && is_ident own.hardware && nat_le own.release max_count

-- 1 to 64 bytes
abbrev pub held_fits : List ℕ → Bool
held_fits public = is_from_to 1 64 (length public) && list_all (λ x. nat_lt x 256) public

-- names are identifiers, counts at most 2^53-1, and the texts of both Roots are read as what is trusted
pub record IsWhole (s : State) : Type 0 where
  pub vehicle : IsTrue (is_ident s.primary.vehicle)
  pub ecus : IsTrue (list_all ecu_fits s.primary.ecus)
  pub replaced : IsTrue (list_all is_ident s.primary.replaced)
  pub held : IsTrue (list_all held_fits s.held)
  pub director : IsTold s.roots.director s.primary.director
  pub image : IsTold s.roots.image s.primary.image
