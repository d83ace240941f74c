-- From the trusted Root to the latest one, version by version (Uptane Standard 2.1.0, 5.4.4.3). Each check carries its fault, in the
-- order of checks.
use Rattle.std.specs.Prelude.{ℕ, ◌+◌, ◌==◌, ◌&&◌, List, [], ◌∷◌, Bool, true, false, if◌then◌else◌, nat_lt, bytes_eq, Option, Some, None, Result, Ok, Err}
use Rattle.std.specs.List.{list_any, list_all}
use Rattle.up_canon.specs.Steps.{◌>>=◌, unless}
use Rattle.up_canon.specs.declared.refusal.Refusal.{Refusal}
use Rattle.up_sign.specs.declared.envelope.Envelope.{Envelope}
use Rattle.up_roles.specs.declared.repository.Repository.{Repository}
use Rattle.up_roles.specs.declared.repository.Repository.TheVariants.{Director, Image}
use Rattle.up_roles.specs.declared.root.RootKey.{RootKey}
use Rattle.up_roles.specs.declared.root.RoleKeys.{RoleKeys}
use Rattle.up_roles.specs.declared.root.RootFile.{RootFile}
use Rattle.up_roles.specs.Root.{root_in}
use Rattle.up_verify.specs.declared.refused.Fault.{Fault}
use Rattle.up_verify.specs.declared.refused.Fault.TheVariants.{Unread, OtherRepository, NotNext, UnknownKey, NotSignedBefore, NotSigned, Expired}
use Rattle.up_verify.specs.declared.trust.Trust.{Trust}
use Rattle.up_verify.specs.declared.roots.Followed.{Followed}
use Rattle.up_verify.specs.Verifiers.{Verifier, are_known, is_signed_for}

abbrev pub same_repository : Repository → Repository → Bool
same_repository Director Director = true
same_repository Image Image = true
same_repository _ _ = false

-- the file that was read and its envelope, or the fault that it can't be read
abbrev pub or_unread : {F : Type 0} → Result (F × Envelope) Refusal → Result (F × Envelope) Fault
or_unread (Ok read) = Ok read
or_unread (Err refusal) = Err (Unread refusal)

-- ---- one Root

-- the Root that was read, if it may follow this one
unfoldable pub if_next : Verifier → Repository → RootFile → RootFile → Envelope → Result RootFile Fault
if_next v repository before root envelope = do
  other_repository ← unless (same_repository root.repository repository) OtherRepository
  not_next ← unless (root.version == before.version + 1) NotNext
  unknown_key ← unless (are_known v root) UnknownKey
  not_signed_before ← unless (is_signed_for v before.root envelope) NotSignedBefore
  not_signed ← unless (is_signed_for v root.root envelope) NotSigned
  Ok root

-- the Root that the bytes are, likewise
unfoldable pub next_root : Verifier → Repository → RootFile → List ℕ → Result RootFile Fault
next_root v repository before bytes = do
  read ← or_unread (root_in bytes)
  if_next v repository before read.0 read.1

-- ---- what is forgotten

abbrev pub has_id : List RootKey → RootKey → Bool
has_id keys key = list_any (λ k. bytes_eq k.keyid key.keyid) keys

-- the same keys, in whatever order and under whatever threshold
abbrev pub same_keys : RoleKeys → RoleKeys → Bool
same_keys a b = list_all (has_id b.keys) a.keys && list_all (has_id a.keys) b.keys

-- a version that is remembered, or forgotten
abbrev pub kept_if : Bool → ℕ → ℕ
kept_if kept n = if kept then n else 0

-- the Timestamp and the Snapshot have the keys that they had
abbrev pub same_listing_keys : RootFile → RootFile → Bool
same_listing_keys a b = same_keys a.timestamp b.timestamp && same_keys a.snapshot b.snapshot

-- What is trusted once this Root is. Whoever had a role's old keys may have made its version too great for any later file. So where the
-- Timestamp or the Snapshot gets other keys, the versions of both are forgotten (5.4.4.3), and where Targets does, its version.
abbrev pub with_root : Trust → RootFile → Trust
with_root t root = record {
  root = root;
  versions = record {
    timestamp = kept_if (same_listing_keys t.root root) t.versions.timestamp;
    snapshot = kept_if (same_listing_keys t.root root) t.versions.snapshot;
    targets = kept_if (same_keys t.root.targets root.targets) t.versions.targets;
  };
}

-- ---- all of them

-- on from the next Root, or an end at its fault
abbrev pub go_on : Trust → Result RootFile Fault → (RootFile → Followed) → Followed
go_on t (Ok root) further = further root
go_on t (Err fault) further = record { trust = t; fault = Some fault }

-- Each Root in its turn. What was verified stays, whatever comes behind it.
abbrev pub follow : Verifier → Repository → Trust → List (List ℕ) → Followed
follow v repository t [] = record { trust = t; fault = None }
follow v repository t (bytes ∷ more) = go_on t (next_root v repository t.root bytes) (λ root. follow v repository (with_root t root) more)

-- the latest Root, which alone must not have expired
abbrev pub unless_expired : ℕ → Trust → Option Fault → Result Trust Fault
unless_expired now t (Some fault) = Err fault
unless_expired now t None = if nat_lt now t.root.expires then Ok t else Err Expired

abbrev pub latest : ℕ → Followed → Result Trust Fault
latest now f = unless_expired now f.trust f.fault
