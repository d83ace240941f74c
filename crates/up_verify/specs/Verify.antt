-- All that a Primary verifies before anything is installed (Uptane Standard 2.1.0, 5.4.4.2, full verification): both repositories' Roots,
-- the Director's reply, the Image repository's files, and that both say the same of each image. Each check carries its refusal, in the
-- order of checks.
use Rattle.std.specs.Prelude.{ℕ, ◌==◌, ◌&&◌, List, [], ◌∷◌, Bool, true, false, if◌then◌else◌, nat_le, not, bytes_eq, find, Option, Some, None, Result, Ok, Err}
use Rattle.std.specs.Cmp.Lexicographic.{pointwise}
use Rattle.std.specs.List.{list_any}
use Rattle.std.specs.Option.{option_eq}
use Rattle.up_canon.specs.Names.{Name}
use Rattle.up_canon.specs.Steps.{◌>>=◌, unless, or_error, each}
use Rattle.up_roles.specs.declared.repository.Repository.TheVariants.{Director, Image}
use Rattle.up_roles.specs.declared.targets.Target.{Target}
use Rattle.up_roles.specs.declared.targets.TargetsFile.{TargetsFile}
use Rattle.up_verify.specs.declared.refused.Refused.{Refused}
use Rattle.up_verify.specs.declared.refused.Refused.TheVariants.{File, WrongVehicle, UnknownRoot, OldRoot, MixedVersions, UnnamedEcu, ReplacedEcu, UnknownEcu, UnknownImage, WrongHardware, LowerRelease}
use Rattle.up_verify.specs.declared.refused.Fault.TheVariants.{Expired}
use Rattle.up_verify.specs.declared.refused.Fault.{Fault}
use Rattle.up_verify.specs.declared.refused.Role.{Role}
use Rattle.up_verify.specs.declared.refused.Role.TheVariants.{Root}
use Rattle.up_verify.specs.declared.trust.Versions.{Versions}
use Rattle.up_verify.specs.declared.trust.Trust.{Trust}
use Rattle.up_verify.specs.declared.trust.OwnEcu.{OwnEcu}
use Rattle.up_verify.specs.declared.trust.Primary.{Primary}
use Rattle.up_verify.specs.declared.served.Reply.{Reply}
use Rattle.up_verify.specs.declared.served.Served.{Served}
use Rattle.up_verify.specs.declared.served.Checked.{Checked}
use Rattle.up_verify.specs.declared.served.Accepted.{Accepted}
use Rattle.up_verify.specs.Verifiers.{Verifier}
use Rattle.up_verify.specs.Roots.{same_repository, follow, latest}
use Rattle.up_verify.specs.Files.{of_file, check_files}

-- ---- the Director's reply

-- the three files have the version
abbrev pub are_of_version : ℕ → Versions → Bool
are_of_version n versions = (versions.timestamp == n) && (versions.snapshot == n) && (versions.targets == n)

unfoldable pub check_reply : Verifier → ℕ → Name → Trust → Reply → Result Checked Refused
check_reply v now vehicle t reply = do
  wrong_vehicle ← unless (bytes_eq reply.vehicle vehicle) WrongVehicle
  unknown_root ← unless (nat_le reply.root t.root.version) UnknownRoot
  old_root ← unless (reply.root == t.root.version) OldRoot
  checked ← check_files v (record { repository = Director; vehicle = Some vehicle; moment = now }) t reply.files
  mixed_versions ← unless (are_of_version reply.version checked.versions) MixedVersions
  Ok checked

-- ---- both repositories

-- the same image
abbrev pub same_target : Target → Target → Bool
same_target a b =
    bytes_eq a.file b.file && (a.length == b.length) && bytes_eq a.sha256 b.sha256 && option_eq bytes_eq a.sha512 b.sha512
    && pointwise bytes_eq a.hardware b.hardware && (a.release == b.release)

abbrev pub own_ecu : List OwnEcu → Name → Option OwnEcu
own_ecu ecus name = find (λ e. bytes_eq e.ecu name) ecus

-- an ECU that the vehicle hasn't: it had it once, or never
abbrev pub not_own : List Name → Name → Refused
not_own replaced name = if list_any (bytes_eq name) replaced then ReplacedEcu name else UnknownEcu name

-- a target that the Director gives this ECU, over those of the Image repository
unfoldable pub check_target_for : Primary → List Target → Target → Name → Result Target Refused
check_target_for p images t name = do
  ecu ← or_error (not_own p.replaced name) (own_ecu p.ecus name)
  unknown_image ← unless (list_any (same_target t) images) (UnknownImage t.file)
  wrong_hardware ← unless (list_any (bytes_eq ecu.hardware) t.hardware) (WrongHardware name)
  lower_release ← unless (nat_le ecu.release t.release) (LowerRelease name)
  Ok t

-- each target of the Director names an ECU, and no two the same: so they were read
unfoldable pub check_target : Primary → List Target → Target → Result Target Refused
check_target p images t = do
  name ← or_error UnnamedEcu t.ecu
  check_target_for p images t name

-- ---- all of it

-- the latest Root of a repository
abbrev pub director_now : Verifier → ℕ → Primary → Served → Result Trust Refused
director_now v now p served = of_file Director Root (latest now (follow v Director p.director served.director_roots))

abbrev pub image_now : Verifier → ℕ → Primary → Served → Result Trust Refused
image_now v now p served = of_file Image Root (latest now (follow v Image p.image served.image_roots))

abbrev pub trusting : Trust → Checked → Trust
trusting t checked = record { root = t.root; versions = checked.versions }

-- Where the Director assigns nothing, the Image repository isn't needed. Else its files are verified by its own Root, and then each target.
unfoldable pub check_installs : Verifier → ℕ → Primary → Served → Trust → TargetsFile → List Target → Result Accepted Refused
check_installs v now p served director targets [] = Ok (record { next = record p { director = director }; targets = targets; installs = [] })
check_installs v now p served director targets (first ∷ more) = do
  image ← image_now v now p served
  checked ← check_files v (record { repository = Image; vehicle = None; moment = now }) image served.image
  installs ← each (check_target p checked.targets.targets) (first ∷ more)
  Ok (record { next = record p { director = director; image = trusting image checked }; targets = targets; installs = installs })

-- The same, of what is trusted of the Image repository alone: as before where nothing is assigned.
unfoldable pub check_some : Verifier → ℕ → Primary → Served → List Target → Result Trust Refused
check_some v now p served targets = do
  image ← image_now v now p served
  checked ← check_files v (record { repository = Image; vehicle = None; moment = now }) image served.image
  installs ← each (check_target p checked.targets.targets) targets
  Ok (trusting image checked)

unfoldable pub check_images : Verifier → ℕ → Primary → Served → List Target → Result Trust Refused
check_images v now p served [] = Ok p.image
check_images v now p served (first ∷ more) = check_some v now p served (first ∷ more)

-- what was served is accepted, or the first check that it doesn't pass
unfoldable pub verify : Verifier → ℕ → Primary → Served → Result Accepted Refused
verify v now p served = do
  director ← director_now v now p served
  checked ← check_reply v now p.vehicle director served.reply
  check_installs v now p served (trusting director checked) checked.targets checked.targets.targets

abbrev pub is_root : Role → Bool
is_root Root = true
is_root _ = false

abbrev pub is_expired : Fault → Bool
is_expired Expired = true
is_expired _ = false

-- It was good once: an older Root, a file of the Director's but for Root that has expired, or an ECU that was replaced. A new manifest
-- brings another reply, and the same manifest never does.
abbrev pub is_old : Refused → Bool
is_old OldRoot = true
is_old (ReplacedEcu name) = true
is_old (File repository role fault) = same_repository repository Director && not (is_root role) && is_expired fault
is_old _ = false

-- what a Primary trusts where a check isn't passed: still the Roots that were verified
abbrev pub with_roots : Verifier → Primary → Served → Primary
with_roots v p served = record p {
  director = (follow v Director p.director served.director_roots).trust;
  image = (follow v Image p.image served.image_roots).trust;
}

-- what a Primary knows and trusts from then on
abbrev pub after : Verifier → Primary → Served → Result Accepted Refused → Primary
after v p served (Ok accepted) = accepted.next
after v p served (Err refused) = with_roots v p served
