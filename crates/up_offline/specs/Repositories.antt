-- The decisions on both repositories. Each check carries the name of its refusal, in the order of refusals.
use Rattle.std.specs.Prelude.{ℕ, ◌+◌, ◌&&◌, ◌||◌, List, nat_le, nat_lt, is_some, if◌then◌else◌, Option, Some, None, ⊤, Result, Ok, Err, codes}
use Rattle.std.specs.FinMap as table
use Rattle.up_canon.specs.Steps.{◌>>=◌, unless, refuse_if, or_error}
use Rattle.up_canon.specs.Canon.{max_count}
use Rattle.up_canon.specs.declared.refusal.Refusal.TheVariants.{NotFounded, AlreadyFounded, ImageTaken, RegisterFull, VersionLimit, VersionNotGreater, RootFull, BadShape}
use Rattle.up_sign.specs.Schemes.{Rules}
use Rattle.up_roles.specs.declared.repository.Repository.TheVariants.{Director, Image}
use Rattle.up_plan.specs.Images.{ImageData}
use Rattle.up_metadata.specs.declared.keys.KeySet.{KeySet}
use Rattle.up_metadata.specs.Keys.{check_keys}
use Rattle.up_machine.specs.Deciding.{check_moment}
use Rattle.up_machine.specs.Repositories.{same_image}
use Rattle.up_brought.specs.declared.fault.Fault.{Fault}
use Rattle.up_brought.specs.declared.fault.Fault.TheVariants.{Known, OfflineRole}
use Rattle.up_brought.specs.Faults.{known}
use Rattle.up_shown.specs.Showing.{Showing}
use Rattle.up_offline.specs.State.{State, is_offline, is_founded, root_number}
use Rattle.up_offline.specs.Making.{with_root, made_listing, with_files}
use Rattle.up_offline.specs.Publications.{Publication, chain_with, are_apart, register, next_targets}

-- `Ok None`: it is there already
abbrev pub Decided : Type 0
Decided = Result (Option State) Fault

-- ---- checks

abbrev pub check_founded : State → Result ⊤ Fault
check_founded s = unless (is_founded s) (Known NotFounded)

abbrev pub check_version : State → Result ⊤ Fault
check_version s = refuse_if (nat_le max_count s.image_version) (Known VersionLimit)

-- ---- what changes

-- a root version of both repositories that the server makes
abbrev pub with_roots : Rules → State → ℕ → KeySet → State
with_roots k s at keys = record s { director = with_root k Director at keys s.director; image = with_root k Image at keys s.image }

-- new files, with Targets that the server makes
abbrev pub stamped : Rules → State → ℕ → ℕ → State
stamped k s at version = with_files k s at version (made_listing k s at version)

-- a new Snapshot and Timestamp, and new Targets where the server signs for them
abbrev pub refreshed : Rules → State → ℕ → ℕ → List ℕ → State
refreshed k s at version targets =
    if is_offline s.image.keys.targets then with_files k s at version (record { text = targets; version = s.targets_version }) else stamped k s at version

abbrev pub with_image : State → ImageData → State
with_image s image = record s { images = table.insert s.images image.file image }

-- ---- decisions

unfoldable pub decide_found : Rules → State → ℕ → KeySet → Decided
decide_found k s at keys = do
  moment_out_of_range ← known (check_moment at)
  bad_shape ← known (check_keys k keys)
  already_founded ← refuse_if (is_founded s) (Known AlreadyFounded)
  Ok (Some (stamped k (with_roots k s at keys) at 1))

unfoldable pub decide_rotate : Rules → State → ℕ → KeySet → Decided
decide_rotate k s at keys = do
  moment_out_of_range ← known (check_moment at)
  bad_shape ← known (check_keys k keys)
  not_founded ← check_founded s
  offline_role ← refuse_if (is_offline s.director.keys.root || is_offline s.image.keys.root) (OfflineRole (codes "root"))
  root_full ← refuse_if (nat_le 64 (root_number s.director) || nat_le 64 (root_number s.image)) (Known RootFull)
  version_limit ← check_version s
  Ok (Some (stamped k (with_roots k s at keys) at (s.image_version + 1)))

unfoldable pub decide_publish : Showing → State → ℕ → Publication → Decided
decide_publish k s at p = do
  moment_out_of_range ← known (check_moment at)
  not_founded ← unless (is_founded s || (is_some p.director && is_some p.image)) (Known NotFounded)
  director ← chain_with k Director at s.director p.director
  image ← chain_with k Image at s.image p.image
  shared_keys ← unless (are_apart director image) (Known (BadShape (codes "keys")))
  images ← register p.images s.images
  register_full ← refuse_if (nat_lt 1024 (table.len images)) (Known RegisterFull)
  targets ← next_targets k (record s { director = director; image = image; images = images }) at p.targets
  version_limit ← check_version s
  Ok (Some (with_files k.rules (record s { director = director; image = image; images = images }) at (s.image_version + 1) targets))

unfoldable pub decide_new_image : Rules → State → ℕ → ImageData → Decided
decide_new_image k s at image = do
  offline_role ← refuse_if (is_offline s.image.keys.targets) (OfflineRole (codes "targets"))
  register_full ← refuse_if (nat_le 1024 (table.len s.images)) (Known RegisterFull)
  version_limit ← check_version s
  Ok (Some (stamped k (with_image s image) at (s.image_version + 1)))

-- an equal one that is there already, another one of its filename, or a new one
abbrev pub where_new : ImageData → Option ImageData → Decided → Decided
where_new image None decided = decided
where_new image (Some old) decided = if same_image image old then Ok None else Err (Known ImageTaken)

unfoldable pub decide_image : Rules → State → ℕ → ImageData → Decided
decide_image k s at image = do
  moment_out_of_range ← known (check_moment at)
  not_founded ← check_founded s
  where_new image (table.get s.images image.file) (decide_new_image k s at image)

unfoldable pub decide_refresh : Rules → State → ℕ → ℕ → Decided
decide_refresh k s at version = do
  moment_out_of_range ← known (check_moment at)
  files ← or_error (Known NotFounded) s.files
  version_not_greater ← refuse_if (nat_le version s.image_version) (Known VersionNotGreater)
  Ok (Some (refreshed k s at version files.targets))

-- ---- one step of the commands on both repositories

pub data Command : Type 0 where
  Found : KeySet → Command
  Rotate : KeySet → Command
  Publish : Publication → Command
  AddImage : ImageData → Command
  Refresh : ℕ → Command

abbrev pub decide : Showing → State → ℕ → Command → Decided
decide k s at (Found keys) = decide_found k.rules s at keys
decide k s at (Rotate keys) = decide_rotate k.rules s at keys
decide k s at (Publish p) = decide_publish k s at p
decide k s at (AddImage image) = decide_image k.rules s at image
decide k s at (Refresh version) = decide_refresh k.rules s at version

-- a refusal changes nothing, and neither does what is there already
abbrev pub next_of : State → Decided → State
next_of s (Ok (Some next)) = next
next_of s (Ok None) = s
next_of s (Err fault) = s

unfoldable pub step : Showing → State → ℕ → Command → State
step k s at c = next_of s (decide k s at c)
