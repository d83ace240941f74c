-- The decisions on both repositories' roots and on the register of images. Each check carries the name of its refusal, in the order of refusals.
use Rattle.std.specs.Prelude.{ℕ, ◌+◌, ◌==◌, ◌&&◌, ◌||◌, ◌++◌, List, [], ◌∷◌, Bool, true, false, nat_le, length, bytes_eq, Option, Some, None, Result, Ok}
use Rattle.std.specs.Cmp.Lexicographic.{pointwise}
use Rattle.std.specs.FinMap as table
use Rattle.up_canon.specs.Names.{Name}
use Rattle.up_canon.specs.Steps.{◌>>=◌, refuse_if, or_error}
use Rattle.up_canon.specs.declared.refusal.Refusal.{Refusal}
use Rattle.up_canon.specs.declared.refusal.Refusal.TheVariants.{AlreadyFounded, ImageTaken, RegisterFull, VersionNotGreater, UnknownFile, RootFull}
use Rattle.up_sign.specs.Schemes.{Rules}
use Rattle.up_roles.specs.declared.repository.Repository.{Repository}
use Rattle.up_roles.specs.declared.repository.Repository.TheVariants.{Director, Image}
use Rattle.up_plan.specs.declared.image.Need.{Need}
use Rattle.up_plan.specs.Images.{ImageData}
use Rattle.up_metadata.specs.declared.keys.KeySet.{KeySet}
use Rattle.up_metadata.specs.Keys.{check_keys}
use Rattle.up_metadata.specs.Files.{keys_of, root_text, role_texts}
use Rattle.up_machine.specs.declared.answer.Answer.TheVariants.{File}
use Rattle.up_machine.specs.State.{Chain, State, is_founded, chain_of, root_number, image_root_number, keys_before}
use Rattle.up_machine.specs.Files.{image_metadata, file}
use Rattle.up_machine.specs.Deciding.{Outcome, done, where_new, check_moment, check_founded, check_version}

-- ---- what changes

-- with the files of the image repository that are made of the rest
abbrev pub with_files : Rules → State → State
with_files k s = record s { files = Some (role_texts k (image_metadata s)) }

-- new files of the image repository, with this version and moment
abbrev pub stamped : Rules → State → ℕ → ℕ → State
stamped k s at version = with_files k (record s { image_version = version; targets_version = version; stamp = at })

-- a repository's next root version, which the keys of the last one sign too
abbrev pub next_chain : Rules → Repository → State → ℕ → KeySet → Chain
next_chain k repository s at keys = record {
  texts = (chain_of repository s).texts ++ root_text k repository (length (chain_of repository s).texts + 1) (record { keys = keys; at = at }) (keys_before s) ∷ [];
  keys = keys_of repository keys;
}

abbrev pub with_root : Rules → State → ℕ → KeySet → State
with_root k s at keys = record s { director = next_chain k Director s at keys; image = next_chain k Image s at keys }

abbrev pub with_image : State → ImageData → State
with_image s image = record s { images = table.insert s.images image.file image }

-- one of the repositories, with these numbers of root versions, has as many as it may have
abbrev pub are_roots_full : ℕ → ℕ → Bool
are_roots_full director image = nat_le 64 director || nat_le 64 image

-- ---- equal images

abbrev pub same_need : Need → Need → Bool
same_need a b = bytes_eq a.hardware b.hardware && (a.release == b.release)

-- both without a second hash, or both with the same one
abbrev pub same_hash : Option (List ℕ) → Option (List ℕ) → Bool
same_hash None None = true
same_hash (Some a) (Some b) = bytes_eq a b
same_hash _ _ = false

abbrev pub same_image : ImageData → ImageData → Bool
same_image a b =
    bytes_eq a.file b.file && (a.length == b.length) && bytes_eq a.sha256 b.sha256 && same_hash a.sha512 b.sha512
    && pointwise bytes_eq a.hardware b.hardware && (a.release == b.release) && pointwise same_need a.needs b.needs
    && pointwise bytes_eq a.conflicts b.conflicts

-- ---- decisions

unfoldable pub decide_found : Rules → State → ℕ → KeySet → Result Outcome Refusal
decide_found k s at keys = do
  moment_out_of_range ← check_moment at
  bad_shape ← check_keys k keys
  already_founded ← refuse_if (is_founded s) AlreadyFounded
  Ok (done (stamped k (with_root k s at keys) at 1))

unfoldable pub decide_rotate : Rules → State → ℕ → KeySet → Result Outcome Refusal
decide_rotate k s at keys = do
  moment_out_of_range ← check_moment at
  bad_shape ← check_keys k keys
  not_founded ← check_founded s
  root_full ← refuse_if (are_roots_full (root_number s) (image_root_number s)) RootFull
  version_limit ← check_version s
  Ok (done (stamped k (with_root k s at keys) at (s.image_version + 1)))

unfoldable pub decide_new_image : Rules → State → ℕ → ImageData → Result Outcome Refusal
decide_new_image k s at image = do
  register_full ← refuse_if (nat_le 1024 (table.len s.images)) RegisterFull
  version_limit ← check_version s
  Ok (done (stamped k (with_image s image) at (s.image_version + 1)))

unfoldable pub decide_image : Rules → State → ℕ → ImageData → Result Outcome Refusal
decide_image k s at image = do
  moment_out_of_range ← check_moment at
  not_founded ← check_founded s
  where_new s (same_image image) ImageTaken (table.get s.images image.file) (decide_new_image k s at image)

unfoldable pub decide_refresh : Rules → State → ℕ → ℕ → Result Outcome Refusal
decide_refresh k s at version = do
  moment_out_of_range ← check_moment at
  not_founded ← check_founded s
  version_not_greater ← refuse_if (nat_le version s.image_version) VersionNotGreater
  Ok (done (stamped k s at version))

unfoldable pub decide_fetch : State → ℕ → Repository → Name → Result Outcome Refusal
decide_fetch s at repository name = do
  moment_out_of_range ← check_moment at
  not_founded ← check_founded s
  text ← or_error UnknownFile (file s repository name)
  Ok (record { answer = File text; next = s })
