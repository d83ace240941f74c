-- Every file that is made is signed for its role.
use Rattle.std.proofs.Common.{◌≡◌, ℕ, ◌-◌, List, true, Option, Some, None, refl, ap, subst}
use Rattle.std.specs.Prelude.{length, option_map, is_some, IfSome}
use Rattle.up_sign.specs.Schemes.{Rules}
use Rattle.up_roles.specs.declared.repository.Repository.{Repository}
use Rattle.up_roles.specs.declared.repository.Repository.TheVariants.{Director, Image}
use Rattle.up_metadata.specs.declared.keys.KeySet.{KeySet}
use Rattle.up_metadata.specs.Keys.{repository_fits, key_set_fits}
use Rattle.up_metadata.specs.Files.{keys_of, Root}
use Rattle.up_metadata.specs.Signed.{HasFittingKeys, RootFilesAreSigned, RoleFilesAreSigned}
use Rattle.up_metadata.proofs.Lists.{and_left, and_right}
use Rattle.up_machine.specs.State.{State, nth}
use Rattle.up_machine.specs.Files.{image_metadata}
use Rattle.up_machine.specs.Replies.{reply_metadata}
use Rattle.up_machine.specs.Made.{IsSoundRoot, keys_at, IsMade}
use Rattle.up_machine.specs.SignedLaws.{RootsAreSigned, ImageFilesAreSigned, RepliesAreSigned}
use Rattle.up_machine.proofs.Keeping.{nth_at}
use Rattle.up_machine.proofs.MadeRoots.{made_root, last_there}

-- ---- the keys of a sound root

repository_keys_fit : (k : Rules) (repository : Repository) (keys : KeySet) → key_set_fits k keys ≡ true → repository_fits k (keys_of repository keys) ≡ true
repository_keys_fit k Director keys h = and_left _ _ h
repository_keys_fit k Image keys h = and_right (repository_fits k keys.director) _ h

sound_keys : (k : Rules) (s : State) (roots : List Root) (repository : Repository) (i : ℕ) (root : Root) → IsMade k s roots → nth roots i ≡ Some root → HasFittingKeys k repository root.keys
sound_keys k s roots repository i root made there = repository_keys_fit k repository root.keys (nth_at (IsSoundRoot k) roots i root made.each_root there).keys

-- ---- Root files

before_fits : (k : Rules) (s : State) (roots : List Root) (repository : Repository) (i : ℕ) (o : Option Root) → IsMade k s roots → nth roots i ≡ o
    → IfSome (option_map (λ (root : Root). root.keys) o) (HasFittingKeys k repository)
before_fits k s roots repository i None made is = tt
before_fits k s roots repository i (Some before) made is = sound_keys k s roots repository i before made is

pub roots_signed : RootFilesAreSigned → RootsAreSigned
roots_signed files k s roots repository i root law made there = record {
  there = made_root k s roots repository i root made there;
  signed = files k repository i root (keys_at roots (i - 1)) law (sound_keys k s roots repository i root made there) (before_fits k s roots repository (i - 1) (nth roots (i - 1)) made refl);
}

-- ---- the image repository's files

pub images_signed : RoleFilesAreSigned → ImageFilesAreSigned
images_signed signed k s roots files law made is =
    let last = last_there k s roots made (ap is_some is) in
    (made.files files is, signed k (image_metadata s) law (subst (HasFittingKeys k Image) last.2 (sound_keys k s roots Image (length roots) last.0 made last.1)))

-- ---- replies

pub replies_signed : RoleFilesAreSigned → RepliesAreSigned
replies_signed files k s roots vehicle v number e law made there entry =
    let reply = made.replies vehicle v number e there entry in
    record {
      root = reply.root;
      there = reply.there;
      made = reply.made;
      signed = files k (reply_metadata s reply.root.keys vehicle number e.at e.plan) law (sound_keys k s roots Director e.root reply.root made reply.there);
    }
