-- What new files of both repositories are made of.
use Rattle.std.proofs.Common.{◌≡◌, ℕ, ◌≤◌, true, List, [], ◌∷◌, Option, Some, None, refl, sym, ap, subst, arith}
use Rattle.std.specs.Prelude.{⊤, nat_le, map, IfSome, IsTrue, MatchOption, option_copied}
use Rattle.std.proofs.lemmas.Bool.Decides.{nat_tests}
use Rattle.up_canon.specs.Canon.{max_count}
use Rattle.up_canon.specs.Moments.{last_command_moment}
use Rattle.up_sign.specs.Schemes.{Rules}
use Rattle.up_roles.specs.declared.repository.Repository.{Repository}
use Rattle.up_roles.specs.declared.repository.Repository.TheVariants.{Director, Image}
use Rattle.up_canon.specs.Names.{are_distinct}
use Rattle.up_canon.proofs.Printable.{both}
use Rattle.up_roles.specs.Targets.{ecus_of}
use Rattle.up_plan.specs.Images.{ImageData}
use Rattle.up_roles.specs.Payload.{version_fits}
use Rattle.up_metadata.specs.declared.keys.KeySet.{KeySet}
use Rattle.up_metadata.specs.Keys.{repository_fits, key_set_fits, can_sign, roles_can_sign, all_can_sign}
use Rattle.up_metadata.specs.Files.{keys_of}
use Rattle.up_machine.specs.declared.rows.Founding.{Founding}
use Rattle.up_machine.specs.RowsFit.{founding_fits}
use Rattle.up_machine.specs.Due.{CanMakeFiles}
use Rattle.up_machine.specs.Files.{target_of}
use Rattle.up_metadata.proofs.Lists.{and_left, and_right}
use Rattle.up_metadata.proofs.RoleFiles.{roles_sign, fitting_sign}
use denote.Ref.{Bor}

pub both_fit : (k : Rules) (keys : KeySet) → IsTrue (key_set_fits k keys) → IsTrue (repository_fits k keys.director) × IsTrue (repository_fits k keys.image)
both_fit k keys h = (and_left _ _ h, and_right (repository_fits k keys.director) _ h)

pub both_sign : (k : Rules) (keys : KeySet) → IsTrue (key_set_fits k keys) → IsTrue (roles_can_sign k keys.director) × IsTrue (roles_can_sign k keys.image)
both_sign k keys h = let fit = both_fit k keys h in (fitting_sign k keys.director fit.0, fitting_sign k keys.image fit.1)

-- each repository's roles can sign
pub each_signs : (k : Rules) (keys : KeySet) → IsTrue (all_can_sign k keys) → IsTrue (roles_can_sign k keys.director) × IsTrue (roles_can_sign k keys.image)
each_signs k keys h = (and_left _ _ h, and_right (roles_can_sign k keys.director) _ h)

pub both_sign_before : (k : Rules) (repository : Repository) (before : Option (Bor KeySet)) → MatchOption before ⊤ (λ b. IsTrue (all_can_sign k b.now))
    → MatchOption before ⊤ (λ b. IsTrue (can_sign k (keys_of repository b.now).root))
both_sign_before k repository None h = tt
both_sign_before k Director (Some b) h = (roles_sign k b.now.director (each_signs k b.now h).0).0
both_sign_before k Image (Some b) h = (roles_sign k b.now.image (each_signs k b.now h).1).0

pub lent_before : (k : Rules) (before : Option (Bor KeySet)) (b : Option KeySet) → option_copied before ≡ b → IfSome b (λ b. IsTrue (all_can_sign k b)) → MatchOption before ⊤ (λ b. IsTrue (all_can_sign k b.now))
lent_before k None b is h = tt
lent_before k (Some keys) b is h = subst (λ (o : Option KeySet). IfSome o (λ b. IsTrue (all_can_sign k b))) (sym is) h

-- the image repository's targets name no ECU
none_named : (images : List ImageData) → ecus_of (map (target_of None) images) ≡ []
none_named [] = refl
none_named (image ∷ images) = none_named images

pub no_ecus : (images : List ImageData) → IsTrue (are_distinct (ecus_of (map (target_of None) images)))
no_ecus images = ap are_distinct (none_named images)

-- ---- what can be made

pub version_in_limits : (n : ℕ) → 1 ≤ n → n ≤ max_count → IsTrue (version_fits n)
version_in_limits n low high =
    let from : nat_le 1 n ≡ true = grind (arith, nat_tests) in
    let to : nat_le n max_count ≡ true = grind (arith, nat_tests) in
    both _ _ from to

-- keys that can sign, with a version in its limits and a command's moment
pub files_can_be_made : (k : Rules) (f : Founding) → IsTrue (founding_fits k f) → 1 ≤ f.image_version → f.image_version ≤ max_count → f.stamp ≤ last_command_moment → CanMakeFiles k f
files_can_be_made k f fits low high moment = record { keys = (each_signs k f.keys fits).1; version = version_in_limits f.image_version low high; moment = moment }
