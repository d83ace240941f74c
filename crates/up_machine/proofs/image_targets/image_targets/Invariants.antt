use Rattle.std.proofs.Common.{◌≡◌, ◌++◌, map, drop, true, None}
use Rattle.std.specs.List.{list_all}
use Rattle.up_roles.specs.declared.repository.Repository.TheVariants.{Image}
use Rattle.up_roles.specs.Targets.{target_fits}
use Rattle.up_machine.specs.Files.{target_of}
use Rattle.up_machine.proofs.image_targets.image_targets.Given as goal

abbrev pub invariant-loop-image : goal.invariant-loop-image
invariant-loop-image l =
    (map (target_of None) l.images ≡ l.targets.items ++ map (target_of None) (drop l.image-index l.images))
    × (list_all (target_fits Image) l.targets.items ≡ true)
