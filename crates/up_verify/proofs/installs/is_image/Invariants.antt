use Rattle.std.proofs.Common.{◌≡◌, drop}
use Rattle.std.specs.List.{list_any}
use Rattle.up_verify.specs.Verify.{same_target}
use Rattle.up_verify.proofs.installs.is_image.Given as goal

-- it depends on those that are left
abbrev pub invariant-loop-image : goal.invariant-loop-image
invariant-loop-image l = list_any (same_target l.target) l.images ≡ list_any (same_target l.target) (drop l.image-index l.images)
