use Rattle.std.proofs.Common.{◌≡◌, ◌+◌, drop}
use Rattle.up_machine.specs.Registers.{place_among}
use Rattle.up_machine.proofs.image_targets.place_among.Given as goal

-- the place is not among the images so far
abbrev pub invariant-loop-place : goal.invariant-loop-place
invariant-loop-place l = place_among l.file l.images ≡ l.place + place_among l.file (drop l.place l.images)
