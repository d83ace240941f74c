-- The register of images in the order of their filenames, of which no public contract speaks.
use Rattle.std.specs.Prelude.{ℕ, suc, List, [], ◌∷◌, if◌then◌else◌}
use Rattle.std.specs.Ordering.{nat_cmp, is_lt}
use Rattle.std.specs.Cmp.Lexicographic.{slice_cmp}
use Rattle.up_canon.specs.Names.{Name}
use Rattle.up_plan.specs.Images.{ImageData}

-- the place where an image of this filename would stand: before the first of a greater filename
abbrev pub place_among : Name → List ImageData → ℕ
place_among file [] = 0
place_among file (image ∷ images) = if is_lt (slice_cmp nat_cmp file image.file) then 0 else suc (place_among file images)
