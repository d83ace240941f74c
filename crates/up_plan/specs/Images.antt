-- Images of the register, and their limits.
use Rattle.std.specs.Prelude.{ℕ, ◌&&◌, List, Bool, nat_le, not, length, is_none, bytes_eq, Option, Some, None, codes, if◌then◌else◌}
use Rattle.std.specs.List.{list_any}
use Rattle.up_canon.specs.Names.{Name, hardware_fits}
use Rattle.up_plan.specs.declared.image.Need.{Need}

-- what contracts see of an image
pub record ImageData : Type 0 where
  pub file : Name
  pub length : ℕ
  pub sha256 : List ℕ
  pub sha512 : Option (List ℕ)
  pub hardware : List Name
  pub release : ℕ
  pub needs : List Need
  pub conflicts : List Name

abbrev pub needs_fit : List Need → Bool
needs_fit needs = nat_le (length needs) 16

-- at most 16 filenames, not its own among them
abbrev pub conflicts_fit : Name → List Name → Bool
conflicts_fit file conflicts = nat_le (length conflicts) 16 && not (list_any (bytes_eq file) conflicts)

-- the first member that breaks its limit
abbrev pub image_fault : ImageData → Option Name
image_fault image =
    if not (hardware_fits image.hardware) then Some (codes "hardware")
    else if not (needs_fit image.needs) then Some (codes "needs")
    else if not (conflicts_fit image.file image.conflicts) then Some (codes "conflicts")
    else None

abbrev pub image_fits : ImageData → Bool
image_fits image = is_none (image_fault image)
