-- The first need or conflict of an image that isn't met.
use Rattle.std.proofs.Common.{◌≡◌, List, ◌∙◌}
use Rattle.std.specs.Prelude.{Some, None, find, not, map, filter}
use Rattle.up_canon.specs.Names.{Name}
use Rattle.up_canon.specs.Steps.{first_or_none}
use Rattle.up_plan.specs.Images.{ImageData}
use Rattle.up_plan.specs.Planning.{Resulting, is_met, is_apart, unmet_by}
use Rattle.up_plan.specs.declared.image.Need.{Need}
use Rattle.up_plan.specs.declared.assigned.Cause.TheVariants.{Need as UnmetNeed, Conflict as UnmetConflict}
use Rattle.up_plan.proofs.Firsts.{first_passing, first_found, first_after}

module _ (set : List Resulting) (ecu : Name) (image : ImageData) where
  pub unmet_by_need : (need : Need) → find (λ n. not (is_met set n)) image.needs ≡ Some need → first_or_none (unmet_by set ecu (Some image)) ≡ Some (UnmetNeed ecu need.hardware)
  unmet_by_need need found =
      first_found (λ n. UnmetNeed ecu n.hardware) (λ n. not (is_met set n)) image.needs (map (λ file. UnmetConflict ecu file) (filter (λ file. not (is_apart set file)) image.conflicts)) need found

  pub unmet_by_conflict : (file : Name) → find (λ n. not (is_met set n)) image.needs ≡ None → find (λ f. not (is_apart set f)) image.conflicts ≡ Some file
      → first_or_none (unmet_by set ecu (Some image)) ≡ Some (UnmetConflict ecu file)
  unmet_by_conflict file none found =
      first_after (λ n. UnmetNeed ecu n.hardware) (λ n. not (is_met set n)) image.needs (map (λ f. UnmetConflict ecu f) (filter (λ f. not (is_apart set f)) image.conflicts)) none
      ∙ rw found at (first_passing (λ f. UnmetConflict ecu f) (λ f. not (is_apart set f)) image.conflicts)

  pub unmet_by_none : find (λ n. not (is_met set n)) image.needs ≡ None → find (λ f. not (is_apart set f)) image.conflicts ≡ None → first_or_none (unmet_by set ecu (Some image)) ≡ None
  unmet_by_none none free =
      first_after (λ n. UnmetNeed ecu n.hardware) (λ n. not (is_met set n)) image.needs (map (λ f. UnmetConflict ecu f) (filter (λ f. not (is_apart set f)) image.conflicts)) none
      ∙ rw free at (first_passing (λ f. UnmetConflict ecu f) (λ f. not (is_apart set f)) image.conflicts)
