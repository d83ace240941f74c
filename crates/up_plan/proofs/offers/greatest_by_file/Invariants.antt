use Rattle.std.proofs.Common.{◌≡◌, ℕ, List, take, nat_cmp}
use Rattle.std.specs.Prelude.{option_copied}
use Rattle.std.specs.BTreeMap.{get_by}
use Rattle.std.specs.Cmp.Lexicographic.{slice_cmp}
use Rattle.up_plan.specs.Offers.{greatest_of_file}
use Rattle.up_plan.proofs.offers.greatest_by_file.Given as goal

abbrev pub invariant-loop-image : goal.invariant-loop-image
invariant-loop-image l = (q : List ℕ) → option_copied (get_by (λ k. slice_cmp nat_cmp q k.now) l.files) ≡ greatest_of_file (take l.image-index l.images) q
