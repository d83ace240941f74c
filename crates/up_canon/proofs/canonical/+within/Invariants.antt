use Rattle.std.proofs.Common.{◌≡◌, drop}
use Rattle.std.specs.List.Sorted.{IsStrictlySortedBy}
use Rattle.std.specs.Map.{keys_of}
use Rattle.std.specs.String.{string_cmp}
use Rattle.up_canon.proofs.Plain.{fits_items, fits_members}
use Rattle.up_canon.proofs.canonical.+within.Given as goal

-- the items that are left decide
abbrev pub invariant-items_are_within-loop-item : goal.invariant-items_are_within-loop-item
invariant-items_are_within-loop-item l = fits_items l.levels (drop l.item-index l.item-items) ≡ fits_items l.levels l.item-items

abbrev pub invariant-members_are_within-loop-key : goal.invariant-members_are_within-loop-key
invariant-members_are_within-loop-key l = record {
  rising : IsStrictlySortedBy string_cmp (keys_of l.key-iterator);
  left : fits_members l.levels l.key-iterator ≡ fits_members l.levels l.members.entries;
}
