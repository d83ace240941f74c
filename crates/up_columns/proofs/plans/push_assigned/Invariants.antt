use Rattle.std.proofs.Common.{◌≡◌, ◌∷◌, ◌++◌, take, map, true}
use Rattle.std.specs.List.{join_with_byte, list_all}
use Rattle.up_canon.specs.Canon.{text}
use Rattle.up_canon.proofs.Joined.{separator_after}
use Rattle.up_columns.specs.PlanColumns.{assigned_data}
use Rattle.up_columns.specs.Typed.{is_typed_assigned}
use Rattle.up_columns.proofs.plans.push_assigned.Given as goal

-- a bracket and the images so far stand behind what stood there
abbrev pub invariant-loop-image : goal.invariant-loop-image
invariant-loop-image l = record {
  written : l.out.bytes.items ≡ l.fn.out.bytes.items ++ 91 ∷ join_with_byte 44 (map (λ x. text (assigned_data x)) (take l.image-index l.assigned));
  typed : list_all is_typed_assigned (take l.image-index l.assigned) ≡ true;
  separator : l.separator ≡ separator_after (take l.image-index l.assigned);
}
