use Rattle.std.proofs.Common.{◌≡◌, ◌∷◌, ◌++◌, take, map, true}
use Rattle.std.specs.List.{join_with_byte, list_all}
use Rattle.up_canon.specs.Canon.{text}
use Rattle.up_roles.specs.Targets.{target_value, target_is_typed}
use Rattle.up_canon.proofs.Joined.{separator_after}
use Rattle.up_roles.proofs.targets_text.push_targets.Given as goal

-- a bracket and the targets so far stand behind what stood there
abbrev pub invariant-loop-target : goal.invariant-loop-target
invariant-loop-target l = record {
  written : l.out.bytes.items ≡ l.fn.out.bytes.items ++ 91 ∷ join_with_byte 44 (map (λ x. text (target_value x)) (take l.target-index l.targets));
  typed : list_all target_is_typed (take l.target-index l.targets) ≡ true;
  separator : l.separator ≡ separator_after (take l.target-index l.targets);
}
