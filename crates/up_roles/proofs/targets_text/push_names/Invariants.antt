use Rattle.std.proofs.Common.{◌≡◌, ◌∷◌, ◌++◌, take, map, true}
use Rattle.std.specs.List.{join_with_byte, list_all}
use Rattle.up_canon.specs.Canon.{text}
use Rattle.serde_json.specs.Data.{string}
use Rattle.up_canon.specs.Names.{is_ident}
use Rattle.up_canon.proofs.Joined.{separator_after}
use Rattle.up_roles.proofs.targets_text.push_names.Given as goal

-- a bracket and the names so far stand behind what stood there
abbrev pub invariant-loop-name : goal.invariant-loop-name
invariant-loop-name l = record {
  written : l.out.bytes.items ≡ l.fn.out.bytes.items ++ 91 ∷ join_with_byte 44 (map (λ x. text (string x)) (take l.name-index l.names));
  typed : list_all is_ident (take l.name-index l.names) ≡ true;
  separator : l.separator ≡ separator_after (take l.name-index l.names);
}
