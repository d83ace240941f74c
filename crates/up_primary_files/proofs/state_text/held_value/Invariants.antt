use Rattle.std.proofs.Common.{◌≡◌, map, take}
use Rattle.serde_json.specs.View.{view}
use Rattle.up_canon.specs.Build.{hex_value}
use Rattle.up_primary_files.proofs.state_text.held_value.Given as goal

-- the values so far are those of the keys so far
abbrev pub invariant-loop-key : goal.invariant-loop-key
invariant-loop-key l = map view l.values.items ≡ map hex_value (take l.key-index l.held)
