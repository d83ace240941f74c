use Rattle.std.proofs.Common.{◌≡◌, map, take}
use Rattle.serde_json.specs.View.{view}
use Rattle.up_primary_files.specs.Written.{ecu_value}
use Rattle.up_primary_files.proofs.state_text.ecus_value.Given as goal

-- the values so far are those of the ECUs so far
abbrev pub invariant-loop-own : goal.invariant-loop-own
invariant-loop-own l = map view l.values.items ≡ map ecu_value (take l.own-index l.ecus)
