use Rattle.std.proofs.Common.{◌≡◌, take, map}
use Rattle.up_machine.specs.Rows.{new_row}
use Rattle.up_machine.proofs.new_vehicle.ecu_rows.Given as goal

abbrev pub invariant-loop-ecu : goal.invariant-loop-ecu
invariant-loop-ecu l = l.rows.items ≡ map new_row (take l.ecu-index l.ecus)
