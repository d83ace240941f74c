use Rattle.std.proofs.Common.{◌<◌, ◌^◌}
use Rattle.up_test_store.proofs.tables.writes.put_vehicle.Given as goal

abbrev pub invariant-loop-part : goal.invariant-loop-part
invariant-loop-part g l = l.place < 2 ^ 63
