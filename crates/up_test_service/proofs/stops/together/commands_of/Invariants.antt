use Rattle.std.proofs.Common.{IsTrue}
use Rattle.std.specs.List.{AllByRecursion}
use Rattle.up_machine.specs.Commands.{opens_running}
use Rattle.up_test_service.proofs.stops.together.commands_of.Given as goal

-- the campaigns that the commands so far open are running
abbrev pub invariant-loop-row : goal.invariant-loop-row
invariant-loop-row l = AllByRecursion (λ c. IsTrue (opens_running c.1)) l.commands.items
