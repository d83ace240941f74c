use Rattle.std.proofs.Common.{IsTrue}
use Rattle.std.specs.List.{AllByRecursion}
use Rattle.up_machine.specs.Commands.{opens_running}
use Rattle.up_test_worked_rows.proofs.commands.commands_of.Given as goal

-- the campaigns that the commands so far open are running
abbrev pub invariant-loop-line : goal.invariant-loop-line
invariant-loop-line g l = AllByRecursion (λ c. IsTrue (opens_running c.1)) l.commands.items
