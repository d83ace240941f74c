use Rattle.std.proofs.Common.{◌≡◌, length, take}
use Rattle.std.specs.Prelude.{IsTrue}
use Rattle.std.specs.List.{AllByRecursion}
use Rattle.up_lines.specs.Together.{bytes_of}
use Rattle.up_machine.specs.Commands.{opens_running}
use Rattle.up_service.specs.Together.{AreRead}
use Rattle.up_service.proofs.line_answer.read_some.Given as goal

-- the lines so far are read as the commands so far
abbrev pub invariant-loop-line : goal.invariant-loop-line
invariant-loop-line g l = record {
  read : AreRead (g.A.Asks.asks l.desk) (take l.line-index (bytes_of l.lines)) l.commands.items;
  count : length l.commands.items ≡ l.line-index;
  running : AllByRecursion (λ c. IsTrue (opens_running c.1)) l.commands.items;
}
