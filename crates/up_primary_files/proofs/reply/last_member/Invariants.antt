use Rattle.std.specs.Prelude.{IfSome}
use Rattle.up_primary_files.specs.Served.{StandsIn}
use Rattle.up_primary_files.proofs.reply.last_member.Given as goal

-- what was found stands in the bytes
abbrev pub invariant-loop-three : goal.invariant-loop-three
invariant-loop-three l = IfSome l.found (λ found. StandsIn l.fn.bytes found.now)
