use Rattle.std.proofs.Common.{◌≡◌, ◌++◌, length}
use Rattle.std.specs.Prelude.{flat_map}
use Rattle.up_canon.specs.Canon.{escape_of}
use Rattle.up_script.proofs.plain_line.unescaped.Given as goal

-- the bytes so far, escaped, stand in front of the rest
abbrev pub invariant-escapes : goal.invariant-escapes
invariant-escapes l = l.text ≡ flat_map escape_of l.bytes.items ++ l.rest

abbrev pub decreases-escapes : goal.decreases-escapes
decreases-escapes l = length l.rest
