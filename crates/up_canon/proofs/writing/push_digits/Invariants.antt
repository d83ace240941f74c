use Rattle.std.proofs.Common.{◌≡◌, ◌++◌, length}
use Rattle.hex.specs.Hex.{encode_lower}
use Rattle.up_canon.proofs.writing.push_digits.Given as goal

-- what is written, and the digits of what is left
abbrev pub invariant-pieces : goal.invariant-pieces
invariant-pieces l = l.out.bytes.items ++ encode_lower l.rest ≡ l.fn.out.bytes.items ++ encode_lower l.fn.bytes

abbrev pub decreases-pieces : goal.decreases-pieces
decreases-pieces l = length l.rest
