use Rattle.std.proofs.Common.{◌≡◌, ◌∷◌, ◌++◌, take}
use Rattle.std.specs.Prelude.{flat_map}
use Rattle.up_canon.specs.Canon.{escape_of}
use Rattle.up_canon.proofs.writing.push_each_escaped.Given as goal

-- a quote and the bytes so far stand behind what stood there
abbrev pub invariant-loop-byte : goal.invariant-loop-byte
invariant-loop-byte l = l.out.bytes.items ≡ l.fn.out.bytes.items ++ 34 ∷ flat_map escape_of (take l.byte-index l.byte-items)
