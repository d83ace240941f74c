use Rattle.std.proofs.Common.{◌≡◌, ◌++◌, drop}
use Rattle.up_brought.specs.Shown.{names_of}
use Rattle.up_brought.proofs.apart.push_names.Given as goal

abbrev pub invariant-loop-key : goal.invariant-loop-key
invariant-loop-key l = l.fn.names.items ++ names_of l.keys ≡ l.names.items ++ names_of (drop l.key-index l.keys)
