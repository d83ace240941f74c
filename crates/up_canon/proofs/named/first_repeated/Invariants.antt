use Rattle.std.proofs.Common.{◌≡◌, map, take, drop, reverse}
use Rattle.up_canon.specs.Names.{first_repeated, first_repeated_after}
use Rattle.up_canon.proofs.named.first_repeated.Given as goal

abbrev pub invariant-loop-i : goal.invariant-loop-i
invariant-loop-i g l =
    first_repeated_after (reverse (map g.T.Named.name_of (take l.i l.items))) (map g.T.Named.name_of (drop l.i l.items)) ≡ first_repeated (map g.T.Named.name_of l.items)
