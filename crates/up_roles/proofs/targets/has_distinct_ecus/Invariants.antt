use Rattle.std.proofs.Common.{◌≡◌, take, drop}
use Rattle.up_canon.specs.Names.{first_repeated}
use Rattle.up_roles.specs.Targets.{ecus_of, IsSeen}
use Rattle.up_roles.proofs.Repeats.{left}
use Rattle.up_roles.proofs.targets.has_distinct_ecus.Given as goal

abbrev pub invariant-loop-target : goal.invariant-loop-target
invariant-loop-target l = record {
  seen : IsSeen l.seen (ecus_of (take l.target-index l.targets));
  rest : left (ecus_of (take l.target-index l.targets)) (ecus_of (drop l.target-index l.targets)) ≡ first_repeated (ecus_of l.targets);
}
