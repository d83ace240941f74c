use Rattle.std.proofs.Common.{◌≡◌, drop}
use Rattle.up_verify.specs.Roots.{has_id}
use Rattle.up_verify.proofs.roots.has_id.Given as goal

-- it depends on those that are left
abbrev pub invariant-loop-own : goal.invariant-loop-own
invariant-loop-own l = has_id l.keys l.key ≡ has_id (drop l.own-index l.keys) l.key
