use Rattle.std.proofs.Common.{◌≡◌, drop}
use Rattle.up_verify.specs.Verify.{own_ecu}
use Rattle.up_verify.proofs.installs.own_ecu.Given as goal

-- it depends on those that are left
abbrev pub invariant-loop-own : goal.invariant-loop-own
invariant-loop-own l = own_ecu l.ecus l.name ≡ own_ecu (drop l.own-index l.ecus) l.name
