use Rattle.std.proofs.Common.{◌≡◌, drop}
use Rattle.std.specs.Prelude.{bytes_eq}
use Rattle.std.specs.List.{list_any}
use Rattle.up_verify.proofs.installs.is_among.Given as goal

-- it depends on those that are left
abbrev pub invariant-loop-other : goal.invariant-loop-other
invariant-loop-other l = list_any (bytes_eq l.name) l.names ≡ list_any (bytes_eq l.name) (drop l.other-index l.names)
