use Rattle.std.proofs.Common.{◌≡◌, drop}
use Rattle.std.specs.List.{list_all}
use Rattle.up_verify.specs.Roots.{has_id}
use Rattle.up_verify.proofs.roots.have_ids.Given as goal

-- it depends on those that are left
abbrev pub invariant-loop-key : goal.invariant-loop-key
invariant-loop-key l = list_all (has_id l.keys) l.others ≡ list_all (has_id l.keys) (drop l.key-index l.others)
