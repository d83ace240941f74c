use Rattle.std.proofs.Common.{◌≡◌, ◌≤◌, ◌-◌, take, drop, true}
use Rattle.up_heads.specs.Closing.{has_close}
use Rattle.up_heads.proofs.FieldLaws.{no_comma}
use Rattle.up_heads.proofs.closing.has_close.Given as goal

-- the members before the one that is begun are not `close`
abbrev pub invariant-loop-i : goal.invariant-loop-i
invariant-loop-i l = record {
  begun : l.start ≤ l.i;
  same : has_close (drop l.start l.value) ≡ has_close l.value;
  inside : no_comma (take (l.i - l.start) (drop l.start l.value)) ≡ true;
}
