use Rattle.std.proofs.Common.{◌≡◌, ◌+◌, ◌*◌, ◌-◌, ◌^◌, ◌<◌, ◌≤◌, get_or}
use Rattle.up_field.specs.declared.affine.Affine.{Affine}
use Rattle.up_field.specs.Comb.{IsClear}
use Rattle.up_field.proofs.pick.pick.Given as goal

abbrev pub invariant-loop-i : goal.invariant-loop-i
invariant-loop-i l = record {
  clear : l.i ≤ l.k → IsClear l.r;
  ahead : l.i ≤ l.k → l.w ≡ 2 ^ (l.k - l.i);
  past : l.k < l.i → l.w ≡ 0;
  value : l.k < l.i → (q : Affine) → l.r ≡ get_or l.table (16 * l.row + l.k) q;
}
