use Rattle.std.proofs.Common.{◌≡◌, ℕ, ◌<◌, ◌+◌, ◌*◌, ◌-◌, length, get_or}
use Rattle.up_field.specs.declared.cached.Cached.{Cached}
use Rattle.up_field.specs.Points.{Writes}
use Rattle.up_field.specs.Cached.{Stores}
use Rattle.up_curve.specs.Curve.{Point, multiple}
use Rattle.up_field.proofs.joint.odd_multiples.Given as goal

abbrev pub invariant-loop-i : goal.invariant-loop-i
invariant-loop-i l = record {
  long : length l.t ≡ 8;
  so_far : (m : Point) → Writes l.fn.q m → Writes l.r (multiple (2 * l.i - 1) m);
  writes : (m : Point) → Writes l.fn.q m → (k : ℕ) → k < l.i → (q : Cached) → Stores (get_or l.t k q) (multiple (2 * k + 1) m);
}
