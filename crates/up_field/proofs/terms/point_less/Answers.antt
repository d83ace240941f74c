use Rattle.std.proofs.Common.{ℕ, ◌/◌, ◌<◌, false, List, get_or, refl, subst, arith}
use Rattle.up_curve.specs.Curve.{Point, multiple}
use Rattle.up_curve.specs.Laws.{negated}
use Rattle.up_field.specs.Sparse.{IsDigit}
use Rattle.up_field.proofs.Nothing.{point_of, nothing_less, half}
use Rattle.up_field.specs.Cached.{Stores}
use Rattle.up_field.specs.Sides.{Yields}
use Rattle.up_field.specs.Tables.{IsTable}
use Rattle.up_field.specs.declared.cached.Cached.{Cached}
use Rattle.up_field.proofs.terms.point_less.Goals as goal

entry_of : (t : List Cached) (m : Point) (d : ℕ) → IsTable t m → IsDigit false d → 0 < d → (q : Cached) → Stores (get_or t (d / 2) q) (multiple d m)
entry_of t m d h k l q = subst (λ z. Stores (get_or t (d / 2) q) (multiple z m)) (half d k.odd l) (h.each (d / 2) (omega (arith, k.narrow refl)) q)

pub returns-then-d-eq0 : goal.returns-then-d-eq0
returns-then-d-eq0 c = λ m q h k l. subst (Yields c.args.s.now) (nothing_less c.args.d m q (point_of c.args.s.now q l) (omega arith)) l

pub returns : goal.returns
returns c = λ m q h k l.
    c.cached_sides.ensures q (negated (multiple c.args.d m)) (c.whole.ensures _ l)
    (c.opposite-e.ensures _ (entry_of c.args.t.now m c.args.d k c.requires (omega arith) _))
