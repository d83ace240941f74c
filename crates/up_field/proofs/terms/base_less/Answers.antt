use Rattle.std.proofs.Common.{◌≡◌, ℕ, ◌*◌, ◌/◌, ◌<◌, true, List, get_or, refl, ◌∙◌, ap, subst, arith}
use Rattle.up_curve.specs.Curve.{base, multiple}
use Rattle.up_curve.specs.Laws.{negated}
use Rattle.up_field.specs.Sparse.{IsDigit}
use Rattle.up_field.proofs.Nothing.{point_of, nothing_less, half}
use Rattle.up_field.specs.Affine.{Keeps}
use Rattle.up_field.specs.Sides.{Yields}
use Rattle.up_field.specs.Tables.{AreOddMultiples}
use Rattle.up_field.specs.declared.affine.Affine.{Affine}
use Rattle.up_field.proofs.terms.base_less.Goals as goal

entry_of : (t : List Affine) (n d : ℕ) → AreOddMultiples n t → IsDigit true d → 0 < d → (q : Affine) → Keeps (get_or t (d / 2) q) (multiple (n * d) base)
entry_of t n d h k l q = subst (λ z. Keeps (get_or t (d / 2) q) (multiple (n * z) base)) (half d k.odd l) (h.keeps (d / 2) (omega (arith, k.low)) q)

none : (n d : ℕ) → d ≡ 0 → n * d ≡ 0
none n d e = ap (λ z. n * z) e ∙ (let z : n * 0 ≡ 0 = omega arith in z)

pub returns-then-d-eq0 : goal.returns-then-d-eq0
returns-then-d-eq0 c = λ n q h l. subst (Yields c.args.s.now) (nothing_less (n * c.args.d) base q (point_of c.args.s.now q l) (none n c.args.d (omega arith))) l

pub returns : goal.returns
returns c = λ n q h l.
    c.affine_sides.ensures q (negated (multiple (n * c.args.d) base)) (c.whole.ensures _ l)
    (c.turned-e.ensures.other _ (entry_of c.args.t.now n c.args.d h c.requires (omega arith) _) refl)
