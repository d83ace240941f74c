use Rattle.std.proofs.Common.{◌≡◌, ℕ, suc, ◌+◌, ◌^◌, sym, ◌∙◌, ap, subst, arith, pow-suc}
use Rattle.std.proofs.Math.Nat.{pow-zero}
use Rattle.up_curve.specs.Curve.{multiple}
use Rattle.up_curve.proofs.Curve.{multiple-add, multiple-one}
use Rattle.up_field.specs.Points.{Writes}
use Rattle.up_field.specs.Sides.{Lies}
use Rattle.up_field.proofs.halves.far.Goals as goal

pub loop-i-init : goal.loop-i-init
loop-i-init c = record {
  lies = λ m h.
      subst (Lies c.without_t-r.result) (sym (ap (λ z. multiple z m) (pow-zero 2) ∙ multiple-one m h.point))
      (c.without_t-r.ensures m h);
}

pub loop-i-preserved : goal.loop-i-preserved
loop-i-preserved c =
    let i : ℕ = c.loop-i.i in
    record {
      lies = λ m h.
          subst (Lies c.flat-r.result)
          (sym (multiple-add (2 ^ i) (2 ^ i) m h.point) ∙ ap (λ z. multiple z m) (let e : 2 ^ i + 2 ^ i ≡ 2 ^ (i + 1) = omega (arith, pow-suc 2 i, ap (λ z. 2 ^ z) (let f : i + 1 ≡ suc i = omega arith in f)) in e))
          (c.flat-r.ensures _ (c.doubled.ensures _ (c.loop-i.invariant.lies m h)));
    }

pub returns : goal.returns
returns c = λ m h.
    let e : c.loop-i.i ≡ 129 = omega arith in
    subst (λ z. Writes c.extended.result (multiple (2 ^ z) m)) e (c.extended.ensures _ (c.loop-i.invariant.lies m h))
