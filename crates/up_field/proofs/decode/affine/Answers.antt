use Rattle.std.proofs.Common.{◌≡◌, ℕ, ◌*◌, ◌%◌, ◌<◌, sym, ◌∙◌, ap, arith, mod-eq_of_lt}
use Rattle.up_curve.specs.Field.{p}
use Rattle.up_field.specs.Points.{number}
use Rattle.up_curve.proofs.Ring.{mod_times}
use Rattle.up_field.proofs.decode.affine.Goals as goal

times_one : (a b one : ℕ) → one ≡ 1 → a % p ≡ b → b < p → a % p ≡ (b * one) % p
times_one a b one e h k = h ∙ sym (ap (λ z. z % p) (let s : b * one ≡ b = ap (λ z. b * z) e ∙ omega arith in s) ∙ mod-eq_of_lt {n = b} {m = p} k)

pub returns : goal.returns
returns c = λ m h hx hy. record {
  point = h;
  whole = λ e. omega (arith, e, c.one.ensures);
  x_is = times_one (number c.args.x) m.x (number c.one.result) c.one.ensures hx h.x_below;
  y_is = times_one (number c.args.y) m.y (number c.one.result) c.one.ensures hy h.y_below;
  t_is =
      c.mul.ensures
      ∙ mod_times p (number c.args.x) m.x (number c.args.y) m.y (hx ∙ sym (mod-eq_of_lt {n = m.x} {m = p} h.x_below)) (hy ∙ sym (mod-eq_of_lt {n = m.y} {m = p} h.y_below))
      ∙ ap (λ z. z % p) (let s : m.x * m.y ≡ m.x * m.y * 1 = omega arith in s) ∙ ap (λ z. (m.x * m.y * z) % p) (sym c.one.ensures);
}
