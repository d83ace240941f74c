use Rattle.std.proofs.Common.{refl, ◌≡◌, ◌≢◌, ℕ, ◌+◌, ◌*◌, ◌-◌, ◌%◌, ◌<◌, sym, ◌∙◌, arith, mod-eq_of_lt, false, eqb, eq-eqb, ◌&&◌, ne_eqb}
use Rattle.up_curve.specs.Field.{p}
use Rattle.up_field.specs.Points.{number}
use Rattle.up_curve.specs.Curve.{Point}
use Rattle.up_curve.specs.Points.{IsPoint}
use Rattle.up_curve.proofs.Decode.{u_of, v_of, root_on_curve}
use Rattle.up_field.proofs.Steps.{signed_none, signed_same, signed_other, root_positive}
use Rattle.up_curve.proofs.Decoded.{other_root}
use Rattle.up_field.proofs.decode.signed.Goals as goal

at_root : (x y : ℕ) → x < p → y < p → (v_of y * (x * x)) % p ≡ u_of y % p → IsPoint (record { x = x; y = y })
at_root x y h k e = record { curve = root_on_curve x y e; x_below = h; y_below = k }

negative : (x t r z : ℕ) → x % p ≡ t % p → (t + r) % p ≡ z % p → z ≡ 0 → 0 < r → r < p → x % p ≡ p - r
negative x t r z h k e pos low = omega (arith, h, k, e, pos, low)

pub returns-then-is_refused : goal.returns-then-is_refused
returns-then-is_refused c = signed_none c.args.sign (number c.args.y) (number c.args.r) (sym c.is_refused.ensures ∙ c.if-is_refused.true)

pub returns-then-r-sign : goal.returns-then-r-sign
returns-then-r-sign c =
    let m : Point = record { x = number c.args.r; y = number c.args.y } in
    let h : IsPoint m = at_root (number c.args.r) (number c.args.y) c.requires.root.below c.requires.second.below c.requires.curve in
    let f : c.args.r.a % 2 ≡ c.args.sign = c.if-r-sign.true in
    record {
      point = m;
      is =
          signed_same c.args.sign (number c.args.y) (number c.args.r) (sym c.is_refused.ensures ∙ c.if-is_refused.false)
          (eq-eqb (number c.args.r % 2) c.args.sign (omega (arith, f)));
      writes = c.affine.ensures m h (mod-eq_of_lt {n = number c.args.r} {m = p} c.requires.root.below) (mod-eq_of_lt {n = number c.args.y} {m = p} c.requires.second.below);
    }

pub returns : goal.returns
returns c =
    let f : c.args.r.a % 2 ≢ c.args.sign = c.if-r-sign.false in
    let q : (eqb (number c.args.r) 0 && eqb c.args.sign 1) ≡ false = sym c.is_refused.ensures ∙ c.if-is_refused.false in
    let odd : eqb (number c.args.r % 2) c.args.sign ≡ false = ne_eqb (number c.args.r % 2) c.args.sign (λ e. f (omega (arith, e))) in
    let pos : 0 < number c.args.r = root_positive c.args.sign (number c.args.r) c.requires.bit q odd in
    let low : number c.args.r < p = c.requires.root.below in
    let n : ℕ = p - number c.args.r in
    let m : Point = record { x = p - number c.args.r; y = number c.args.y } in
    let h : IsPoint m = at_root (p - number c.args.r) (number c.args.y) (omega (arith, pos)) c.requires.second.below
    (other_root (v_of (number c.args.y)) (u_of (number c.args.y)) (number c.args.r) (p - number c.args.r) (omega (arith, low)) c.requires.curve) in
    record {
      point = m;
      is = signed_other c.args.sign (number c.args.y) (number c.args.r) q odd;
      writes = c.affine-2.ensures m h (negative (number c.sub-x.result) (number c.sub-x.result) (number c.args.r) (number c.zero.result) refl c.sub-x.ensures c.zero.ensures pos low) (mod-eq_of_lt {n = number c.args.y} {m = p} c.requires.second.below);
    }
