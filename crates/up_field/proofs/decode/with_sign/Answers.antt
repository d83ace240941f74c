use Rattle.std.proofs.Common.{refl, ◌≡◌, ℕ, ◌%◌, sym, ap, subst}
use Rattle.up_curve.specs.Field.{p}
use Rattle.up_field.specs.Points.{number}
use Rattle.up_field.specs.Decoded.{IsMaybe}
use Rattle.up_curve.proofs.Decode.{u_of, v_of, picked_root}
use Rattle.up_field.proofs.Steps.{candidate, with_root, u_steps, v_steps}
use Rattle.up_field.proofs.decode.with_sign.Goals as goal

pub signed-requires-clause-root : goal.signed-requires-clause-root
signed-requires-clause-root c =
    let hu : number c.sub-u.result % p ≡ u_of (number c.args.y) % p =
    u_steps (number c.args.y) (number c.square-s.result) (number c.one.result) (number c.sub-u.result) (number c.sub-u.result)
    c.square-s.ensures c.one.ensures c.sub-u.ensures refl in
    let hv : number c.add-v.result % p ≡ v_of (number c.args.y) % p =
    v_steps (number c.args.y) (number c.square-s.result) (number c.one-2.result) (number c.d.result) (number c.mul-t.result) (number c.add-v.result) (number c.add-v.result)
    c.square-s.ensures c.one-2.ensures c.d.ensures c.mul-t.ensures c.add-v.ensures refl in
    let a : ℕ = u_of (number c.args.y) in
    let b : ℕ = v_of (number c.args.y) in
    let k = c.in-Some.ensures {u = tt} a b hu hv in
    k.reduced

pub signed-requires-clause-curve : goal.signed-requires-clause-curve
signed-requires-clause-curve c =
    let hu : number c.sub-u.result % p ≡ u_of (number c.args.y) % p =
    u_steps (number c.args.y) (number c.square-s.result) (number c.one.result) (number c.sub-u.result) (number c.sub-u.result)
    c.square-s.ensures c.one.ensures c.sub-u.ensures refl in
    let hv : number c.add-v.result % p ≡ v_of (number c.args.y) % p =
    v_steps (number c.args.y) (number c.square-s.result) (number c.one-2.result) (number c.d.result) (number c.mul-t.result) (number c.add-v.result) (number c.add-v.result)
    c.square-s.ensures c.one-2.ensures c.d.ensures c.mul-t.ensures c.add-v.ensures refl in
    let a : ℕ = u_of (number c.args.y) in
    let b : ℕ = v_of (number c.args.y) in
    let k = c.in-Some.ensures {u = tt} a b hu hv in
    picked_root a b (candidate a b) (number c.in-Some.r) k.is

pub returns-in-None : goal.returns-in-None
unfolding with_root
returns-in-None c =
    let hu : number c.sub-u.result % p ≡ u_of (number c.args.y) % p =
    u_steps (number c.args.y) (number c.square-s.result) (number c.one.result) (number c.sub-u.result) (number c.sub-u.result)
    c.square-s.ensures c.one.ensures c.sub-u.ensures refl in
    let hv : number c.add-v.result % p ≡ v_of (number c.args.y) % p =
    v_steps (number c.args.y) (number c.square-s.result) (number c.one-2.result) (number c.d.result) (number c.mul-t.result) (number c.add-v.result) (number c.add-v.result)
    c.square-s.ensures c.one-2.ensures c.d.ensures c.mul-t.ensures c.add-v.ensures refl in
    let a : ℕ = u_of (number c.args.y) in
    let b : ℕ = v_of (number c.args.y) in
    ap (with_root c.args.sign (number c.args.y)) (c.in-None.ensures {u = tt} a b hu hv)

pub returns-in-Some : goal.returns-in-Some
unfolding with_root
returns-in-Some c =
    let hu : number c.sub-u.result % p ≡ u_of (number c.args.y) % p =
    u_steps (number c.args.y) (number c.square-s.result) (number c.one.result) (number c.sub-u.result) (number c.sub-u.result)
    c.square-s.ensures c.one.ensures c.sub-u.ensures refl in
    let hv : number c.add-v.result % p ≡ v_of (number c.args.y) % p =
    v_steps (number c.args.y) (number c.square-s.result) (number c.one-2.result) (number c.d.result) (number c.mul-t.result) (number c.add-v.result) (number c.add-v.result)
    c.square-s.ensures c.one-2.ensures c.d.ensures c.mul-t.ensures c.add-v.ensures refl in
    let a : ℕ = u_of (number c.args.y) in
    let b : ℕ = v_of (number c.args.y) in
    let k = c.in-Some.ensures {u = tt} a b hu hv in
    subst (IsMaybe c.signed.result) (sym (ap (with_root c.args.sign (number c.args.y)) k.is)) c.signed.ensures
