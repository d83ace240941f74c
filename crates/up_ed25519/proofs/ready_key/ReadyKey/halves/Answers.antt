use Rattle.std.proofs.Common.{◌≡◌, ℕ, ◌&&◌, true, ltb, Some, List, sym, ap, ap₂, ◌∙◌}
use Rattle.up_curve.specs.Curve.{order}
use Rattle.up_curve.specs.LittleEndian.{number}
use Rattle.up_curve.specs.Encoding.{decode}
use Rattle.up_curve.specs.Signatures.{equation_holds, challenge_of}
use Rattle.up_ed25519.proofs.ready_key.ReadyKey.halves.Goals as goal

pub returns : goal.returns
returns c =
    let p : List ℕ = c.args.self.now in
    let r : List ℕ = c.args.r.now in
    let s : List ℕ = c.args.s.now in
    let m : List ℕ = c.args.message.now in
    let bs : List ℕ = c.self.inside.bytes in
    let v = c.self.view_is in
    let e : p ≡ bs = cc in
    let b : ltb (number s) order ≡ true = sym c.is_below_order.ensures ∙ c.if-not-is_below_order.false in
    let d : decode p ≡ Some c.self.invariant.point = ap decode e ∙ c.self.invariant.decoded in
    let f : decode r ≡ Some c.in-Some.ensures.point = c.in-Some.ensures.is in
    let k : number c.challenge-k.result ≡ challenge_of r p m = c.challenge-k.ensures ∙ ap (λ z. challenge_of r z m) (sym e) in
    let g = c.equation.ensures c.self.invariant.point c.in-Some.ensures.point c.self.invariant.on_curve c.self.invariant.multiples c.in-Some.ensures.writes in
    g ∙ ap (λ z. equation_holds (number s) z (Some c.self.invariant.point) (Some c.in-Some.ensures.point)) k
    ∙ ap₂ (λ x y. equation_holds (number s) (challenge_of r p m) x y) (sym d) (sym f)
    ∙ ap (λ t. t && equation_holds (number s) (challenge_of r p m) (decode p) (decode r)) (sym b)
