use Rattle.std.proofs.Common.{◌≡◌, ℕ, ◌&&◌, Bool, true, false, eqb, eq-eqb, ne_eqb, ltb, if◌then◌else◌, length, take, drop, None, refl, sym, ap, ◌∙◌}
use Rattle.up_curve.specs.Curve.{order}
use Rattle.up_curve.proofs.Decode.{number, decode, point_of}
use Rattle.up_curve.proofs.Signatures.{is_valid, is_valid_of, equation_holds, challenge_of}
use Rattle.up_ed25519.proofs.verification.verify.Goals as goal

and_false : (b : Bool) → (b && false) ≡ false
and_false true = refl
and_false false = refl

pub returns-then-signature-ne64 : goal.returns-then-signature-ne64
unfolding is_valid
returns-then-signature-ne64 c =
    sym (ap (λ t. t && is_valid_of c.args.public.now c.args.message.now (take 32 c.args.signature.now) (drop 32 c.args.signature.now))
    (ne_eqb (length c.args.signature.now) 64 c.if-signature-ne64.true))

pub returns-then-public-ne32 : goal.returns-then-public-ne32
unfolding is_valid decode
returns-then-public-ne32 c =
    let none : decode c.args.public.now ≡ None = ap (λ t. if t then point_of (number c.args.public.now) else None) (ne_eqb (length c.args.public.now) 32 c.if-public-ne32.true) in
    let n : ℕ = number (drop 32 c.args.signature.now) in
    let k : ℕ = challenge_of (take 32 c.args.signature.now) c.args.public.now c.args.message.now in
    sym (
    ap (λ z. eqb (length c.args.signature.now) 64 && (ltb n order && equation_holds n k z (decode (take 32 c.args.signature.now)))) none
    ∙ ap (λ z. eqb (length c.args.signature.now) 64 && z) (and_false (ltb n order))
    ∙ and_false (eqb (length c.args.signature.now) 64)
    )

pub returns : goal.returns
unfolding is_valid
returns c =
    c.sized.ensures
    ∙ sym (ap (λ t. t && is_valid_of c.args.public.now c.args.message.now (take 32 c.args.signature.now) (drop 32 c.args.signature.now))
    (eq-eqb (length c.args.signature.now) 64 c.if-signature-ne64.false))
