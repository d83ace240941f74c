use Rattle.std.proofs.Common.{◌≡◌, ℕ, ◌+◌, ◌*◌, ◌%◌, ◌++◌, List, take, drop, refl, ap, ap₂, ◌∙◌}
use Rattle.sha2.specs.Sha512.{sha512}
use Rattle.up_curve.specs.Curve.{order}
use Rattle.up_curve.proofs.Decode.{number, bytes}
use Rattle.up_curve.proofs.Signatures.{public_of, scalar_of, signature_of, nonce_of}
use Rattle.std.proofs.Math.Nat.{mod-mod}
use Rattle.up_curve.proofs.Ring.{mod_plus}
use Rattle.up_curve.proofs.Signatures.{clamped, challenge_of}
use Rattle.up_curve.specs.Curve.{base, multiple}
use Rattle.up_curve.proofs.Curve.{reduced}
use Rattle.up_curve.proofs.Decode.{encode}
use Rattle.up_ed25519.proofs.signing.sign_with.Goals as goal

pub returns : goal.returns
unfolding signature_of public_of scalar_of nonce_of
returns c =
    let s : List ℕ = c.args.secret.now in
    let m : List ℕ = c.args.message.now in
    let n : ℕ = nonce_of s m in
    let a : number c.scalar-a.result ≡ scalar_of s = c.scalar-a.ensures ∙ ap (λ z. clamped (number (take 32 z))) c.expanded-hash.ensures in
    let r : number c.nonce-r.result ≡ n % order = c.nonce-r.ensures ∙ ap (λ z. number (sha512 (drop 32 z ++ m)) % order) c.expanded-hash.ensures in
    let point : c.multiple_of_base-point.result ≡ encode (multiple n base) = c.multiple_of_base-point.ensures ∙ ap (λ z. encode (multiple z base)) r ∙ ap encode (reduced n) in
    let k : number c.challenge-k.result ≡ challenge_of (encode (multiple n base)) (public_of s) m =
    c.challenge-k.ensures ∙ ap₂ (λ x y. challenge_of x y m) point c.requires in
    c.joined.ensures
    ∙ ap₂ (λ x y. x ++ y) point
    (c.multiply_add-s.ensures ∙ ap (bytes 32) (
    ap (λ z. (z + number c.challenge-k.result * number c.scalar-a.result) % order) r
    ∙ ap₂ (λ x y. (n % order + x * y) % order) k a
    ∙ mod_plus order (n % order) n (challenge_of (encode (multiple n base)) (public_of s) m * scalar_of s) (challenge_of (encode (multiple n base)) (public_of s) m * scalar_of s) (mod-mod n order) refl
    ))
