use Rattle.std.proofs.Common.{◌≡◌, [], ◌∷◌, ◌++◌, ◌∙◌, ap, map, refl, string_bytes, arith}
use Rattle.up_canon.proofs.Printable.{both}
use Rattle.up_sign.specs.Envelopes.{signature_of}
use Rattle.up_sign.proofs.Sealed.{sealed_fits}
use Rattle.up_sign.proofs.seal.seal_one.Goals as goal

pub returns-clause-limits : goal.returns-clause-limits
returns-clause-limits g c =
    let k = g.K.Scheme.rules c.args.scheme.now in
    let t = string_bytes c.args.signed in
    let secrets = c.args.secret.now ∷ [] in
    let fits = sealed_fits k (g.met.K.Scheme.lawful c.args.scheme.now) secrets t (both _ _ c.requires.fits refl) (omega arith) (omega arith) in
    let text : c.as_bytes.result.now ≡ t = c.as_bytes.ensures.value ∙ c.as_str.ensures.value in
    let all : c.new.result ≡ map (signature_of k t) secrets =
    c.new.ensures ∙ c.in_ok-push.ensures.items ∙ ap (λ made. made ++ c.in_ok-signature.signature ∷ []) c.in_ok-signatures.ensures.items
    ∙ ap (λ s. s ∷ []) (c.in_ok-signature.ensures ∙ ap (λ s. signature_of k s c.args.secret.now) text) in
    rw all fits
