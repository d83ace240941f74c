use Rattle.std.proofs.Common.{◌≡◌, ◌∙◌, ap, map, string_bytes}
use Rattle.std.proofs.lemmas.List.{take_all}
use Rattle.up_sign.specs.Envelopes.{signature_of}
use Rattle.up_sign.proofs.Sealed.{sealed_fits}
use Rattle.up_sign.proofs.seal.seal_by.Goals as goal

pub returns-clause-limits : goal.returns-clause-limits
returns-clause-limits g c =
    let k = g.K.Scheme.rules c.args.scheme.now in
    let t = string_bytes c.args.signed in
    let fits = sealed_fits k (g.met.K.Scheme.lawful c.args.scheme.now) c.args.secrets.now t c.requires.fit c.requires.number.0 c.requires.number.1 in
    let all : c.new.result ≡ map (signature_of k t) c.args.secrets.now =
    c.new.ensures ∙ c.loop-i.invariant ∙ ap (map (signature_of k t)) (take_all c.loop-i.i c.args.secrets.now c.loop-i-test.false) in
    rw all fits
