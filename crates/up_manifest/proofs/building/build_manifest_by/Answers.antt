use Rattle.std.proofs.Common.{[], ◌∷◌, ap, ◌∙◌}
use Rattle.std.proofs.lemmas.Str.{IsUtf8-string_bytes}
use Rattle.up_sign.specs.Envelopes.{sealed_envelope}
use Rattle.up_sign.specs.Formats.{envelope_text}
use Rattle.up_manifest.proofs.Built as built
use Rattle.up_manifest.proofs.building.build_manifest_by.Goals as goal

pub returns : goal.returns
returns g c =
    let k = g.K.Scheme.rules c.args.scheme.now in
    let is = c.in_ok-body.ensures.value ∙ ap envelope_text (c.in_ok-envelope.ensures.value ∙ ap (sealed_envelope k (c.args.secret.now ∷ [])) c.in_ok-signed.ensures) in
    record {
      value = is;
      means = λ rs h. built.built_means c.envelope_laws.ensures.text c.envelope_laws.ensures.limits c.moment_laws.ensures.plain c.moment_laws.ensures.read k (g.met.K.Scheme.lawful c.args.scheme.now)
          c.args.secret.now c.args.vehicle.now c.args.primary.now c.args.counter c.args.reports.now rs
          c.requires.fits c.text.ensures.fits c.text-2.ensures.fits c.requires.manifest.counter_fits.0 c.requires.manifest.counter_fits.1 c.requires.manifest.number h _ (IsUtf8-string_bytes c.in_ok-body.body) is;
    }
