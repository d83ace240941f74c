use Rattle.std.proofs.Common.{[], ◌∷◌, ap, subst, sym, ◌∙◌}
use Rattle.up_sign.specs.Envelopes.{sealed_envelope}
use Rattle.up_sign.specs.Formats.{envelope_text}
use Rattle.serde_json.specs.Data.{Data}
use Rattle.serde_json.specs.Read.{read}
use Rattle.std.specs.Prelude.{◌≡◌, Some}
use Rattle.up_manifest.specs.Building.{IsReportEnvelope}
use Rattle.up_manifest.specs.Meaning.{MeansSignedReport}
use Rattle.up_manifest.proofs.Built as built
use Rattle.up_manifest.proofs.building.build_report_by.Goals as goal

pub returns : goal.returns
returns g c =
    let k = g.K.Scheme.rules c.args.scheme.now in
    let is = c.in_ok-envelope.ensures.value ∙ ap (sealed_envelope k (c.args.secret.now ∷ [])) c.in_ok-signed.ensures in
    let e = built.report_envelope c.envelope_laws.ensures.limits k (g.met.K.Scheme.lawful c.args.scheme.now) c.args.secret.now c.args.report.now c.requires.fits c.keeps_limits.ensures in
    record {
      value = is;
      envelope = subst (λ e. IsReportEnvelope e c.args.report.now) (sym is) e;
      limits = c.in_ok-envelope.ensures.limits;
      means = subst (λ e. (d : Data) × (read (envelope_text e) ≡ Some d) × MeansSignedReport d (record { report = c.args.report.now; envelope = e })) (sym is)
          (built.report_built c.envelope_laws.ensures.text c.moment_laws.ensures.plain c.moment_laws.ensures.read _ c.args.report.now e);
    }
