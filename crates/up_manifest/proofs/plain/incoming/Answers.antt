use Rattle.std.proofs.Common.{rules, ◌≡◌, ◌++◌, ◌∙◌, sym, ap}
use Rattle.std.specs.Prelude.{codes}
use Rattle.up_sign.specs.declared.envelope.Envelope.{Envelope}
use Rattle.up_manifest.specs.Building.{manifest_text}
use Rattle.up_manifest.specs.Plain.{signatures_text}
use Rattle.up_manifest.proofs.PlainReports.{envelopes, plain_means}
use Rattle.up_manifest.proofs.Spelled.{envelope-ends}
use Rattle.up_manifest.proofs.plain.incoming.Goals as goal

pub returns : goal.returns
returns c =
    let m = c.in_ok-manifest.manifest in
    let ss = c.in_ok-signatures.signatures in
    let signed = c.in_ok-signed.signed in
    let e : Envelope = record { signatures = ss; signed = signed } in
    let text = manifest_text m.vehicle m.primary m.counter (envelopes m.reports) in
    let is : signed ≡ text = c.in_ok-signed.ensures text c.in_ok-manifest.ensures.text in
    let ends : c.manifest.new.cursor.rest.now ≡ codes "}" = search rules in
    let whole =
    sym c.new-cursor.ensures ∙ c.in_ok-signatures.ensures.text
    ∙ ap (λ t. signatures_text ss ++ t) (c.in_ok-manifest.ensures.text ∙ ap (λ t. text ++ t) ends ∙ ap (λ t. t ++ codes "}") (sym is))
    ∙ envelope-ends e in
    plain_means c.envelope_laws.ensures.text c.moment_laws.ensures.plain c.moment_laws.ensures.read m c.in_ok-manifest.ensures.fits ss c.in_ok-signatures.ensures.fits
    signed is c.args.text.now c.utf8.text whole
