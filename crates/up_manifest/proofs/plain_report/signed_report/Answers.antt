use Rattle.std.proofs.Common.{◌++◌, ◌∙◌, sym, ap}
use Rattle.std.specs.Prelude.{codes}
use Rattle.up_sign.specs.declared.envelope.Envelope.{Envelope}
use Rattle.up_manifest.specs.Building.{report_text}
use Rattle.up_manifest.specs.Plain.{signatures_text}
use Rattle.up_manifest.proofs.Spelled.{envelope-spelled}
use Rattle.up_manifest.proofs.plain_report.signed_report.Goals as goal

pub returns-clause-text : goal.returns-clause-text
returns-clause-text c =
    let e : Envelope = record { signatures = c.in_ok-signatures.signatures; signed = c.in_ok-signed.signed } in
    let text = report_text c.in_ok-report.report in
    let is = c.in_ok-signed.ensures text c.in_ok-report.ensures.text in
    let rest = c.pass.new.self.rest.now in
    c.in_ok-signatures.ensures.text ∙ ap (λ t. signatures_text e.signatures ++ t) (
    c.in_ok-report.ensures.text ∙ ap (λ t. text ++ t) c.in_ok-pass.ensures ∙ ap (λ t. t ++ (codes "}" ++ rest)) (sym is))
    ∙ envelope-spelled e rest
