use Rattle.std.proofs.Common.{rules, ◌≡◌, ◌++◌, ◌∙◌, sym, ap, arith}
use Rattle.std.specs.Prelude.{codes}
use Rattle.up_canon.specs.Canon.{text}
use Rattle.up_manifest.specs.Plain.{signatures_text}
use Rattle.up_manifest.proofs.Spelled.{envelope-ends}
use Rattle.up_roles.specs.Targets.{targets_payload}
use Rattle.up_sign.specs.declared.envelope.Envelope.{Envelope}
use Rattle.up_verify.proofs.PlainFiles.{plain_is_read}
use Rattle.up_verify.proofs.plain_targets.enveloped.Goals as goal

pub returns : goal.returns
returns c =
    let file = c.in_ok-file.file in
    let ss = c.in_ok-signatures.signatures in
    let signed = c.in_ok-signed.signed in
    let e : Envelope = record { signatures = ss; signed = signed } in
    let payload = text (targets_payload file) in
    let is : signed ≡ payload = c.in_ok-signed.ensures payload c.in_ok-file.ensures.text in
    let ends : c.targets_file.new.cursor.rest.now ≡ codes "}" = search rules in
    let whole =
    sym c.new-cursor.ensures ∙ c.in_ok-signatures.ensures.text
    ∙ ap (λ t. signatures_text ss ++ t) (c.in_ok-file.ensures.text ∙ ap (λ t. payload ++ t) ends ∙ ap (λ t. t ++ codes "}") (sym is))
    ∙ envelope-ends e in
    plain_is_read c.envelope_laws.ensures.text c.moment_laws.ensures.read c.moment_laws.ensures.only file c.in_ok-file.ensures.fits c.in_ok-file.ensures.typed
    ss c.in_ok-signatures.ensures.number c.in_ok-signatures.ensures.fits signed is c.args.text.now c.utf8.text (omega arith) whole
