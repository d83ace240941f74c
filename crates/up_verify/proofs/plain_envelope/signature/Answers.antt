use Rattle.std.proofs.Common.{◌++◌, ◌∙◌, ap}
use Rattle.std.specs.Prelude.{codes}
use Rattle.hex.specs.Hex.{encode_lower}
use Rattle.up_canon.specs.Canon.{json_string}
use Rattle.up_sign.specs.declared.envelope.Signature.{Signature}
use Rattle.up_manifest.proofs.Spelled.{signature-spelled}
use Rattle.up_verify.proofs.plain_envelope.signature.Goals as goal

pub returns-clause-text : goal.returns-clause-text
returns-clause-text c =
    let s : Signature = record { keyid = c.in_ok-keyid.keyid; method = c.in_ok-method.method; sig = c.in_ok-sig.sig } in
    c.in_ok-keyid.ensures.value ∙ ap (λ t. codes "{\"keyid\":" ++ (json_string s.keyid ++ t)) (
    c.in_ok-method.ensures.value ∙ ap (λ t. codes ",\"method\":" ++ (json_string s.method ++ t)) (
    c.in_ok-sig.ensures.value ∙ ap (λ t. codes ",\"sig\":" ++ (json_string (encode_lower s.sig) ++ t)) c.in_ok-pass.ensures))
    ∙ signature-spelled s c.pass.new.self.rest.now
