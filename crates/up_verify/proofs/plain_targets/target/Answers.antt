use Rattle.std.proofs.Common.{◌++◌, ◌∙◌, ap, map}
use Rattle.std.specs.Prelude.{codes, decimal}
use Rattle.serde_json.specs.Data.{string}
use Rattle.up_canon.specs.Build.{list_with, hashes_value}
use Rattle.up_canon.specs.Canon.{json_string, text}
use Rattle.up_verify.proofs.PlainTexts.{target-spelled}
use Rattle.up_verify.proofs.plain_targets.target.Goals as goal

pub returns-clause-text : goal.returns-clause-text
returns-clause-text c =
    let file = c.in_ok-file.file in
    let hardware = c.in_ok-hardware.hardware in
    let sha256 = c.in_ok-sha256.sha256 in
    let sha512 = c.in_ok-sha256.sha512 in
    let size = c.in_ok-length.length in
    let release = c.in_ok-release.release in
    c.in_ok-file.ensures ∙ ap (λ t. codes "{\"file\":" ++ (json_string file ++ t)) (
    c.in_ok-pass.ensures ∙ ap (λ t. codes ",\"hardware\":" ++ t) (
    c.in_ok-hardware.ensures.text ∙ ap (λ t. text (list_with (map string hardware)) ++ t) (
    c.in_ok-pass-2.ensures ∙ ap (λ t. codes ",\"hashes\":" ++ t) (
    c.in_ok-sha256.ensures.text ∙ ap (λ t. text (hashes_value sha256 sha512) ++ t) (
    c.in_ok-length.ensures ∙ ap (λ t. codes ",\"length\":" ++ (decimal size ++ t)) (
    c.in_ok-release.ensures ∙ ap (λ t. codes ",\"release\":" ++ (decimal release ++ t)) c.in_ok-pass-3.ensures))))))
    ∙ target-spelled file size sha256 sha512 hardware release c.pass-3.new.self.rest.now
