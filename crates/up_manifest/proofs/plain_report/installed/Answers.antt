use Rattle.std.proofs.Common.{◌++◌, ◌∙◌, ap}
use Rattle.std.specs.Prelude.{codes, decimal}
use Rattle.up_canon.specs.Build.{hashes_value}
use Rattle.up_canon.specs.Canon.{text, json_string}
use Rattle.up_manifest.specs.declared.report.Installed.{Installed}
use Rattle.up_manifest.proofs.Spelled.{installed-spelled}
use Rattle.up_manifest.proofs.plain_report.installed.Goals as goal

pub returns : goal.returns
returns c =
    let i : Installed = record { file = c.in_ok-file.file; length = c.in_ok-length.length; sha256 = c.in_ok-sha256.sha256; sha512 = c.in_ok-sha256.sha512 } in
    c.in_ok-file.ensures ∙ ap (λ t. codes "{\"file\":" ++ (json_string i.file ++ t)) (
    c.in_ok-pass.ensures ∙ ap (λ t. codes ",\"hashes\":" ++ t) (
    c.in_ok-sha256.ensures ∙ ap (λ t. text (hashes_value i.sha256 i.sha512) ++ t) (
    c.in_ok-length.ensures ∙ ap (λ t. codes ",\"length\":" ++ (decimal i.length ++ t)) c.in_ok-pass-2.ensures)))
    ∙ installed-spelled i c.pass-2.new.self.rest.now
