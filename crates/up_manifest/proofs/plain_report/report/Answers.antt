use Rattle.std.proofs.Common.{◌++◌, ◌∙◌, ap}
use Rattle.std.specs.Prelude.{codes, decimal}
use Rattle.up_canon.specs.Canon.{text, json_string}
use Rattle.up_canon.specs.Moments.{moment_text}
use Rattle.up_manifest.specs.Building.{installed_value}
use Rattle.up_manifest.specs.declared.report.Report.{Report}
use Rattle.up_manifest.proofs.Spelled.{report-spelled}
use Rattle.up_manifest.proofs.plain_report.report.Goals as goal

pub returns-clause-text : goal.returns-clause-text
returns-clause-text c =
    let r : Report = record { ecu = c.in_ok-ecu.ecu; counter = c.in_ok-counter.counter; time = c.in_ok-time.time; attack = c.in_ok-attack.attack; image = c.in_ok-image.image } in
    c.in_ok-attack.ensures ∙ ap (λ t. codes "{\"attack\":" ++ (json_string r.attack ++ t)) (
    c.in_ok-counter.ensures ∙ ap (λ t. codes ",\"counter\":" ++ (decimal r.counter ++ t)) (
    c.in_ok-ecu.ensures ∙ ap (λ t. codes ",\"ecu\":" ++ (json_string r.ecu ++ t)) (
    c.in_ok-pass.ensures ∙ ap (λ t. codes ",\"image\":" ++ t) (
    c.in_ok-image.ensures ∙ ap (λ t. text (installed_value r.image) ++ t) (
    c.in_ok-time.ensures ∙ ap (λ t. codes ",\"time\":" ++ (json_string (moment_text r.time) ++ t)) c.in_ok-pass-2.ensures)))))
    ∙ report-spelled r c.pass-2.new.self.rest.now
