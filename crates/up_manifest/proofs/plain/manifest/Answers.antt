use Rattle.std.proofs.Common.{◌++◌, ◌∙◌, ap, map, arith}
use Rattle.std.specs.Prelude.{codes, decimal}
use Rattle.up_canon.specs.Canon.{json_string}
use Rattle.up_sign.specs.Formats.{envelope_text}
use Rattle.up_manifest.specs.Building.{list_text}
use Rattle.up_manifest.specs.declared.manifest.Manifest.{Manifest}
use Rattle.up_manifest.proofs.PlainReports.{envelopes, envelope-texts}
use Rattle.up_manifest.proofs.Spelled.{manifest-spelled}
use Rattle.up_manifest.proofs.plain.manifest.Goals as goal

pub returns-clause-text : goal.returns-clause-text
returns-clause-text c =
    let m : Manifest = record { vehicle = c.in_ok-vehicle.vehicle; primary = c.in_ok-primary.primary; counter = c.in_ok-counter.counter; reports = c.in_ok-reports.reports } in
    let es = envelopes m.reports in
    c.in_ok-counter.ensures ∙ ap (λ t. codes "{\"counter\":" ++ (decimal m.counter ++ t)) (
    c.in_ok-primary.ensures ∙ ap (λ t. codes ",\"primary\":" ++ (json_string m.primary ++ t)) (
    c.in_ok-pass.ensures ∙ ap (λ t. codes ",\"reports\":" ++ t) (
    c.in_ok-reports.ensures.text ∙ ap (λ ts. list_text ts ++ c.reports.new.cursor.rest.now) (envelope-texts m.reports) ∙ ap (λ t. list_text (map envelope_text es) ++ t) (
    c.in_ok-vehicle.ensures ∙ ap (λ t. codes ",\"type\":\"manifest\",\"vehicle\":" ++ (json_string m.vehicle ++ t)) c.in_ok-pass-2.ensures))))
    ∙ manifest-spelled m.vehicle m.primary m.counter es c.pass-2.new.self.rest.now

pub returns-clause-fits : goal.returns-clause-fits
returns-clause-fits c = record {
  vehicle = c.text.ensures.fits;
  primary = c.text-2.ensures.fits;
  least = omega arith;
  most = omega arith;
  few = c.in_ok-reports.ensures.few;
  reports = c.in_ok-reports.ensures.fits;
}
