use Rattle.std.proofs.Common.{sym, ap, ◌∙◌}
use Rattle.std.specs.Prelude.{codes, decimal}
use Rattle.up_canon.proofs.Joined.{begun, pushed, pushed_as}
use Rattle.up_canon.specs.Canon.{json_string, text}
use Rattle.up_canon.specs.Moments.{moment_text}
use Rattle.up_manifest.specs.Building.{installed_value}
use Rattle.up_manifest.proofs.Lengths.{report-spelled}
use Rattle.up_manifest.proofs.writing.report_text.Goals as goal

pub returns : goal.returns
returns c =
    let r = c.args.report.now in
    begun _ _ _ c.in_ok-out.ensures.bytes (
    pushed _ _ _ (codes "{\"attack\":") _ c.in_ok-push_str.ensures.bytes (
    pushed _ _ _ (json_string r.attack) _ (pushed_as _ _ _ _ (ap json_string c.text.ensures.value) c.in_ok-push_quoted.ensures) (
    pushed _ _ _ (codes ",\"counter\":") _ c.in_ok-push_str-2.ensures.bytes (
    pushed _ _ _ (decimal r.counter) _ (pushed_as _ _ _ _ (ap decimal c.get.ensures.value) c.in_ok-push_number.ensures) (
    pushed _ _ _ (codes ",\"ecu\":") _ c.in_ok-push_str-3.ensures.bytes (
    pushed _ _ _ (json_string r.ecu) _ c.in_ok-push_ident.ensures (
    pushed _ _ _ (codes ",\"image\":") _ c.in_ok-push_str-4.ensures.bytes (
    pushed _ _ _ (text (installed_value r.image)) _ c.in_ok-push_installed.ensures (
    pushed _ _ _ (codes ",\"time\":") _ c.in_ok-push_str-5.ensures.bytes (
    pushed _ _ _ (json_string (moment_text r.time)) (codes ",\"type\":\"report\"}") c.in_ok-push_moment.ensures.value c.in_ok-push_str-6.ensures.bytes
    )
    )
    )
    )
    )
    )
    )
    )
    )
    )
    ∙ sym (report-spelled r)
