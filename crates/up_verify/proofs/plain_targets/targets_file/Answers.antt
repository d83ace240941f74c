use Rattle.std.proofs.Common.{◌++◌, ◌∙◌, ap, sym, map, arith}
use Rattle.std.specs.Prelude.{codes, decimal}
use Rattle.up_canon.specs.Build.{list_with}
use Rattle.up_canon.specs.Canon.{json_string, text}
use Rattle.up_canon.specs.Moments.{moment_text}
use Rattle.up_roles.specs.Targets.{target_value, targets_payload}
use Rattle.up_verify.proofs.PlainTexts.{image_file, file-spelled}
use Rattle.up_verify.proofs.PlainFiles.{file-fits, file-typed}
use Rattle.up_verify.proofs.plain_targets.targets_file.Goals as goal

pub returns-clause-text : goal.returns-clause-text
returns-clause-text c =
    let expires = c.in_ok-expires.expires in
    let targets = c.in_ok-targets.targets in
    let version = c.in_ok-count_behind.field-0 in
    let rest = c.pass-2.new.self.rest.now in
    c.in_ok-expires.ensures ∙ ap (λ t. codes "{\"expires\":" ++ (json_string (moment_text expires) ++ t)) (
    c.in_ok-pass.ensures ∙ ap (λ t. codes ",\"repository\":\"image\",\"targets\":" ++ t) (
    c.in_ok-targets.ensures.text ∙ ap (λ t. text (list_with (map target_value targets)) ++ t) (
    c.in_ok-count_behind.ensures ∙ ap (λ t. codes ",\"type\":\"targets\",\"version\":" ++ (decimal version ++ t)) c.in_ok-pass-2.ensures)))
    ∙ file-spelled version expires targets rest
    ∙ ap (λ n. text (targets_payload (image_file n expires targets)) ++ rest) (sym c.get-version.ensures.value)

pub returns-clause-fits : goal.returns-clause-fits
returns-clause-fits c =
    let limit = c.get-version.ensures.limit in
    file-fits c.get-version.result c.in_ok-expires.expires c.in_ok-targets.targets (omega arith) limit c.in_ok-targets.ensures.fits

pub returns-clause-typed : goal.returns-clause-typed
returns-clause-typed c =
    let same = c.get.ensures.value in
    let limit = c.get.ensures.limit in
    file-typed c.get-version.result c.in_ok-expires.expires c.in_ok-targets.targets (omega arith) c.in_ok-targets.ensures.fits
