-- The faults that a body may have.
use Rattle.std.proofs.Common.{ℕ, List}
use Rattle.serde_json.specs.Data.{Data}
use Rattle.up_canon.proofs.Faults.{Fails, AllowsShapes, then_fails, ok_fails, each_fails, count_fails, object_fails, ident_fails, file_name_fails, note_fails, word_fails, positive_fails, list_within_fails, sha256_fails, moment_fails, value_fails}
use Rattle.up_sign.specs.Laws.{IsTextFault}
use Rattle.up_sign.proofs.Faults.{opened_text_fails}
use Rattle.up_manifest.specs.Manifests.{installed_in, report_in, signed_report_in, reports_in, manifest_in, incoming_in}

shapes : AllowsShapes IsTextFault
shapes = record { shape = λ name. tt }

-- steps, and the readers of members
ruleset readers = (then_fails, ok_fails, word_fails, ident_fails, file_name_fails, note_fails, count_fails, positive_fails, moment_fails, sha256_fails, object_fails, list_within_fails)

installed_fails : (d : Data) → Fails IsTextFault (installed_in d)
unfolding installed_in
installed_fails d = search (readers, shapes) depth 20

report_fails : (d : Data) → Fails IsTextFault (report_in d)
unfolding report_in
report_fails d = search (readers, shapes, installed_fails) depth 20

signed_report_fails : (place : List ℕ) (d : Data) → Fails IsTextFault (signed_report_in place d)
unfolding signed_report_in
signed_report_fails place d = search (readers, opened_text_fails, report_fails) depth 20

reports_fails : (d : Data) → Fails IsTextFault (reports_in d)
unfolding reports_in
reports_fails d = search (readers, shapes, each_fails, signed_report_fails) depth 20

manifest_fails : (d : Data) → Fails IsTextFault (manifest_in d)
unfolding manifest_in
manifest_fails d = search (readers, shapes, reports_fails) depth 20

pub body_fails : (body : List ℕ) → Fails IsTextFault (incoming_in body)
unfolding incoming_in
body_fails body = search (readers, value_fails {F = IsTextFault} tt tt, opened_text_fails, manifest_fails) depth 20
