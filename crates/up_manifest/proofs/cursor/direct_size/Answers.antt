use Rattle.std.proofs.Common.{◌∙◌, take, unwrap_or, ap}
use Rattle.std.specs.List.{list_all}
use Rattle.up_manifest.specs.Plain.{is_direct}
use Rattle.up_manifest.proofs.PlainTexts.{front-of}
use Rattle.up_manifest.proofs.cursor.direct_size.Goals as goal

pub returns : goal.returns
returns c =
    let bytes = c.args.bytes.now in
    ap (λ n. list_all is_direct (take n bytes)) (c.unwrap_or.ensures ∙ ap (λ o. unwrap_or o 0) c.first_other.ensures) ∙ front-of is_direct bytes
