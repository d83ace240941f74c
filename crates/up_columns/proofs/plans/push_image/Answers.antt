use Rattle.std.specs.Prelude.{codes}
use Rattle.up_canon.proofs.Joined.{pushed}
use Rattle.up_canon.proofs.Printable.{both}
use Rattle.up_canon.specs.Canon.{json_string}
use Rattle.up_columns.proofs.plans.push_image.Goals as goal

pub returns-clause-value : goal.returns-clause-value
returns-clause-value c =
    pushed _ _ _ (codes "{\"ecu\":") _ c.in_ok-push_str.ensures.bytes (
    pushed _ _ _ (json_string c.args.ecu.now) _ c.in_ok-push_ident.ensures (
    pushed _ _ _ (codes ",\"file\":") _ c.in_ok-push_str-2.ensures.bytes (
    pushed _ _ _ (json_string c.args.file.now) (codes "}") c.in_ok-push_file_name.ensures c.in_ok-push_str-3.ensures.bytes
    )
    )
    )

pub returns-clause-typed : goal.returns-clause-typed
returns-clause-typed c = both _ _ c.text.ensures.fits c.text-2.ensures.fits
