use Rattle.std.proofs.Common.{sym}
use Rattle.serde_json.specs.View.{view}
use Rattle.up_manifest.proofs.NoReport.{no_report}
use Rattle.up_manifest.proofs.manifest_read.report_of_value.Goals as goal

pub returns-in-None : goal.returns-in-None
returns-in-None c = rw (c.into.ensures) (no_report (view c.args.value.now) (sym c.in-None.ensures))
