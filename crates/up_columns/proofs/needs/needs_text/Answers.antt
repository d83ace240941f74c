use Rattle.std.proofs.Common.{ap, ◌∙◌}
use Rattle.up_canon.specs.Canon.{has_canon}
use Rattle.up_columns.proofs.NeedsRead.{needs-canon}
use Rattle.up_columns.proofs.needs.needs_text.Goals as goal

pub canonical_text-requires : goal.canonical_text-requires
canonical_text-requires c = ap has_canon c.in_ok-value.ensures.value ∙ needs-canon c.args.needs.now c.in_ok-value.ensures.typed
