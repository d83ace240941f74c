use Rattle.std.proofs.Common.{ap, ◌∙◌}
use Rattle.up_canon.specs.Canon.{has_canon}
use Rattle.up_columns.proofs.NamesRead.{names-canon}
use Rattle.up_columns.proofs.names.names_text.Goals as goal

pub canonical_text-requires : goal.canonical_text-requires
canonical_text-requires c = ap has_canon c.in_ok-value.ensures.value ∙ names-canon c.args.names.now c.in_ok-value.ensures.typed
