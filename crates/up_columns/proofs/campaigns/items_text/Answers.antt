use Rattle.std.proofs.Common.{ap, ◌∙◌}
use Rattle.up_canon.specs.Canon.{has_canon}
use Rattle.up_columns.proofs.CampaignsRead.{items-canon}
use Rattle.up_columns.proofs.campaigns.items_text.Goals as goal

pub canonical_text-requires : goal.canonical_text-requires
canonical_text-requires c = ap has_canon c.in_ok-value.ensures.value ∙ items-canon c.args.items.now c.in_ok-value.ensures.typed
