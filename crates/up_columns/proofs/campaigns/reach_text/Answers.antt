use Rattle.std.proofs.Common.{ap, ◌∙◌}
use Rattle.up_canon.specs.Canon.{has_canon}
use Rattle.up_columns.proofs.CampaignsRead.{reach-canon}
use Rattle.up_columns.proofs.campaigns.reach_text.Goals as goal

pub canonical_text-requires : goal.canonical_text-requires
canonical_text-requires c = ap has_canon c.in_ok-value.ensures.value ∙ reach-canon c.args.reach.now c.in_ok-value.ensures.typed
