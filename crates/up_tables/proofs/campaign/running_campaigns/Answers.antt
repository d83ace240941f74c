use Rattle.std.proofs.Common.{pos, filter}
use Rattle.up_tables.specs.Rows.{has_number}
use Rattle.up_tables.specs.Stored.{IsLine, Tells}
use Rattle.up_tables.proofs.CampaignLemmas.{running_listed}
use Rattle.up_tables.proofs.StoredLemmas.{listed_values}
use Rattle.up_tables.proofs.campaign.running_campaigns.Goals as goal

pub returns : goal.returns
returns g c =
    let R = g.R.RowReading in
    listed_values g.S.Store _ _ (filter (has_number 3 (pos 1))) _ _ 4 _ _ (Tells R.says R.fits R.line) (IsLine R.fits R.line) (λ found. found.items) _ _ c.list_values.result running_listed c.list_values.ensures
