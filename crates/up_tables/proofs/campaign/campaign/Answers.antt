use Rattle.up_tables.proofs.CampaignLemmas.{campaign_found}
use Rattle.up_tables.proofs.StoredLemmas.{found_value}
use Rattle.up_tables.proofs.campaign.campaign.Goals as goal

pub returns : goal.returns
returns g c =
    found_value g.S.Store _ _ _ 1 (λ rows_of. rows_of c.args.name.now) _ _ 4 _ _ g.R.RowReading.says g.R.RowReading.fits g.R.RowReading.line _ _ c.find_value.result (campaign_found c.args.name.now)
    (rw c.words.ensures at c.find_value.ensures)
