use Rattle.up_tables.proofs.CampaignLemmas.{campaign_put}
use Rattle.up_tables.proofs.StoredLemmas.{inserted}
use Rattle.up_tables.proofs.campaign.insert_campaign.Goals as goal

pub returns : goal.returns
returns g c = inserted g.S.Store _ _ 1 _ _ 4 4 _ _ c.write.result (campaign_put c.args.campaign.now) (rw (c.words.ensures, c.words-2.ensures, c.words-3.ensures, c.flag.ensures) at c.write.ensures)
