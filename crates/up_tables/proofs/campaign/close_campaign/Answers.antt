use Rattle.up_tables.proofs.CampaignSteps.{closes_in, close_writes}
use Rattle.up_tables.proofs.StoredLemmas.{written}
use Rattle.up_tables.proofs.campaign.close_campaign.Goals as goal

pub returns : goal.returns
returns g c =
    written g.S.Store _ _ _ _ _ _ c.write.result (close_writes c.args.name.now) (λ h. h) (λ w survives inside runs. closes_in w _ _ c.args.name.now survives inside runs) (rw c.words.ensures at c.write.ensures)
