use Rattle.up_store.proofs.MemoryAlone.{memory_on}
use Rattle.up_store.proofs.campaign_rows.add_running.Goals as goal

pub returns-in_err-campaign-clause-fault : goal.returns-in_err-campaign-clause-fault
returns-in_err-campaign-clause-fault c = λ name campaign typed is. memory_on c.from_residual.result c.in_err-campaign.field-0.0 c.from_residual.ensures.1 (c.in_err-campaign.ensures.fault name campaign typed is)
