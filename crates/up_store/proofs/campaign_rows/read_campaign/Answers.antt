use Rattle.std.proofs.Common.{Err, ◌∙◌}
use Rattle.up_store.proofs.MemoryAlone.{memory_on, of_column}
use Rattle.up_store.proofs.campaign_rows.read_campaign.Goals as goal

pub returns-in_err-reach-clause-fault : goal.returns-in_err-reach-clause-fault
returns-in_err-reach-clause-fault c = λ name campaign typed is.
    memory_on c.from_residual.result c.in_err-reach.field-0.0 c.from_residual.ensures.1
    (of_column c.read_reach.result (Err c.in_err-reach.field-0.0) campaign.reach (c.read_reach.ensures.again campaign.reach typed.reach (c.as_str.ensures ∙ is.reach)) c.in_err-reach.ensures.went c.in_err-reach.ensures.fault)
