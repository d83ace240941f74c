use Rattle.std.proofs.Common.{◌∙◌}
use Rattle.up_store.proofs.KindsOfKept.{plan_words}
use Rattle.up_store.proofs.column_values.plan_at.Goals as goal

pub returns-in-Err-clause-fault : goal.returns-in-Err-clause-fault
returns-in-Err-clause-fault c = λ is other typed same. let w = plan_words other typed in c.in-Err.ensures.fault is w.0 w.2 (same ∙ w.1)
