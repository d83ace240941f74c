use Rattle.up_roles.specs.Root.{root_payload, root_more}
use Rattle.up_roles.proofs.root_text.root_value.Goals as goal
use Rattle.std.proofs.lemmas.Result.{IfOk-weaker}

pub returns-clause-value : goal.returns-clause-value
unfolding root_payload
returns-clause-value c = IfOk-weaker c.payload_value.result _ _ (λ v h. h (root_more c.args.file.now) (c.in_ok-more.ensures)) c.payload_value.ensures.value
