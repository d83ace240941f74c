use Rattle.up_machine.proofs.acceptance.accepted_rows.Goals as goal

pub kept_row-requires-clause-once : goal.kept_row-requires-clause-once
kept_row-requires-clause-once g c = c.in_ok-plan.ensures.once
