use Rattle.up_roles.proofs.Repeats.{added_is}
use Rattle.up_roles.proofs.targets.adds_ecu.Goals as goal

pub returns-in_ok-insert-in-Some : goal.returns-in_ok-insert-in-Some
returns-in_ok-insert-in-Some c = λ names seen.
    added_is c.args.seen.now c.insert.new.self names c.args.ecu.now c.in-Some.ecu c.text.result.now c.in_ok-insert-in-Some.field-0 c.in-Some.is c.text.ensures.value seen
    c.in_ok-insert-in-Some.ensures.added c.in_ok-insert-in-Some.ensures.updates.0
