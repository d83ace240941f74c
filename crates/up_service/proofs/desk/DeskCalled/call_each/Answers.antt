use Rattle.up_service.proofs.Grouped.{each_called}
use Rattle.up_service.proofs.desk.DeskCalled.call_each.Goals as goal

pub returns-clause-ok : goal.returns-clause-ok
returns-clause-ok g c =
    let called = each_called _ _ _ _ _ _ c.new-answers.ensures.items c.in_ok-run.ensures.ran in
    ((c.run.ensures.scheme, called.0), called.1)
