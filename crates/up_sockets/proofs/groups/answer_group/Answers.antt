use Rattle.std.proofs.Common.{◌≡◌, ◌++◌, ◌∙◌, ap, sym}
use Rattle.up_sockets.proofs.Told.{told_same}
use Rattle.up_sockets.proofs.groups.answer_group.Goals as goal

pub returns-in-Ok : goal.returns-in-Ok
returns-in-Ok g c =
    let ran = c.in-Ok.ensures.ok in
    let answers : c.as_slice-in-Ok.result.now ≡ ran.0 = c.as_slice-in-Ok.ensures.value ∙ ran.1 ∙ ap (λ l. l ++ ran.0) c.new-answers.ensures.items in
    (c.as_slice.result.now, ran.0, ran.2, told_same (g.V.Service.tells c.args.service.now) _ _ _ _ _ _ (sym c.as_slice.ensures.value) answers c.tell.ensures)
