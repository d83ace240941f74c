use Rattle.std.proofs.Common.{refl}
use Rattle.up_machine.specs.declared.answer.Answer.TheVariants.{File}
use Rattle.up_desk.proofs.Carrying.{refused_on, unchanged_on}
use Rattle.up_desk.proofs.files.fetch.Goals as goal

pub returns-in-Ok : goal.returns-in-Ok
returns-in-Ok g c k kept inside = unchanged_on g.D.Store k kept (File c.in-Ok.text) (c.in-Ok.ensures k inside) refl (λ s commit. commit) (λ s gives. gives)

pub returns-in-Err : goal.returns-in-Err
returns-in-Err g c k kept inside = refused_on g.D.Store k kept (c.in-Err.ensures k inside)
