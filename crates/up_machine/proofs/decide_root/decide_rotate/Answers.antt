use Rattle.up_machine.specs.Due.{HasRoot}
use Rattle.up_machine.specs.Repositories.{decide_rotate}
use Rattle.up_machine.specs.TwoSteps.{rotated}
use Rattle.up_machine.proofs.RootDecisions.{rotate_gives, outright}
use Rattle.up_machine.proofs.decide_root.decide_rotate.Goals as goal

pub returns-in-Err-clause-decided : goal.returns-in-Err-clause-decided
returns-in-Err-clause-decided g c = λ s sound row.
    rotate_gives (g.K.Scheme.rules c.args.scheme.now) s c.args.at c.args.keys.now c.in-Err.refusal c.requires c.in-Err.ensures.checked

pub returns-in-Ok-clause-decided : goal.returns-in-Ok-clause-decided
returns-in-Ok-clause-decided g c = λ s sound row.
    let k = g.K.Scheme.rules c.args.scheme.now in
    let at = c.args.at in
    let keys = c.args.keys.now in
    outright (HasRoot k (rotated k s at keys) at keys) (rotated k s at keys) c.next_root.result (decide_rotate k s at keys)
    (c.next_root.ensures.decided k at keys c.requires c.in-Ok.ensures.checked s sound row)

pub returns-in-Ok-clause-fits : goal.returns-in-Ok-clause-fits
returns-in-Ok-clause-fits g c =
    c.next_root.ensures.fits (g.K.Scheme.rules c.args.scheme.now) c.args.at c.args.keys.now c.requires c.in-Ok.ensures.checked c.in-Ok.ensures.hashed
