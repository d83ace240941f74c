use Rattle.up_machine.specs.Due.{HasRoot}
use Rattle.up_machine.specs.Repositories.{decide_found}
use Rattle.up_machine.specs.TwoSteps.{founded}
use Rattle.up_machine.proofs.RootDecisions.{passed_on, found_gives, outright}
use Rattle.up_machine.proofs.decide_root.decide_found.Goals as goal

pub returns-in_err-hashed-clause-decided : goal.returns-in_err-hashed-clause-decided
returns-in_err-hashed-clause-decided g c = λ s sound is.
    passed_on _ _ c.from_residual.result _ c.in_err-hashed.field-0.0 c.from_residual.ensures.1
    (found_gives (g.K.Scheme.rules c.args.scheme.now) s c.args.at c.args.keys.now c.in_err-hashed.field-0.0 c.requires c.in_err-hashed.ensures.checked)

pub returns-clause-decided : goal.returns-clause-decided
returns-clause-decided g c = λ s sound is.
    let k = g.K.Scheme.rules c.args.scheme.now in
    let at = c.args.at in
    let keys = c.args.keys.now in
    outright (HasRoot k (founded k s at keys) at keys) (founded k s at keys) c.first_root.result (decide_found k s at keys)
    (c.first_root.ensures.decided k at keys c.requires c.in_ok-hashed.ensures.checked s sound is)

pub returns-clause-fits : goal.returns-clause-fits
returns-clause-fits g c =
    c.first_root.ensures.fits (g.K.Scheme.rules c.args.scheme.now) c.args.at c.args.keys.now c.requires c.in_ok-hashed.ensures.checked c.in_ok-hashed.ensures.hashed
