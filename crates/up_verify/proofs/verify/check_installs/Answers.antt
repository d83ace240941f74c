use Rattle.std.proofs.Common.{rules, ◌≡◌, Ok, sym, ap, ◌∙◌}
use Rattle.up_verify.specs.Verifiers.{verifier}
use Rattle.up_verify.specs.Verify.{check_images as check_images_of}
use Rattle.up_verify.specs.declared.served.Accepted.{Accepted}
use Rattle.up_verify.proofs.Verifying.{installs_checked}
use Rattle.up_verify.proofs.verify.check_installs.Goals as goal

pub returns-in-Ok-accepted : goal.returns-in-Ok-accepted
returns-in-Ok-accepted g c =
    let v = verifier (g.K.Scheme.rules c.args.scheme.now) (g.K.Shows.reading c.args.scheme.now) c.args.held.now in
    let images : check_images_of v c.args.now c.args.primary.now c.args.served.now c.args.targets.targets ≡ Ok c.in-Ok.image = search rules in
    let all = installs_checked v c.args.now c.args.primary.now c.args.served.now c.args.director c.in-Ok.image c.args.targets c.args.targets.targets images in
    all ∙ ap (λ (a : Accepted). Ok a) (sym c.in-Ok-accepted.ensures)
