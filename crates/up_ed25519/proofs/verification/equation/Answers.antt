use Rattle.std.proofs.Common.{◌∙◌}
use Rattle.up_curve.specs.LittleEndian.{number}
use Rattle.up_ed25519.proofs.Equation.{one_side}
use Rattle.up_ed25519.proofs.verification.equation.Goals as goal

pub returns : goal.returns
returns c = λ m n h k.
    c.are_opposite.ensures n _ k (c.joint-t.ensures m h)
    ∙ one_side (number c.args.s.now) (number c.args.k.now) (number c.negated-n.result) m n h.point k.point c.negated-n.ensures
