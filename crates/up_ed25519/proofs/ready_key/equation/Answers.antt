use Rattle.std.proofs.Common.{◌∙◌}
use Rattle.up_curve.specs.LittleEndian.{number}
use Rattle.up_ed25519.proofs.Equation.{one_side}
use Rattle.up_ed25519.proofs.ready_key.equation.Goals as goal

pub returns : goal.returns
returns c = λ m n h t k.
    c.are_opposite.ensures n _ k (c.joint_by-t.ensures m h t)
    ∙ one_side (number c.args.s.now) (number c.args.k.now) (number c.negated-n.result) m n h k.point c.negated-n.ensures
