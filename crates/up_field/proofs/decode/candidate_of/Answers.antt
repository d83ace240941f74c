use Rattle.std.proofs.Common.{◌∙◌}
use Rattle.up_field.specs.Points.{number}
use Rattle.up_field.proofs.Steps.{candidate_is}
use Rattle.up_field.proofs.decode.candidate_of.Goals as goal

pub returns-clause-value : goal.returns-clause-value
returns-clause-value c = λ a b hu hv.
    c.canonical.ensures
    ∙ candidate_is (number c.args.u) (number c.args.v) (number c.square-v2.result) (number c.mul-v3.result) (number c.square-v6.result) (number c.mul-v7.result)
    (number c.mul-w.result) (number c.root_power-s.result) (number c.mul-t.result) (number c.mul-r.result) a b hu hv
    c.square-v2.ensures c.mul-v3.ensures c.square-v6.ensures c.mul-v7.ensures c.mul-w.ensures
    c.root_power-s.ensures c.mul-t.ensures c.mul-r.ensures
