use Rattle.std.proofs.Common.{◌∙◌}
use Rattle.up_field.specs.Points.{number}
use Rattle.up_field.proofs.Steps.{quotient_is}
use Rattle.up_field.proofs.encode.quotient.Goals as goal

pub returns-clause-value : goal.returns-clause-value
returns-clause-value c = λ a z h hx hz.
    c.canonical.ensures ∙ c.mul.ensures ∙ quotient_is (number c.args.x) (number c.args.inverse) a z h hx hz
