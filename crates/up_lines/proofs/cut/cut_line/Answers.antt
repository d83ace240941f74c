use Rattle.std.proofs.Common.{◌==◌, ap, arith}
use Rattle.std.proofs.lemmas.Bool.{eqb-true}
use Rattle.up_lines.specs.Lines.{newline}
use Rattle.up_lines.proofs.Cuts.{cut_at, none_ends}
use Rattle.up_lines.proofs.cut.cut_line.Goals as goal

pub returns-in-Some : goal.returns-in-Some
returns-in-Some c =
    let (first, here) = c.in-Some.ensures in
    cut_at c.args.bytes.now c.in-Some.at _ _ first.high (eqb-true _ newline here) (λ k below is. first.before k (omega arith) below (ap (λ b. b == newline) is)) (omega arith) (omega arith)

pub returns-in-None : goal.returns-in-None
returns-in-None c = none_ends c.args.bytes.now (λ k below is. c.in-None.ensures k (omega arith) below (ap (λ b. b == newline) is))
