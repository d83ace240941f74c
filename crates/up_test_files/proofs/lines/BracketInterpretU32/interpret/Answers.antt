use Rattle.up_test_files.proofs.Bracketed.{answered_one, untold_one}
use Rattle.up_test_files.proofs.lines.BracketInterpretU32.interpret.Goals as goal

pub returns-in_err-push_bracketed-clause-err : goal.returns-in_err-push_bracketed-clause-err
returns-in_err-push_bracketed-clause-err c = untold_one c.from_residual.result c.args.lines.now c.args.state.now c.args.state.now c.requires

pub returns-clause-ok : goal.returns-clause-ok
returns-clause-ok c =
    answered_one c.args.lines.now c.in_ok-push_bracketed.ensures.0 c.args.answers.now.items c.push_bracketed.new.answers.items c.args.state.now c.saturating_add.result
    c.requires c.in_ok-push_bracketed.ensures.1
