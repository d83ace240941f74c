use Rattle.up_lines.proofs.Together.{some_cut, some_untold}
use Rattle.up_lines.specs.Together.{bytes_of}
use Rattle.up_lines.proofs.answered.answer_some.Goals as goal

pub returns-in-Ok : goal.returns-in-Ok
returns-in-Ok g c =
    some_cut g.I.Interpret.gives (bytes_of c.args.lines.now) c.in-Ok.n _ _ _ _ c.new-text.result.items c.interpret.new.answers.items c.as_slice.result.now _ _ c.new-text.ensures.items c.as_slice.ensures.value
    c.in-Ok.ensures.ok c.in-Err-write_whole.ensures.err c.in-Err-write_whole.ensures.failed

pub returns : goal.returns
returns g c = some_untold g.I.Interpret.gives (bytes_of c.args.lines.now) _ _ _ _ _ c.in-Err.ensures.err c.requires.can_write
