use Rattle.std.proofs.Common.{refl}
use Rattle.std.proofs.lemmas.Option.{IfSome_then}
use Rattle.up_service.proofs.Grouped.{count_more, pushed_ok, read_more, reads_some, running_more}
use Rattle.up_service.proofs.line_answer.read_some.Goals as goal

pub loop-line-preserved : goal.loop-line-preserved
loop-line-preserved g c =
    let kept = c.loop-line.invariant in
    let pushed = pushed_ok c.push.result c.is_err.result c.loop-line.commands.items c.push.new.self.items c.in-Some.command c.is_err.ensures.value c.if-is_err.false c.push.ensures.items in
    record {
      read = read_more (g.A.Asks.asks c.args.desk.now) c.args.lines.now c.loop-line.line-index _ _ _ _ _ c.loop-line-test.true refl kept.read c.in-Some.ensures.0 pushed;
      count = count_more _ _ _ _ kept.count pushed;
      running = running_more _ _ _ kept.running c.in-Some.ensures.1 pushed;
    }

pub returns : goal.returns
returns g c =
    let kept = c.loop-line.invariant in
    IfSome_then c.several-2.result c.several-2.ensures
    (λ same h. reads_some (g.A.Asks.asks c.args.desk.now) c.args.lines.now c.loop-line.line-index c.loop-line.commands.items same.items kept.read kept.count kept.running h)

pub returns-in-None : goal.returns-in-None
returns-in-None g c =
    let kept = c.loop-line.invariant in
    IfSome_then c.several.result c.several.ensures
    (λ same h. reads_some (g.A.Asks.asks c.args.desk.now) c.args.lines.now c.loop-line.line-index c.loop-line.commands.items same.items kept.read kept.count kept.running h)
