use Rattle.std.proofs.Common.{refl, sym}
use Rattle.up_records.proofs.Cataloged.{come_none, none_more}
use Rattle.up_records.proofs.SentBy.{come_sent}
use Rattle.up_records.proofs.senders.test_by_rows.Goals as goal

pub returns-in-Ok-clause-sent : goal.returns-in-Ok-clause-sent
returns-in-Ok-clause-sent g c = λ s there is. let it = c.in-Ok.ensures.from s (sym there) (sym is) in (it.received, it.receives)

pub returns-in-Ok-clause-more : goal.returns-in-Ok-clause-more
returns-in-Ok-clause-more g c = record { rest = refl; primaries = c.keep_sender.ensures.stay; few = c.keep_sender.ensures.few }

pub returns-in-Err-clause-sent : goal.returns-in-Err-clause-sent
returns-in-Err-clause-sent g c = λ s there is. c.in-Err.ensures.from s (sym there) (sym is)

pub returns-in-Err-clause-more : goal.returns-in-Err-clause-more
returns-in-Err-clause-more g c = none_more c.args.catalog.now

pub returns-in-Ok-clause-came : goal.returns-in-Ok-clause-came
returns-in-Ok-clause-came g c = λ s there is are.
    let it = c.in-Ok.ensures.from s (sym there) (sym is) in
    come_sent (g.K.Scheme.rules c.args.scheme.now) s c.args.incoming.now c.args.catalog.now.founding it.received c.args.catalog.now.primaries c.keep_sender.new.kept there it.receives
    (c.keep_sender.ensures.of s is are) c.keep_sender.ensures.came

pub returns-in-Err-clause-came : goal.returns-in-Err-clause-came
returns-in-Err-clause-came g c = λ s there is are. come_none _ c.args.catalog.now.primaries
