use Rattle.std.proofs.Common.{ap, refl}
use Rattle.up_store.proofs.Common.{state}
use Rattle.up_store.proofs.Closed.{puts_closed}
use Rattle.up_store.proofs.WithinLemmas.{puts_one}
use Rattle.up_store.proofs.Written.{open_before}
use Rattle.up_store.proofs.campaigns.put_closed.Goals as goal

pub returns : goal.returns
returns g c inside =
    let G = g.D.Store in
    let r = c.close_campaign.result in
    puts_one G _ _ _ _ r _ _ _ _ refl
    (λ closes step clean. puts_closed r c.args.closed.now (state G c.args.tx.now.conn.now) (state G c.close_campaign.new.tx.conn.now) (closes clean) (open_before r step.steps clean step.is_open))
    (rw (c.text.ensures.value, ap (λ r. r.name) c.closed.view_is) at (c.close_campaign.ensures inside))
