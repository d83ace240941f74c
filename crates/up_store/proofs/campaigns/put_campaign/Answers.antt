use Rattle.std.proofs.Common.{◌≡◌, ◌∷◌, [], ap}
use Rattle.up_store.proofs.Common.{⊤, state, Row, insert_campaign_text}
use Rattle.up_store.proofs.ColumnPuts.{puts_campaign}
use Rattle.up_store.proofs.WithinLemmas.{makes_none, makes_puts, puts_one}
use Rattle.up_store.proofs.Written.{open_before}
use Rattle.up_store.specs.Writes.{campaign_writes}
use Rattle.up_tables.specs.declared.values.StoreFault.TheVariants.{Memory, Store}
use Rattle.up_store.proofs.campaigns.put_campaign.Goals as goal

pub returns : goal.returns
returns g c inside =
    let G = g.D.Store in
    let r = c.insert_campaign.result in
    makes_puts G _ _ _ _ r _ (λ _. ⊤) (λ any. tt)
    (puts_one G _ _ _ _ r _ _ _ _ (ap (λ (row : Row). (insert_campaign_text, row) ∷ []) c.row_of.ensures.is)
    (λ altered step clean. puts_campaign r c.args.new.now c.row_of.result (state G c.args.tx.now.conn.now) (state G c.insert_campaign.new.tx.conn.now) c.row_of.ensures.is c.row_of.ensures.typed (altered clean) (open_before r step.steps clean step.is_open))
    (c.insert_campaign.ensures inside))

pub returns-in_err-reach : goal.returns-in_err-reach
returns-in_err-reach g c inside = makes_none g.D.Store _ (campaign_writes c.args.new.now) (λ _. ⊤) _ c.from_residual.result Memory c.from_residual.ensures.1 (λ e clean. tt) (λ store. absurd (let no : Memory ≡ Store = store in cc))

pub returns-in_err-items : goal.returns-in_err-items
returns-in_err-items g c inside = makes_none g.D.Store _ (campaign_writes c.args.new.now) (λ _. ⊤) _ c.from_residual-in_err-items.result Memory c.from_residual-in_err-items.ensures.1 (λ e clean. tt) (λ store. absurd (let no : Memory ≡ Store = store in cc))
