use Rattle.std.proofs.Common.{◌≡◌, ℕ, List, Some, None, map, refl, rules}
use Rattle.up_store.proofs.Common.{⊤, option_to_list, state, Row, HasCleanDisk, campaign_places, columns_at, HasTables, Lists, campaign_table, ok_then, campaign_shown_line}
use Rattle.up_store.proofs.Blamed.{memory_blames}
use Rattle.up_store.proofs.ColumnFound.{campaigns, found_in, none_found, some_found}
use Rattle.up_store.proofs.KindsOfCampaigns.{campaign_lines_said, holds_campaign}
use Rattle.up_store.proofs.WithinLemmas.{finds_fault}
use Rattle.up_store.proofs.Written.{surely}
use Rattle.up_store.proofs.campaigns.find_campaign.Goals as goal

pub returns-in-Ok-Some : goal.returns-in-Ok-Some
returns-in-Ok-Some g c inside =
    let before = state g.D.Store c.args.tx.now.conn.now in
    let after = state g.D.Store c.campaign.new.tx.conn.now in
    let told = rw c.in-Ok-Some.field-0-is at (rw c.text.ensures.value at (c.in-Ok-Some.ensures inside).found) in
    let lines : HasCleanDisk after → (rows_of : List ℕ → List Row) → HasTables before → Lists 1 rows_of (before.now.trees campaign_table.tree)
    → map (columns_at campaign_places) (rows_of c.args.name.now) ≡ map campaign_shown_line (option_to_list (Some c.in-Ok-Some.shown)) = λ clean rows_of has lists. campaign_lines_said _ _ (told clean rows_of has lists).said in
    let r = c.some_campaign.result in
    record {
      found = λ clean. some_found campaigns r c.args.name.now before after (Some c.in-Ok-Some.shown) c.in-Ok-Some.shown refl c.some_campaign.ensures.same ((c.in-Ok-Some.ensures inside).reads clean) (lines clean);
      shown = λ clean. ok_then _ _ r (λ read is rows_of has lists. (Some c.in-Ok-Some.shown, (told clean rows_of has lists).said, is)) c.some_campaign.ensures.told;
      reads = λ clean. surely r ((c.in-Ok-Some.ensures inside).reads clean);
      «open» = search rules;
      blame = memory_blames (λ _. ⊤) before after r
          (λ clean rows within fits.
          let f = found_in campaigns rows c.args.name.now before after (Some c.in-Ok-Some.shown) c.in-Ok-Some.shown refl ((c.in-Ok-Some.ensures inside).reads clean) (lines clean) within in
          c.some_campaign.ensures.fault c.args.name.now f.value f.typed f.same);
      step = record { same_reference = (c.campaign.ensures inside).step.same_reference; steps = (c.campaign.ensures inside).step.steps };
    }

pub returns-in-Ok-None : goal.returns-in-Ok-None
returns-in-Ok-None g c inside =
    let before = state g.D.Store c.args.tx.now.conn.now in
    let after = state g.D.Store c.campaign.new.tx.conn.now in
    let told = rw c.in-Ok-None.field-0-is at (rw c.text.ensures.value at (c.in-Ok-None.ensures inside).found) in
    record {
      found = λ clean rows within. none_found campaigns rows c.args.name.now before after None refl ((c.in-Ok-None.ensures inside).reads clean) (λ rows_of has lists. campaign_lines_said _ _ (told clean rows_of has lists).said) within;
      shown = λ clean rows_of has lists. (None, (told clean rows_of has lists).said, refl);
      reads = λ clean. (c.in-Ok-None.ensures inside).reads clean;
      «open» = search rules;
      blame = λ clean. tt;
      step = record { same_reference = (c.campaign.ensures inside).step.same_reference; steps = (c.campaign.ensures inside).step.steps };
    }

pub returns-in-Err : goal.returns-in-Err
returns-in-Err g c inside =
    finds_fault g.D.Store _ _ (λ _. ⊤) _ _ c.campaign.result c.in-Err.fault _ (λ clean. tt) (λ rows lists fits. holds_campaign c.args.name.now (state g.D.Store c.args.tx.now.conn.now) rows lists) (rw c.text.ensures.value at (c.in-Err.ensures inside).blame) (c.campaign.ensures inside).step
