use Rattle.std.proofs.Common.{List, ap, ◌∙◌}
use Rattle.std.specs.Prelude.{map}
use Rattle.std.specs.FinMap as table
use Rattle.up_machine.specs.Decisions.{named_in}
use Rattle.up_plan.specs.Campaigns.{CampaignData}
use Rattle.up_plan.specs.declared.campaign.Item.{Item}
use Rattle.up_records.proofs.Sessions.{all_on, lost_on, none_on, rows_on, then_on}
use Rattle.up_desk.specs.Gathered.{gathered, item_files}
use Rattle.up_desk.proofs.campaigns.read_opening.Goals as goal

pub returns : goal.returns
returns g c inside =
    let G = g.D.Store in
    let founded = then_on G (none_on G inside) (rows_on G _ (λ k s x is. is) c.in_ok-founded.ensures) in
    let old = then_on G founded (rows_on G _ (λ k s x is. is) c.in_ok-old.ensures) in
    all_on G (then_on G (then_on G old c.in_ok-known.ensures) c.in_ok-images.ensures) _ _ (λ k of s found. record {
      founded = found.0.0.0.1;
      old = found.0.0.1 ∙ ap (λ (d : CampaignData). table.get s.campaigns d.name) c.campaign.view_is;
      known = found.0.1 ∙ ap (λ (d : CampaignData). map (table.contains_key s.vehicles) (named_in d.reach)) c.campaign.view_is;
      images = found.1 ∙ ap (λ (is : List Item). gathered s.images (item_files is) table.empty) (c.as_slice.ensures ∙ ap (λ (d : CampaignData). d.items) c.campaign.view_is);
    })

pub returns-in_err-founded : goal.returns-in_err-founded
returns-in_err-founded g c inside = let G = g.D.Store in lost_on G (none_on G inside) _ c.from_residual.result c.from_residual.ensures.1 (rows_on G _ (λ k s x is. is) c.in_err-founded.ensures)

pub returns-in_err-old : goal.returns-in_err-old
returns-in_err-old g c inside =
    let G = g.D.Store in
    let founded = then_on G (none_on G inside) (rows_on G _ (λ k s x is. is) c.in_ok-founded.ensures) in
    lost_on G founded _ c.from_residual-in_err-old.result c.from_residual-in_err-old.ensures.1 (rows_on G _ (λ k s x is. is) c.in_err-old.ensures)

pub returns-in_err-known : goal.returns-in_err-known
returns-in_err-known g c inside =
    let G = g.D.Store in
    let founded = then_on G (none_on G inside) (rows_on G _ (λ k s x is. is) c.in_ok-founded.ensures) in
    let old = then_on G founded (rows_on G _ (λ k s x is. is) c.in_ok-old.ensures) in
    lost_on G old _ c.from_residual-in_err-known.result c.from_residual-in_err-known.ensures.1 c.in_err-known.ensures

pub returns-in_err-images : goal.returns-in_err-images
returns-in_err-images g c inside =
    let G = g.D.Store in
    let founded = then_on G (none_on G inside) (rows_on G _ (λ k s x is. is) c.in_ok-founded.ensures) in
    let old = then_on G founded (rows_on G _ (λ k s x is. is) c.in_ok-old.ensures) in
    lost_on G (then_on G old c.in_ok-known.ensures) _ c.from_residual-in_err-images.result c.from_residual-in_err-images.ensures.1 c.in_err-images.ensures
