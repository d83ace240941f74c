-- Rows of campaigns have the columns that the statements show.
use Rattle.std.proofs.Common.{◌≡◌, ℕ, pos, List, [], ◌∷◌, Option, Some, None, map, refl, ap, ◌∙◌, true}
use Rattle.std.specs.FinMap as table
use Rattle.up_columns.specs.CampaignColumns.{reach_column, items_column}
use Rattle.up_columns.proofs.CampaignsRead.{items-canon, reach-canon}
use Rattle.up_store.proofs.Common.{is_eq, Row, value_cmp, AllByRecursion, list_all, Connected, Text, Name, reach_data, items_data, is_typed_item, is_typed_reach, CampaignData, Item, Reach, StateRows, campaign_places, running_shown, IsWords, bare, columns_at, has_number, Lists, HoldsBy, AreLines, EachSays, IsLine, Tells, campaign_table, text_is, each_said, lines_said, CampaignShown, campaign_lines, campaign_shown_line, ListsRows, RunOf, SaysCampaign, IsTypedCampaign, IsTypedCampaignRow}
use Rattle.up_store.proofs.Blamed.{all_filtered}
use Rattle.up_store.proofs.ByName.{said_by_name}
use Rattle.up_store.proofs.KindsOfTexts.{canonical, utf8}

reach_words : (reach : Reach) → is_typed_reach reach ≡ true → IsWords (Text (reach_column reach))
unfolding reach_column
reach_words reach h = canonical (reach_data reach) (reach-canon reach h)

items_words : (items : List Item) → list_all is_typed_item items ≡ true → IsWords (Text (items_column items))
unfolding items_column
items_words items h = canonical (items_data items) (items-canon items h)

-- as it is read
abbrev shown_of : CampaignData → CampaignShown
shown_of c = record { name = c.name; reach = reach_column c.reach; items = items_column c.items; running = c.running }

campaign_typed : (c : CampaignData) (name : Name) → IsTypedCampaign name c → IsTypedCampaignRow (shown_of c)
campaign_typed c name t = record { name = t.ident; reach = utf8 _ (reach_words c.reach t.reach); items = utf8 _ (items_words c.items t.items) }

pub holds_campaign : (name : Name) (s : Connected) (rows : StateRows) → ListsRows rows s.now.trees
    → HoldsBy campaign_table 1 (λ rows_of. AreLines IsTypedCampaignRow campaign_shown_line (map (columns_at campaign_places) (rows_of name))) s
holds_campaign name s rows lists = ((λ n. campaign_lines (table.get rows.campaigns n)), lists.tables.campaigns, by_campaign (table.get rows.campaigns name) (lists.typed.campaigns name))
  where
    by_campaign : (o : Option CampaignData) → ((campaign : CampaignData) → o ≡ Some campaign → IsTypedCampaign name campaign) → AreLines IsTypedCampaignRow campaign_shown_line (map (columns_at campaign_places) (campaign_lines o))
    by_campaign None typed = (None, tt, refl)
    by_campaign (Some c) typed = (Some (shown_of c), (campaign_typed c name (typed c refl), tt), refl)

abbrev line : Row → Type 0
line = IsLine IsTypedCampaignRow campaign_shown_line

shown_lines : (xs : List Row) → AllByRecursion line xs → AllByRecursion line (map (columns_at campaign_places) xs)
shown_lines [] all = tt
shown_lines (x ∷ xs) all = ((all.0.0, all.0.1, ap (columns_at campaign_places) all.0.2), shown_lines xs all.1)

pub holds_running : (s : Connected) (rows : StateRows) → ListsRows rows s.now.trees → HoldsBy campaign_table 1 (λ rows_of. (name : List ℕ) → AllByRecursion line (running_shown (rows_of name))) s
holds_running s rows lists = (
  (λ n. campaign_lines (table.get rows.campaigns n)),
  lists.tables.campaigns,
  (λ name. shown_lines _ (all_filtered line (has_number 3 (pos 1)) (campaign_lines (table.get rows.campaigns name)) (by_campaign name (table.get rows.campaigns name) (lists.typed.campaigns name)))),
)
  where
    by_campaign : (name : Name) (o : Option CampaignData) → ((campaign : CampaignData) → o ≡ Some campaign → IsTypedCampaign name campaign) → AllByRecursion line (campaign_lines o)
    by_campaign name None typed = tt
    by_campaign name (Some c) typed = ((shown_of c, campaign_typed c name (typed c refl), refl), tt)

-- what a row says is its line
campaign_said : (r : Row) (c : CampaignShown) → SaysCampaign (columns_at campaign_places r) c → columns_at campaign_places r ≡ campaign_shown_line c
campaign_said r c said = rw (said.name.0, said.reach.0, said.items.0, said.running) refl

pub campaign_lines_said : (rows : List Row) (found : List CampaignShown) → EachSays SaysCampaign (map (columns_at campaign_places) rows) found → map (columns_at campaign_places) rows ≡ map campaign_shown_line found
campaign_lines_said = lines_said SaysCampaign campaign_shown_line (columns_at campaign_places) campaign_said

-- the rows of a name say those that have it
pub running_by_name : (rows : List Row) (rows_of : List ℕ → List Row) (found : List CampaignShown) → Lists 1 rows_of rows → EachSays (Tells SaysCampaign IsTypedCampaignRow campaign_shown_line) (running_shown (bare rows)) found
    → RunOf rows_of found
running_by_name rows rows_of found lists told =
    said_by_name SaysCampaign (columns_at campaign_places) (λ c. c.name) (λ r n. refl) (λ n r c said. ap (λ v. is_eq (value_cmp v (Text n))) said.name.0 ∙ text_is c.name n) (has_number 3 (pos 1)) rows rows_of found lists
    (each_said (Tells SaysCampaign IsTypedCampaignRow campaign_shown_line) SaysCampaign (λ r c t. t.said) (running_shown (bare rows)) found told)
