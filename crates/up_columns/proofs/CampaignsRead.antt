-- The reach and the items of a campaign have canonical texts, and are read again.
use Rattle.std.proofs.Common.{◌≡◌, ℕ, List, true, Ok, map, refl, ◌∙◌, arith}
use Rattle.std.specs.Prelude.{codes}
use Rattle.std.specs.List.{list_all}
use Rattle.std.proofs.lemmas.Bool.{and_parts}
use Rattle.serde_json.specs.Data.{string}
use Rattle.serde_json.specs.View.{items_of}
use Rattle.up_canon.specs.Canon.{CanonIsRead, has_canon}
use Rattle.up_canon.specs.Members.{items_list, object_of, list_of}
use Rattle.up_canon.specs.Names.{is_ident}
use Rattle.up_canon.specs.Readers.{ident_of}
use Rattle.up_canon.proofs.Members.{ident_there, file_name_there}
use Rattle.up_canon.proofs.PlainValues.{IsPlain}
use Rattle.up_canon.proofs.Steps.{bind-ok}
use Rattle.up_plan.specs.declared.campaign.Item.{Item}
use Rattle.up_plan.specs.declared.campaign.Reach.{Reach}
use Rattle.up_plan.specs.declared.campaign.Reach.TheVariants.{All, Named}
use Rattle.up_columns.specs.CampaignColumns.{reach_data, reach_column, named_of, reach_of, reach_in, item_data, item_of, items_data, items_column, campaign_items_in}
use Rattle.up_columns.specs.Typed.{is_typed_item, is_typed_reach}
use Rattle.up_columns.proofs.NamesRead.{ident-plain, file_name-plain, ident-there, names-canon}
use Rattle.up_columns.proofs.Pairs.{two-plain, two-there}
use Rattle.up_columns.proofs.Texts.{text-there, list-canon, list-there, items-there}

-- ---- items

item-plain : (item : Item) → is_typed_item item ≡ true → IsPlain 1 (item_data item)
item-plain item h =
    let p = and_parts (is_ident item.hardware) _ h in
    two-plain (codes "file") (codes "hardware") _ _ refl refl (file_name-plain item.file p.1) (ident-plain item.hardware p.0)

item-there : (name : List ℕ) (item : Item) → is_typed_item item ≡ true → item_of name (item_data item) ≡ Ok item
unfolding item_of object_of
item-there name item h =
    two-there (is_ident item.hardware) _ name (item_data item) _ _ _ _ _ refl h (λ p. ident_there (codes "hardware") (item_data item) item.hardware refl p) (λ p. file_name_there (codes "file") (item_data item) item.file refl p)

pub items-canon : (items : List Item) → list_all is_typed_item items ≡ true → has_canon (items_data items) ≡ true
items-canon items h = list-canon 1 is_typed_item item_data (omega arith) item-plain items h

pub campaign_items-there : CanonIsRead → (items : List Item) → list_all is_typed_item items ≡ true → campaign_items_in (items_column items) ≡ Ok items
unfolding items_column
campaign_items-there law items h = items-there item_of (codes "items") is_typed_item item_data (item-there (codes "items")) law items (items-canon items h) h

-- ---- reach

pub reach-canon : (reach : Reach) → is_typed_reach reach ≡ true → has_canon (reach_data reach) ≡ true
reach-canon All h = refl
reach-canon (Named vehicles) h = names-canon vehicles h

reach_of-there : (name : List ℕ) (reach : Reach) → is_typed_reach reach ≡ true → reach_of name (reach_data reach) ≡ Ok reach
unfolding reach_of named_of list_of
reach_of-there name All h = refl
reach_of-there name (Named vehicles) h =
    bind-ok _ _ (items_list (items_of (map string vehicles))) refl
    ∙ bind-ok _ _ vehicles (list-there ident_of name is_ident string (ident-there name) vehicles h)

pub reach-there : CanonIsRead → (reach : Reach) → is_typed_reach reach ≡ true → reach_in (reach_column reach) ≡ Ok reach
unfolding reach_in reach_column
reach-there law reach h =
    bind-ok _ _ (reach_data reach) (text-there law (reach_data reach) (reach-canon reach h))
    ∙ reach_of-there (codes "vehicles") reach h
