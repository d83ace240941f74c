-- A campaign's reach and items as canonical JSON.
use Rattle.std.specs.Prelude.{ℕ, List, [], ◌∷◌, Bool, false, bytes_eq, if◌then◌else◌, length, map, codes, option_map, unwrap_or, Result, Ok}
use Rattle.serde_json.specs.Data.{Data, string}
use Rattle.serde_json.specs.Find as json
use Rattle.up_canon.specs.Build.{object_with, list_with}
use Rattle.up_canon.specs.Canon.{text}
use Rattle.up_canon.specs.JsonText.{value_within}
use Rattle.up_canon.specs.Members.{object_of, list_of}
use Rattle.up_canon.specs.Readers.{ident_in, file_name_in, ident_of}
use Rattle.up_canon.specs.Steps.{◌>>=◌, each}
use Rattle.up_canon.specs.declared.refusal.Refusal.{Refusal}
use Rattle.up_columns.specs.Columns.{items_in}
use Rattle.up_plan.specs.declared.campaign.Item.{Item}
use Rattle.up_plan.specs.declared.campaign.Reach.{Reach}
use Rattle.up_plan.specs.declared.campaign.Reach.TheVariants.{All, Named}

-- ---- reach

-- `"all"`, or the list of vehicles
abbrev pub reach_data : Reach → Data
reach_data All = string (codes "all")
reach_data (Named vehicles) = list_with (map string vehicles)

unfoldable pub reach_column : Reach → List ℕ
reach_column reach = text (reach_data reach)

-- the word `all`
abbrev pub is_all : Data → Bool
is_all value = unwrap_or (option_map (bytes_eq (codes "all")) (json.as_str value)) false

unfoldable pub named_of : List ℕ → Data → Result Reach Refusal
named_of name value = do
  values ← list_of name value
  vehicles ← each (ident_of name) values
  Ok (Named vehicles)

unfoldable pub reach_of : List ℕ → Data → Result Reach Refusal
reach_of name value = if is_all value then Ok All else named_of name value

unfoldable pub reach_in : List ℕ → Result Reach Refusal
reach_in column = do
  value ← value_within (length column) column
  reach_of (codes "vehicles") value

-- ---- items

-- `{"file":F,"hardware":H}`
abbrev pub item_data : Item → Data
item_data item = object_with ((codes "file", string item.file) ∷ (codes "hardware", string item.hardware) ∷ [])

abbrev pub items_data : List Item → Data
items_data items = list_with (map item_data items)

unfoldable pub items_column : List Item → List ℕ
items_column items = text (items_data items)

unfoldable pub item_of : List ℕ → Data → Result Item Refusal
item_of name value = do
  d ← object_of name value
  hardware ← ident_in (codes "hardware") d
  file ← file_name_in (codes "file") d
  Ok (record { hardware = hardware; file = file })

abbrev pub campaign_items_in : List ℕ → Result (List Item) Refusal
campaign_items_in column = items_in item_of (codes "items") column
