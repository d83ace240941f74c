-- What is read of a JSON value: the member of a name, a text, a count, a list, an object, or the name as the fault.
use Rattle.std.specs.Prelude.{◌≡◌, ℕ, List, [], ◌∷◌, nat_le, map, option_map, option_and_then, String, Result, Err}
use Rattle.std.specs.declared.alloc.Global.{Global}
use Rattle.serde_json.specs.Data.{Data, object, Items, no_items, item}
use Rattle.serde_json.specs.Find as json
use Rattle.serde_json.specs.View.{view, members_view}
use Rattle.serde_json.specs.declared.value.Value.{Value}
use Rattle.up_canon.specs.Canon.{max_count}
use Rattle.up_canon.specs.Steps.{◌>>=◌, or_error, if_passes}
use Rattle.up_canon.specs.declared.refusal.Refusal.{Refusal}
use Rattle.up_canon.specs.declared.refusal.Refusal.TheVariants.{BadShape}

-- the object that a map stands for
abbrev pub object_of_map : List (String Global × Value) → Data
object_of_map entries = object (members_view entries)

-- the values of a vector
abbrev pub values_of : List Value → List Data
values_of values = map view values

-- the fault is the name, and what is computed is refused by it
abbrev pub IsFault : {A : Type 0} → Result A Refusal → List ℕ → List ℕ → Type 0
IsFault computed name fault = (fault ≡ name) × (computed ≡ Err (BadShape name))

-- the items of a JSON list, as a list
abbrev pub items_list : Items → List Data
items_list no_items = []
items_list (item d ds) = d ∷ items_list ds

-- ---- a value of a kind, under its name

-- a text
unfoldable pub text_of : List ℕ → Data → Result (List ℕ) Refusal
text_of name d = or_error (BadShape name) (json.as_str d)

-- a whole number from 0 to 2^53-1
unfoldable pub count_of : List ℕ → Data → Result ℕ Refusal
count_of name d = or_error (BadShape name) (if_passes (λ n. nat_le n max_count) (option_and_then json.as_u64 (json.as_number d)))

-- the items of a list
unfoldable pub list_of : List ℕ → Data → Result (List Data) Refusal
list_of name d = or_error (BadShape name) (option_map items_list (json.as_array d))

-- an object
unfoldable pub object_of : List ℕ → Data → Result Data Refusal
object_of name d = or_error (BadShape name) (option_map object (json.as_object d))

-- ---- a member of an object

-- the value of that name
unfoldable pub member_in : List ℕ → Data → Result Data Refusal
member_in name d = or_error (BadShape name) (json.get name d)

-- what the value of that name is read as
abbrev pub member_as : {A : Type 0} → (List ℕ → Data → Result A Refusal) → List ℕ → Data → Result A Refusal
member_as reader name d = do
  value ← member_in name d
  reader name value

-- a text, a count, a list, an object of that name

unfoldable pub text_in : List ℕ → Data → Result (List ℕ) Refusal
text_in = member_as text_of

unfoldable pub count_in : List ℕ → Data → Result ℕ Refusal
count_in = member_as count_of

unfoldable pub list_in : List ℕ → Data → Result (List Data) Refusal
list_in = member_as list_of

unfoldable pub object_in : List ℕ → Data → Result Data Refusal
object_in = member_as object_of
