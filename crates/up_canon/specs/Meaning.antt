-- What the members of a JSON value mean, as relations: which member of a name it has.
use Rattle.std.specs.Prelude.{◌≡◌, ℕ, ◌≤◌, List, [], ◌∷◌, length, Option, Some, None, Ok, ⊤, IsUtf8}
use Rattle.hex.specs.Hex.{decode_of}
use Rattle.serde_json.specs.Data.{unsigned, Data, number, string, object, Items, no_items, item, Members}
use Rattle.serde_json.specs.Find as json
use Rattle.serde_json.specs.Read.{read}
use Rattle.up_canon.specs.Canon.{max_count}

-- the bytes, no more than so many, are the text of the JSON value
pub record MeansValue (most : ℕ) (bytes : List ℕ) (value : Data) : Type 0 where
  pub small : length bytes ≤ most
  pub utf8 : IsUtf8 bytes
  pub reads : read bytes ≡ Some value

-- the member of that name is the text
abbrev pub HasText : Data → List ℕ → List ℕ → Type 0
HasText d name t = json.get name d ≡ Some (string t)

-- the member of that name is the count, a whole number up to 2^53-1
abbrev pub HasCount : Data → List ℕ → ℕ → Type 0
HasCount d name n = (json.get name d ≡ Some (number (unsigned n))) × (n ≤ max_count)

-- the member of that name is the object
abbrev pub HasObject : Data → List ℕ → Data → Type 0
HasObject d name o = (members : Members) × (json.get name d ≡ Some (object members)) × (o ≡ object members)

-- a text of so many hexadecimal digits, of either case
pub record HasHex (least most : ℕ) (d : Data) (name bytes : List ℕ) : Type 0 where
  pub digits : List ℕ
  pub has_digits : HasText d name digits
  pub at_least : least ≤ length digits
  pub at_most : length digits ≤ most
  pub decoded : decode_of digits ≡ Ok bytes

-- the value of which M holds, or none where M holds of no value
abbrev pub MeansIfAny : {A : Type 0} → (A → Type 0) → Option A → Type 0
MeansIfAny M (Some x) = M x
MeansIfAny {A = A} M None = (x : A) → M x → ⊥

-- each item of the list means the value at its place
abbrev pub EachMeans : {A : Type 0} → (Data → A → Type 0) → Items → List A → Type 0
EachMeans M no_items [] = ⊤
EachMeans M no_items (x ∷ xs) = ⊥
EachMeans M (item d ds) [] = ⊥
EachMeans M (item d ds) (x ∷ xs) = M d x × EachMeans M ds xs
