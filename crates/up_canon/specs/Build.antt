-- JSON values made of their parts.
use Rattle.std.specs.Prelude.{ℕ, List, [], ◌∷◌, Option, option_map, option_to_list, codes}
use Rattle.hex.specs.Hex.{encode_lower}
use Rattle.serde_json.specs.Data.{unsigned, Data, number, string, array, object, Members, no_members, put}
use Rattle.serde_json.specs.View.{items_of}

-- the members of these names, in the order of the names; of two of one name the first counts
abbrev pub members_with : List (List ℕ × Data) → Members
members_with [] = no_members
members_with (m ∷ ms) = put m.0 m.1 (members_with ms)

-- the object of these members
abbrev pub object_with : List (List ℕ × Data) → Data
object_with ms = object (members_with ms)

-- the list of these items
abbrev pub list_with : List Data → Data
list_with ds = array (items_of ds)

-- a whole number
abbrev pub count_value : ℕ → Data
count_value n = number (unsigned n)

-- bytes as lower case hexadecimal digits
abbrev pub hex_value : List ℕ → Data
hex_value bytes = string (encode_lower bytes)

-- a SHA-256 and, where there is one, a SHA-512, each under the name of its hash function
abbrev pub hashes_value : List ℕ → Option (List ℕ) → Data
hashes_value sha256 sha512 = object_with ((codes "sha256", hex_value sha256) ∷ option_to_list (option_map (λ hash. (codes "sha512", hex_value hash)) sha512))
