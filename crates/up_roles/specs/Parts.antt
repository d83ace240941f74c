-- Parts of a member, whose faults go by that member's name.
use Rattle.std.specs.Prelude.{ℕ, List, nat_le, length, codes, Option, Result}
use Rattle.std.specs.List.{list_all}
use Rattle.hex.specs.Hex.{decode_sized}
use Rattle.serde_json.specs.Data.{Data}
use Rattle.serde_json.specs.Find as json
use Rattle.up_canon.specs.HexText.{is_lower_digit}
use Rattle.up_canon.specs.Members.{text_of, count_of, list_of, object_of}
use Rattle.up_canon.specs.Names.{Name, is_from_to}
use Rattle.up_canon.specs.Readers.{ident_of, file_name_of, fitting}
use Rattle.up_canon.specs.Steps.{◌>>=◌, or_error, value_of}
use Rattle.up_canon.specs.declared.refusal.Refusal.{Refusal}
use Rattle.up_canon.specs.declared.refusal.Refusal.TheVariants.{BadShape}

-- the part of that name
unfoldable pub part_in : List ℕ → List ℕ → Data → Result Data Refusal
part_in fault name d = or_error (BadShape fault) (json.get name d)

-- what the part of that name is read as
abbrev pub part_as : {A : Type 0} → (List ℕ → Data → Result A Refusal) → List ℕ → List ℕ → Data → Result A Refusal
part_as reader fault name d = do
  value ← part_in fault name d
  reader fault value

unfoldable pub object_part : List ℕ → List ℕ → Data → Result Data Refusal
object_part = part_as object_of

-- a list of so many items
unfoldable pub few_part : ℕ → ℕ → List ℕ → List ℕ → Data → Result (List Data) Refusal
few_part least most fault name d = do
  value ← part_in fault name d
  values ← list_of fault value
  fitting (λ vs. is_from_to least most (length vs)) fault values

unfoldable pub text_part : List ℕ → List ℕ → Data → Result (List ℕ) Refusal
text_part = part_as text_of

unfoldable pub count_part : List ℕ → List ℕ → Data → Result ℕ Refusal
count_part = part_as count_of

-- a count from 1
unfoldable pub positive_part : List ℕ → List ℕ → Data → Result ℕ Refusal
positive_part fault name d = do
  count ← count_part fault name d
  fitting (nat_le 1) fault count

unfoldable pub ident_part : List ℕ → List ℕ → Data → Result Name Refusal
ident_part = part_as ident_of

unfoldable pub file_name_part : List ℕ → List ℕ → Data → Result Name Refusal
file_name_part = part_as file_name_of

-- the text of that name among the hashes, of lower case hexadecimal digits
unfoldable pub digits_part : List ℕ → List ℕ → Data → Result (List ℕ) Refusal
digits_part fault name d = do
  hashes ← object_part fault (codes "hashes") d
  digits ← text_part fault name hashes
  fitting (list_all is_lower_digit) fault digits

-- the hash of so many bytes of that name among the hashes
unfoldable pub hash_part : ℕ → List ℕ → List ℕ → Data → Result (List ℕ) Refusal
hash_part size fault name d = do
  digits ← digits_part fault name d
  or_error (BadShape fault) (value_of (decode_sized digits size))

-- the SHA-256
abbrev pub sha256_part : List ℕ → Data → Result (List ℕ) Refusal
sha256_part fault d = hash_part 32 fault (codes "sha256") d

-- the SHA-512, of 128 lower case digits; any other member counts as none, so that no fault comes of it
abbrev pub sha512_part : Data → Option (List ℕ)
sha512_part d = value_of (hash_part 64 (codes "hashes") (codes "sha512") d)
