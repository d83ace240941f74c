-- Bytes that JSON holds as hexadecimal text (base 16 of RFC 4648).
use Rattle.std.specs.Prelude.{ℕ, ◌++◌, ◌&&◌, ◌||◌, ◌==◌, List, [], Bool, true, nat_lt, length, codes, Option, Some, None, Result}
use Rattle.std.specs.List.{list_all}
use Rattle.hex.specs.Hex.{decode_of, encode_lower}
use Rattle.serde_json.specs.Data.{Data}
use Rattle.up_canon.specs.Canon.{json_string}
use Rattle.up_canon.specs.Members.{member_in, text_of}
use Rattle.up_canon.specs.Names.{is_from_to}
use Rattle.up_canon.specs.Readers.{fitting}
use Rattle.up_canon.specs.Steps.{◌>>=◌, or_error, value_of}
use Rattle.up_canon.specs.declared.refusal.Refusal.{Refusal}
use Rattle.up_canon.specs.declared.refusal.Refusal.TheVariants.{BadShape}

-- a SHA-256 (FIPS 180-4): 32 bytes
abbrev pub is_hash : List ℕ → Bool
is_hash hash = (length hash == 32) && list_all (λ x. nat_lt x 256) hash

-- a SHA-512 (FIPS 180-4): 64 bytes
abbrev pub is_sha512 : List ℕ → Bool
is_sha512 hash = (length hash == 64) && list_all (λ x. nat_lt x 256) hash

-- a second hash, which may be left out, is a SHA-512
abbrev pub is_second_hash : Option (List ℕ) → Bool
is_second_hash None = true
is_second_hash (Some hash) = is_sha512 hash

-- the canonical text of the member of a second hash, where there is one, with the comma before it
abbrev pub second_hash_text : Option (List ℕ) → List ℕ
second_hash_text None = []
second_hash_text (Some hash) = codes ",\"sha512\":" ++ json_string (encode_lower hash)

-- a hexadecimal digit in lower case: `0` to `9` and `a` to `f`
abbrev pub is_lower_digit : ℕ → Bool
is_lower_digit x = is_from_to 48 57 x || is_from_to 97 102 x

-- the bytes of so many digits, of either case
unfoldable pub hex_of : ℕ → ℕ → List ℕ → Data → Result (List ℕ) Refusal
hex_of least most name d = do
  text ← text_of name d
  digits ← fitting (λ t. is_from_to least most (length t)) name text
  or_error (BadShape name) (value_of (decode_of digits))

-- the bytes of a member of so many digits, of either case
unfoldable pub hex_in : ℕ → ℕ → List ℕ → Data → Result (List ℕ) Refusal
hex_in least most name d = do
  value ← member_in name d
  hex_of least most name value

-- the 32 bytes of 64 digits, of either case
unfoldable pub sha256_in : List ℕ → Data → Result (List ℕ) Refusal
sha256_in name d = do
  value ← member_in name d
  hex_of 64 64 name value

-- the 64 bytes of a member `sha512` of 128 digits, of either case; any other member counts as none, so that no fault comes of it
unfoldable pub sha512_in : Data → Option (List ℕ)
sha512_in hashes = value_of (hex_in 128 128 (codes "sha512") hashes)
