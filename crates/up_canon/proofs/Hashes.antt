-- The hashes of an image as they are written, and what they mean.
use Rattle.std.proofs.Common.{◌≡◌, ℕ, ◌*◌, List, true, Option, Some, None, length, refl, arith}
use Rattle.std.specs.Prelude.{◌==◌, nat_lt, codes}
use Rattle.std.specs.List.{list_all}
use Rattle.std.proofs.lemmas.Bool.{and_parts}
use Rattle.std.proofs.lemmas.Bool.Decides.{nat_tests}
use Rattle.hex.specs.Hex.{encode_lower, lower_digits}
use Rattle.hex.proofs.HexLemmas.{length-encode_with, decode_of-encode_lower}
use Rattle.serde_json.specs.Data.{Data, depth}
use Rattle.serde_json.specs.Find as json
use Rattle.up_canon.specs.Build.{hex_value, hashes_value}
use Rattle.up_canon.specs.Canon.{is_plain}
use Rattle.up_canon.specs.HexText.{is_second_hash}
use Rattle.up_canon.specs.Meaning.{HasHex, MeansIfAny}
use Rattle.up_canon.proofs.ByteTests.{bytes_placed}
use Rattle.up_canon.proofs.Printable.{printable-hex}

-- ---- the members

pub first_hash : (sha256 : List ℕ) (sha512 : Option (List ℕ)) → json.get (codes "sha256") (hashes_value sha256 sha512) ≡ Some (hex_value sha256)
first_hash sha256 None = refl
first_hash sha256 (Some hash) = refl

pub hashes_depth : (sha256 : List ℕ) (sha512 : Option (List ℕ)) → depth (hashes_value sha256 sha512) ≡ 1
hashes_depth sha256 None = refl
hashes_depth sha256 (Some hash) = refl

pub hashes_plain : (sha256 : List ℕ) (sha512 : Option (List ℕ)) → list_all (λ x. nat_lt x 256) sha256 ≡ true → is_second_hash sha512 ≡ true → is_plain (hashes_value sha256 sha512) ≡ true
hashes_plain sha256 None h k = rw (printable-hex sha256 h) refl
hashes_plain sha256 (Some hash) h k = rw (printable-hex sha256 h, printable-hex hash (and_parts (length hash == 64) _ k).1) refl

-- ---- what they mean

-- the digits of so many bytes
unfoldable pub spelled_hash : (size : ℕ) (d : Data) (name hash : List ℕ) → json.get name d ≡ Some (hex_value hash) → length hash ≡ size → list_all (λ x. nat_lt x 256) hash ≡ true → HasHex (2 * size) (2 * size) d name hash
spelled_hash size d name hash has whole bytes =
    let digits = length-encode_with lower_digits hash in
    record {
      digits = encode_lower hash;
      has_digits = has;
      at_least = omega arith;
      at_most = omega arith;
      decoded = decode_of-encode_lower hash (bytes_placed hash bytes);
    }

pub sha512_size : (hash : List ℕ) → is_second_hash (Some hash) ≡ true → length hash ≡ 64
sha512_size hash h = let whole = (and_parts (length hash == 64) _ h).0 in grind (arith, nat_tests)

pub second_hash : (sha256 : List ℕ) (sha512 : Option (List ℕ)) → is_second_hash sha512 ≡ true → MeansIfAny (HasHex 128 128 (hashes_value sha256 sha512) (codes "sha512")) sha512
second_hash sha256 None h = λ hash m. let has = m.has_digits in cc
second_hash sha256 (Some hash) h = spelled_hash 64 (hashes_value sha256 (Some hash)) (codes "sha512") hash refl (sha512_size hash h) (and_parts (length hash == 64) _ h).1
