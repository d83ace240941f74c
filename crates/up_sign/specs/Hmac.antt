-- HMAC (RFC 2104) over SHA-256 (FIPS 180-4), key identifiers, and the shipped scheme.
use Rattle.std.specs.Prelude.{ℕ, ◌-◌, ◌++◌, ◌==◌, List, [], nat_lt, if◌then◌else◌, length, map, replicate, codes, bit_xor, bytes_eq}
use Rattle.sha2.specs.Sha256.{sha256}
use Rattle.hex.specs.Hex.{encode_lower}
use Rattle.up_sign.specs.Schemes.{Rules}

-- the key with zero bytes up to 64, hashed first if longer
unfoldable pub block_key : List ℕ → List ℕ
block_key key = if nat_lt 64 (length key) then sha256 key ++ replicate 32 0 else key ++ replicate (64 - length key) 0

-- the byte that masks the key of the inner hash (RFC 2104)
abbrev pub inner_pad : ℕ
inner_pad = 0x36

-- the byte that masks the key of the outer hash (RFC 2104)
abbrev pub outer_pad : ℕ
outer_pad = 0x5c

-- H(K xor opad, H(K xor ipad, text)) of RFC 2104, where H is SHA-256 (FIPS 180-4), and K is the block of a key
unfoldable pub hmac_under : List ℕ → List ℕ → List ℕ
hmac_under block m =
    sha256 (map (bit_xor outer_pad) block ++ sha256 (map (bit_xor inner_pad) block ++ m))

-- HMAC of RFC 2104
unfoldable pub hmac : List ℕ → List ℕ → List ℕ
hmac key m = hmac_under (block_key key) m

-- the identifier of a public part, in every scheme
abbrev pub key_id : List ℕ → List ℕ
key_id p = encode_lower (hmac p (codes "uptane-key-id"))

-- the shipped scheme: secret and public part are one, and nothing is shown of them
abbrev pub hmac_sha256 : Rules
hmac_sha256 = record {
  method = codes "hmac-sha256";
  secret_fits = λ s. length s == 32;
  public_fits = λ p. length p == 32;
  public_of = λ s. s;
  shown = λ p. [];
  tag = hmac;
  is_valid = λ p m g. bytes_eq g (hmac p m);
}
