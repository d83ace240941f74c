-- A key of HMAC whose pads are hashed.
use Rattle.std.specs.Prelude.{ℕ, List, map, bit_xor}
use Rattle.sha2.specs.declared.Sha256.{Sha256}
use Rattle.sha2.specs.Hashers.{Holds256}
use Rattle.up_sign.specs.Hmac.{inner_pad, outer_pad}

-- the two hashes have taken in the block under its two masks, and no more (RFC 2104, section 4)
pub record AreHashed (i o : Sha256) (block : List ℕ) : Type 0 where
  pub inner : Holds256 i (map (bit_xor inner_pad) block)
  pub outer : Holds256 o (map (bit_xor outer_pad) block)
