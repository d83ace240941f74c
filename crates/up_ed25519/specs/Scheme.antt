-- Ed25519 as a scheme of signatures.
use Rattle.std.specs.Prelude.{ℕ, ◌==◌, ◌&&◌, Bool, List, [], length, codes, if◌then◌else◌}
use Rattle.std.specs.List.{list_all}
use Rattle.hex.specs.Hex.{encode_lower}
use Rattle.up_sign.specs.Schemes.{Rules, is_byte}
use Rattle.up_curve.specs.Keys.{is_public}
use Rattle.up_curve.specs.Signatures.{public_of, signature_of, is_valid}

-- 32 bytes
abbrev pub is_key : List ℕ → Bool
is_key p = (length p == 32) && list_all is_byte p

-- what is shown of a public key: its hex text
unfoldable pub shown_of : List ℕ → List ℕ
shown_of p = if is_key p then encode_lower p else []

-- the scheme of RFC 8032, section 5.1
abbrev pub ed25519 : Rules
ed25519 = record {
  method = codes "ed25519";
  secret_fits = λ s. length s == 32;
  public_fits = is_public;
  public_of = public_of;
  shown = shown_of;
  tag = signature_of;
  is_valid = is_valid;
}
