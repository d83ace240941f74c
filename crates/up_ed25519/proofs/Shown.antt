-- The public key of a secret is read from what is shown of it.
use Rattle.std.proofs.Common.{◌≡◌, ℕ, zero, suc, ◌<◌, List, true, Some, None, refl, sym, ap, ap₂, ◌∙◌, mod-lt, lit<, get_or}
use Rattle.std.specs.Prelude.{Bool, ◌&&◌, bytes_eq, if◌then◌else◌}
use Rattle.std.specs.Cmp.Lexicographic.{bytes_decides}
use Rattle.hex.specs.Hex.{decode_of, encode_lower, IsBytes}
use Rattle.hex.proofs.HexLemmas.{decode_of-encode_lower}
use Rattle.up_shown.specs.Showing.{ShowsKeys, showing}
use Rattle.up_curve.specs.LittleEndian.{bytes}
use Rattle.up_curve.specs.Encoding.{encode}
use Rattle.up_curve.specs.Signatures.{public_of}
use Rattle.up_curve.proofs.Signatures.{sized}
use Rattle.up_ed25519.specs.Scheme.{ed25519, shown_of}
use Rattle.up_ed25519.specs.Lawful.{ed25519_lawful, shown_key}
use Rattle.up_ed25519.specs.Shows.{shown_by, read_shown}

-- each of the lowest bytes of a number is a byte
each_byte : (k n i : ℕ) → get_or (bytes k n) i 0 < 256
unfolding bytes
each_byte zero n i = lit< tt
each_byte (suc k) n zero = mod-lt n {m = 256} (lit< tt)
each_byte (suc k) n (suc i) = each_byte k _ i

public_bytes : (s : List ℕ) → IsBytes (public_of s)
unfolding public_of encode
public_bytes s i = each_byte 32 _ i

same_bytes : (xs : List ℕ) → bytes_eq xs xs ≡ true
same_bytes xs = (bytes_decides xs xs).1 refl

read_key : (p : List ℕ) → ed25519.public_fits p ≡ true → IsBytes p → encode_lower p ≡ shown_of p → read_shown (shown_of p) ≡ Some p
unfolding read_shown
read_key p fits are same =
    ap (shown_by (shown_of p)) (ap decode_of (sym same) ∙ decode_of-encode_lower p are)
    ∙ ap (λ (b : Bool). if b then Some p else None) (ap₂ (λ a b. a && b) fits (same_bytes (shown_of p)))

pub shows_keys : ShowsKeys (showing ed25519 read_shown)
shows_keys s h = read_key (public_of s) (ed25519_lawful.public_fits s h) (public_bytes s) (shown_key (public_of s) (sized.public_length s) (public_bytes s))
