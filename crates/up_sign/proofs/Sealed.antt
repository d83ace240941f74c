-- A sealed envelope is within the limits of the format.
use Rattle.std.proofs.Common.{◌≡◌, ℕ, ◌≤◌, List, [], ◌∷◌, true, length, map, refl, ap, ap₂, ◌∙◌, arith}
use Rattle.std.specs.Prelude.{◌&&◌, IsTrue, codes}
use Rattle.std.specs.List.{list_all}
use Rattle.std.proofs.lemmas.Bool.{and_parts}
use Rattle.std.proofs.lemmas.List.{length-map}
use Rattle.hex.specs.Hex.{lower_digits}
use Rattle.hex.proofs.HexLemmas.{length-encode_with}
use Rattle.up_canon.proofs.Members.{within_there}
use Rattle.up_canon.proofs.Printable.{both, printable-hex}
use Rattle.up_canon.specs.Names.{is_from_to, is_short_text}
use Rattle.up_sign.specs.Envelopes.{signature_of, sealed_envelope}
use Rattle.up_sign.specs.Formats.{signature_fits, envelope_fits, has_bytes}
use Rattle.up_sign.specs.Hmac.{hmac, key_id}
use Rattle.up_sign.specs.HmacLaws.{length-hmac, are_bytes-hmac}
use Rattle.up_sign.specs.Schemes.{Rules, is_byte, IsScheme}

key_id-fits : (p : List ℕ) → is_short_text 1 128 (key_id p) ≡ true
key_id-fits p =
    let bytes = hmac p (codes "uptane-key-id") in
    let size : length (key_id p) ≡ 64 = omega (arith, length-encode_with lower_digits bytes, length-hmac p (codes "uptane-key-id")) in
    both (is_from_to 1 128 (length (key_id p))) _ (ap (is_from_to 1 128) size) (printable-hex bytes (are_bytes-hmac p (codes "uptane-key-id")))

signature_of-fits : (k : Rules) → IsScheme k → (t s : List ℕ) → IsTrue (k.secret_fits s) → signature_fits (signature_of k t s) ≡ true
signature_of-fits k law t s fits =
    let size = law.tag_length s t fits in
    both _ _ (key_id-fits (k.public_of s)) (both _ _ law.method (within_there 1 512 (length (k.tag s t)) size.0 size.1))

all-fit : (k : Rules) → IsScheme k → (t : List ℕ) (secrets : List (List ℕ)) → IsTrue (list_all k.secret_fits secrets) → list_all signature_fits (map (signature_of k t) secrets) ≡ true
all-fit k law t [] fits = refl
all-fit k law t (s ∷ secrets) fits =
    let parts = and_parts (k.secret_fits s) (list_all k.secret_fits secrets) fits in
    ap₂ (λ x y. x && y) (signature_of-fits k law t s parts.0) (all-fit k law t secrets parts.1)

all-bytes : (k : Rules) → IsScheme k → (t : List ℕ) (secrets : List (List ℕ)) → IsTrue (list_all k.secret_fits secrets) → list_all (λ g. list_all is_byte g.sig) (map (signature_of k t) secrets) ≡ true
all-bytes k law t [] fits = refl
all-bytes k law t (s ∷ secrets) fits =
    let parts = and_parts (k.secret_fits s) (list_all k.secret_fits secrets) fits in
    ap₂ (λ x y. x && y) (law.tag_bytes s t parts.0) (all-bytes k law t secrets parts.1)

pub sealed_fits : (k : Rules) → IsScheme k → (secrets : List (List ℕ)) (t : List ℕ) → IsTrue (list_all k.secret_fits secrets) → 1 ≤ length secrets → length secrets ≤ 8
    → envelope_fits (sealed_envelope k secrets t) ≡ true
sealed_fits k law secrets t fits low high =
    let size : length (map (signature_of k t) secrets) ≡ length secrets = length-map secrets (signature_of k t) in
    ap₂ (λ x y. x && y) (ap (is_from_to 1 8) size ∙ within_there 1 8 (length secrets) low high) (all-fit k law t secrets fits)

pub sealed_bytes : (k : Rules) → IsScheme k → (secrets : List (List ℕ)) (t : List ℕ) → IsTrue (list_all k.secret_fits secrets) → has_bytes (sealed_envelope k secrets t) ≡ true
sealed_bytes k law secrets t fits = all-bytes k law t secrets fits
