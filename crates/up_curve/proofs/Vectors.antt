-- The first test vector of RFC 8032, section 7.1, by computation.
use Rattle.std.proofs.Common.{◌≡◌, ℕ, ◌+◌, ◌*◌, ◌%◌, ◌^◌, ◌<◌, ◌++◌, refl, sym, ◌∙◌, ap, List, [], ◌∷◌, lit<, take, mod-lt, arith}
use Rattle.sha2.specs.Sha512.{sha512, digest_bytes, hash_after, compress, rounds, schedule, first_words}
use Rattle.up_curve.proofs.Prime.{pow_mod}
use Rattle.up_curve.proofs.Curve.{add, multiple, base, order, neutral, neutral_point, base_point, multiple_point, add_neutral, reduced, doubled, doubled_is, bit, inverse}
use Rattle.up_curve.proofs.Decode.{number, bytes, encode}
use Rattle.up_curve.proofs.Signatures.{scalar_of, public_of, nonce_of, signature_of, signature_with}

secret : List ℕ
secret = 157 ∷ 97 ∷ 177 ∷ 157 ∷ 239 ∷ 253 ∷ 90 ∷ 96 ∷ 186 ∷ 132 ∷ 74 ∷ 244 ∷ 146 ∷ 236 ∷ 44 ∷ 196 ∷ 68 ∷ 73 ∷ 197 ∷ 105 ∷ 123 ∷ 50 ∷ 105 ∷ 25 ∷ 112 ∷ 59 ∷ 172 ∷ 3 ∷ 28 ∷ 174 ∷ 127 ∷ 96 ∷ []

public : List ℕ
public = 215 ∷ 90 ∷ 152 ∷ 1 ∷ 130 ∷ 177 ∷ 10 ∷ 183 ∷ 213 ∷ 75 ∷ 254 ∷ 211 ∷ 201 ∷ 100 ∷ 7 ∷ 58 ∷ 14 ∷ 225 ∷ 114 ∷ 243 ∷ 218 ∷ 166 ∷ 35 ∷ 37 ∷ 175 ∷ 2 ∷ 26 ∷ 104 ∷ 247 ∷ 7 ∷ 81 ∷ 26 ∷ []

signature : List ℕ
signature = 229 ∷ 86 ∷ 67 ∷ 0 ∷ 195 ∷ 96 ∷ 172 ∷ 114 ∷ 144 ∷ 134 ∷ 226 ∷ 204 ∷ 128 ∷ 110 ∷ 130 ∷ 138 ∷ 132 ∷ 135 ∷ 127 ∷ 30 ∷ 184 ∷ 229 ∷ 217 ∷ 116 ∷ 216 ∷ 115 ∷ 224 ∷ 101 ∷ 34 ∷ 73 ∷ 1 ∷ 85 ∷ 95 ∷ 184 ∷ 130 ∷ 21 ∷ 144 ∷ 163 ∷ 59 ∷ 172 ∷ 198 ∷ 30 ∷ 57 ∷ 112 ∷ 28 ∷ 249 ∷ 180 ∷ 107 ∷ 210 ∷ 91 ∷ 245 ∷ 240 ∷ 89 ∷ 91 ∷ 190 ∷ 36 ∷ 101 ∷ 81 ∷ 65 ∷ 67 ∷ 142 ∷ 122 ∷ 16 ∷ 11 ∷ []

-- a multiple of the base point by doubling
by_doubling : (fuel n : ℕ) → n < 2 ^ fuel → multiple n base ≡ doubled fuel n base neutral
by_doubling fuel n h =
    sym (add_neutral (multiple n base) (multiple_point n base base_point)) ∙ sym (doubled_is fuel n base neutral h base_point neutral_point)

encoded : encode (doubled 256 (scalar_of secret) base neutral) ≡ public
unfolding encode doubled bit add inverse pow_mod scalar_of number bytes sha512 digest_bytes hash_after compress rounds schedule first_words secret public
encoded = refl

scalar_below : scalar_of secret < 2 ^ 256
unfolding scalar_of number sha512 digest_bytes hash_after compress rounds schedule first_words secret
scalar_below = lit< tt

public_is : public_of secret ≡ public
unfolding public_of
public_is = ap encode (by_doubling 256 (scalar_of secret) scalar_below) ∙ encoded

by_reduced : (n : ℕ) → multiple n base ≡ doubled 253 (n % order) base neutral
by_reduced n = sym (reduced n) ∙ by_doubling 253 (n % order) (omega (arith, mod-lt n {m = order} (lit< tt)))

first_half : encode (doubled 253 (nonce_of secret [] % order) base neutral) ≡ take 32 signature
unfolding encode doubled bit add inverse pow_mod nonce_of number bytes sha512 digest_bytes hash_after compress rounds schedule first_words secret signature
first_half = refl

second_half : take 32 signature ++ bytes 32 ((nonce_of secret [] + number (sha512 (take 32 signature ++ public ++ [])) % order * scalar_of secret) % order) ≡ signature
unfolding nonce_of scalar_of number bytes sha512 digest_bytes hash_after compress rounds schedule first_words secret signature public
second_half = refl

-- the signature of the empty message
signed : signature_of secret [] ≡ signature
unfolding signature_of
signed =
    ap (λ r. signature_with r secret []) (ap encode (by_reduced (nonce_of secret [])) ∙ first_half)
    ∙ ap (λ q. take 32 signature ++ bytes 32 ((nonce_of secret [] + number (sha512 (take 32 signature ++ q ++ [])) % order * scalar_of secret) % order)) public_is
    ∙ second_half
