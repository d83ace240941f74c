-- HMAC over SHA-256 keeps the laws of a scheme: a proof, which stands here because the scheme's `impl` cites it.
use Rattle.std.proofs.Common.{◌≡◌, ℕ, zero, suc, List, true, length, refl, ap₂, ◌∙◌, arith}
use Rattle.std.specs.Prelude.{◌&&◌, IsTrue, bytes_eq, slice_index}
use Rattle.std.specs.List.{list_all}
use Rattle.std.specs.Int.{bytes_high_first}
use Rattle.std.proofs.lemmas.Bool.Decides.{nat_tests}
use Rattle.std.proofs.lemmas.List.Folds.{list_all-append}
use Rattle.std.specs.Cmp.Lexicographic.{bytes_decides}
use Rattle.sha2.specs.Sha256.{sha256, digest_bytes}
use Rattle.sha2.proofs.Facts256.{length-sha256}
use Rattle.up_sign.specs.Schemes.{is_byte, IsScheme}
use Rattle.up_sign.specs.Hmac.{hmac, hmac_under, hmac_sha256}

-- a tag has 32 bytes
pub length-hmac : (k m : List ℕ) → length (hmac k m) ≡ 32
unfolding hmac hmac_under
length-hmac k m = length-sha256 _

-- the digits of a number to base 256 are bytes
are_bytes-high_first : (k n : ℕ) → list_all is_byte (bytes_high_first k n) ≡ true
are_bytes-high_first zero n = refl
are_bytes-high_first (suc zero) n = grind (arith, nat_tests)
are_bytes-high_first (suc (suc k)) n = grind (arith, nat_tests, are_bytes-high_first (suc k) n)

-- a digest's words are written as bytes
are_bytes-digest : (h : List ℕ) (n : ℕ) → list_all is_byte (digest_bytes h n) ≡ true
unfolding digest_bytes
are_bytes-digest h zero = refl
are_bytes-digest h (suc n) = list_all-append is_byte (digest_bytes h n) _ ∙ ap₂ (λ a b. a && b) (are_bytes-digest h n) (are_bytes-high_first 4 (slice_index h n))

-- a digest is made of bytes
pub are_bytes-sha256 : (m : List ℕ) → list_all is_byte (sha256 m) ≡ true
unfolding sha256
are_bytes-sha256 m = are_bytes-digest _ 8

-- a tag is made of bytes
pub are_bytes-hmac : (k m : List ℕ) → list_all is_byte (hmac k m) ≡ true
unfolding hmac hmac_under
are_bytes-hmac k m = are_bytes-sha256 _

-- a tag is equal to itself
pub same_tag : (g : List ℕ) → IsTrue (bytes_eq g g)
same_tag g = search ((bytes_decides g g).1 refl)

-- it keeps the laws of a scheme
pub hmac_sha256_lawful : IsScheme hmac_sha256
hmac_sha256_lawful = record {
  method = refl;
  shown = λ p. refl;
  public_fits = λ s h. h;
  tag_length = λ s m h. (omega (arith, length-hmac s m), omega (arith, length-hmac s m));
  tag_bytes = λ s m h. are_bytes-hmac s m;
  tag_is_valid = λ s m h. same_tag (hmac s m);
}
