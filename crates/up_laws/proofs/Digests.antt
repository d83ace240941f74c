-- A SHA-256 is 32 bytes.
use Rattle.std.proofs.Common.{◌≡◌, ℕ, zero, suc, ◌/◌, ◌%◌, ◌^◌, ◌<◌, List, [], ◌∷◌, ◌++◌, true, refl, ◌∙◌, arith}
use Rattle.std.specs.Prelude.{◌==◌, nat_lt, length, slice_index}
use Rattle.std.specs.Int.{byte_at, bytes_high_first, to_be_bytes, w32}
use Rattle.std.specs.List.{list_all}
use Rattle.std.proofs.Math.Nat.{mod-lt}
use Rattle.std.proofs.lemmas.Bool.Decides.{nat_tests}
use Rattle.std.proofs.lemmas.List.Folds.{list_all-append}
use Rattle.sha2.specs.Sha256.{digest_bytes, sha256}
use Rattle.sha2.proofs.Facts256.{length-sha256}
use Rattle.up_canon.specs.HexText.{is_hash}
use Rattle.up_canon.proofs.Printable.{both}

below : (x : ℕ) → x < 256 → nat_lt x 256 ≡ true
below x h = grind (arith, nat_tests)

one_byte : (i n : ℕ) → byte_at i n < 256
one_byte zero n = mod-lt n (omega arith)
one_byte (suc i) n = mod-lt (n / 256 ^ suc i) (omega arith)

all_bytes : (k n : ℕ) → list_all (λ x. nat_lt x 256) (bytes_high_first k n) ≡ true
all_bytes zero n = refl
all_bytes (suc k) n = both _ _ (below (byte_at k n) (one_byte k n)) (all_bytes k n)

digest_has_bytes : (h : List ℕ) (n : ℕ) → list_all (λ x. nat_lt x 256) (digest_bytes h n) ≡ true
unfolding digest_bytes
digest_has_bytes h zero = refl
digest_has_bytes h (suc n) =
    list_all-append (λ x. nat_lt x 256) (digest_bytes h n) (to_be_bytes w32 (slice_index h n)) ∙ both _ _ (digest_has_bytes h n) (all_bytes 4 (slice_index h n))

pub is_digest : (m : List ℕ) → is_hash (sha256 m) ≡ true
unfolding sha256
is_digest m =
    let size = length-sha256 m in
    let whole : (length (sha256 m) == 32) ≡ true = grind (arith, nat_tests) in
    both _ _ whole (digest_has_bytes _ 8)
