-- Bytes: as a test of each, and by their places; those of a hash.
use Rattle.std.proofs.Common.{◌≡◌, ℕ, zero, suc, ◌<◌, ◌&&◌, ◌==◌, List, [], ◌∷◌, Bool, true, length, refl, ap₂, arith}
use Rattle.std.specs.Prelude.{nat_lt}
use Rattle.std.specs.List.{list_all}
use Rattle.std.proofs.lemmas.Bool.{and_parts}
use Rattle.std.proofs.lemmas.Bool.Decides.{nat_tests}
use Rattle.hex.specs.Hex.{IsBytes}
use Rattle.up_canon.specs.HexText.{is_hash, is_sha512}
use Rattle.up_canon.proofs.Printable.{both}

pub bytes_placed : (xs : List ℕ) → list_all (λ x. nat_lt x 256) xs ≡ true → IsBytes xs
bytes_placed [] h i = omega arith
bytes_placed (x ∷ xs) h zero = let first = (and_parts (nat_lt x 256) _ h).0 in grind (arith, nat_tests)
bytes_placed (x ∷ xs) h (suc i) = bytes_placed xs (and_parts (nat_lt x 256) _ h).1 i

pub bytes_tested : (xs : List ℕ) → IsBytes xs → list_all (λ x. nat_lt x 256) xs ≡ true
bytes_tested [] h = refl
bytes_tested (x ∷ xs) h =
    let small : x < 256 = h 0 in
    let test : nat_lt x 256 ≡ true = grind (arith, nat_tests) in
    both _ _ test (bytes_tested xs (λ i. h (suc i)))

pub hash_typed : (hash : List ℕ) → length hash ≡ 32 → IsBytes hash → is_hash hash ≡ true
hash_typed hash size h =
    let whole : (length hash == 32) ≡ true = grind (arith, nat_tests) in
    ap₂ (λ (a b : Bool). a && b) whole (bytes_tested hash h)

pub sha512_typed : (hash : List ℕ) → length hash ≡ 64 → IsBytes hash → is_sha512 hash ≡ true
sha512_typed hash size h =
    let whole : (length hash == 64) ≡ true = grind (arith, nat_tests) in
    ap₂ (λ (a b : Bool). a && b) whole (bytes_tested hash h)
