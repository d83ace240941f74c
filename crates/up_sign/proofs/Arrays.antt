-- Arrays that are filled from a key.
use Rattle.std.proofs.Common.{◌≡◌, ℕ, ◌+◌, ◌<◌, ◌≤◌, List, [], ◌∷◌, ◌++◌, false, length, get_or, take, drop, map, set, replicate, bit_xor, refl, ap, ap₂, ◌∙◌, sym, arith}
use Rattle.std.specs.Prelude.{nat_lt}
use Rattle.std.proofs.lemmas.Grind.{take-set_at}
use Rattle.std.proofs.lemmas.List.{drop-replicate, map_more}
use Rattle.std.proofs.lemmas.Bool.Decides.{nat_tests}
use Rattle.up_sign.specs.Hmac.{block_key}

pub block_key-short : (key : List ℕ) → length key ≤ 64 → key ++ drop (length key) (replicate 64 0) ≡ block_key key
unfolding block_key
block_key-short key h =
    let short : nat_lt 64 (length key) ≡ false = grind (arith, nat_tests) in
    rw short (ap (λ z. key ++ z) (drop-replicate (length key) 64 0))

pub masked_more : (items block : List ℕ) (mask i y : ℕ) → i < length items → i < length block → take i items ≡ map (bit_xor mask) (take i block) → y ≡ bit_xor mask (get_or block i 0)
    → take (i + 1) (set items i y) ≡ map (bit_xor mask) (take (i + 1) block)
masked_more items block mask i y lt lt' done is =
    take-set_at items i (i + 1) y refl lt ∙ ap₂ (λ a b. a ++ b ∷ []) done is ∙ sym (map_more (bit_xor mask) block i 0 lt')
